-- `entering::enter_all` meets its contract. The loop's invariant: entering the m pages is what is done and then entering those from q on. Assumes nothing.
use Prim.Native.Nat.{◌+◌, ◌-◌}
use Rattle.rules.specs.Storage.{overlay}
use Rattle.tables.specs.Packed.{unpack}
use Rattle.tables.specs.Views.{pending_of}
use Rattle.copying.proofs.Chains.{up_pages}
use Rattle.entering.proofs.Pending.{Entering, entering}
use Rattle.entering.proofs.enter_all.Given as goal

abbrev pub invariant-loop-q : goal.invariant-loop-q
invariant-loop-q l =
    Entering (pending_of l.pending) l.initial.t l.initial.p l.t l.p l.f l.s l.q (l.first + l.m - l.q) (overlay l.off l.data) l.k (up_pages (entering l.s (overlay l.off l.data)) (unpack l.initial.t).sets l.first l.m)
