-- `entering::reserving::reserve_all` meets its contract. The loop's invariant: reserving the m pages is what is done and then reserving those from q on, for which blocks are free. Assumes nothing.
use Prim.Native.Nat.{◌+◌, ◌-◌}
use Rattle.tables.specs.Packed.{unpack}
use Rattle.tables.specs.Views.{none_pending}
use Rattle.copying.proofs.Chains.{up_pages}
use Rattle.entering.proofs.Pending.{Reserving, reserving}
use Rattle.entering.proofs.reserving.reserve_all.Given as goal

abbrev pub invariant-loop-q : goal.invariant-loop-q
invariant-loop-q l = Reserving l.initial.t l.t none_pending l.pending l.f l.s l.q (l.first + l.m - l.q) l.initial.w l.w (up_pages (reserving l.s) (unpack l.initial.t).sets l.first l.m)
