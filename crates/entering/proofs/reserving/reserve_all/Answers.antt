-- `entering::reserving::reserve_all` meets its contract. The loop's invariant: reserving the m pages is what is done and then reserving those from q on, for which blocks are free. Assumes nothing.
use mathlib.Core.List.{List}
use mathlib.Core.Path.{◌≡◌, refl, subst, sym, ◌∙◌}
use Prim.Native.Nat.{◌+◌, ◌-◌}
use native.Mathlib.Omega.{arith}
use lib.ListN.{length-set}
use Rattle.tables.proofs.Pending.{pending_set}
use Rattle.tables.specs.Packed.{unpack}
use Rattle.tables.specs.Views.{none_pending}
use Rattle.tables.specs.declared.entries.Pending.{Pending}
use Rattle.copying.proofs.Chains.{up_pages}
use Rattle.entering.proofs.Pending.{Reserving, none_in, reserving, reserving_done, reserving_some, reserving_start, reserving_turn}
use Rattle.entering.proofs.reserving.reserve_all.Goals as goal

pub loop-q-init : goal.loop-q-init
loop-q-init c =
    let a = c.args in
    let e : a.first + a.m - a.first ≡ a.m = omega arith in
    rw e (subst (λ (x : List Pending). Reserving a.t.now a.t.now none_pending x a.f a.s a.first a.m a.k a.k (up_pages (reserving a.s) (unpack a.t.now).sets a.first a.m))
    (sym c.none_pending-pending.ensures)
    (reserving_start a.f a.s a.first a.m c.requires.0 c.requires.1 (none_in none_pending _ refl) c.requires.5))

pub reserve-own-requires : goal.reserve-own-requires
reserve-own-requires c =
    let a = c.args in
    let g = c.loop-q.invariant in
    (g.packed, g.sound, c.requires.2, c.requires.3, omega (arith, c.new.ensures), reserving_some (a.first + a.m - (c.loop-q.q + 1)) _ g (omega arith) c.new.ensures)

pub loop-q-preserved : goal.loop-q-preserved
loop-q-preserved c =
    let a = c.args in
    let o = c.of in
    let l = c.loop-q in
    let len = l.invariant.pending.len in
    reserving_turn (a.first + a.m - (l.q + 1)) _ _ l.invariant (omega arith) c.new.ensures c.reserve-own.ensures
    (pending_set l.pending l.q o.result _ (omega (arith, len)) o.ensures) (length-set l.pending l.q o.result ∙ len)

pub returns : goal.returns
returns c = reserving_done c.loop-q.invariant (omega arith)
