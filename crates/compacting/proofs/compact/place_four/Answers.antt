-- `compacting::compact::place_four` meets its contract. The loop's invariant: the places before page q are done, k blocks are given, and the owners' window is right. Assumes nothing.
use mathlib.Core.Path.{◌≡◌, ap, sym, ◌∙◌}
use Prim.Native.Nat.{◌*◌, ◌+◌}
use native.Mathlib.Omega.{arith}
use Rattle.compaction.specs.Compact.{entry_in}
use Rattle.tables.specs.Packed.{unpack}
use Rattle.compacting.proofs.Tracking.{tracked_later}
use Rattle.compacting.proofs.Turning.{gather_here, gather_then, gathered_as, gathered_at, gathered_few}
use Rattle.compacting.proofs.compact.place_four.Goals as goal

pub loop-q-init : goal.loop-q-init
loop-q-init c = (
  gathered_at _ _ _ _ (c.args.r * 64 + c.args.g * 4) _ _ (gather_here _ _ c.requires.0 (c.args.r * 64 + c.args.g * 4) _ c.requires.1) (omega arith),
  tracked_later _ _ _ (c.args.r * 64 + c.args.g * 4) c.requires.5 _ (omega arith),
)

pub entry_of-e-requires : goal.entry_of-e-requires
entry_of-e-requires c = (c.loop-q.invariant.0.lent.packed.len, c.requires.2, omega arith)

pub place_entry-requires : goal.place_entry-requires
place_entry-requires c =
    let l = c.loop-q.invariant in
    let q = c.loop-q.q in
    let i : c.args.r * 64 + (c.args.g * 4 + q) ≡ c.args.r * 64 + c.args.g * 4 + q = omega arith in
    (l.0.lent, l.0.order, omega arith, c.entry_of-e.ensures ∙ ap (entry_in (unpack c.loop-q.t).files) i, c.loop-q.auto.spare ∙ c.requires.4, l.1)

pub given-k-requires : goal.given-k-requires
given-k-requires c =
    let l = c.loop-q in
    let z = gathered_few _ _ _ _ (c.args.r * 64 + c.args.g * 4 + l.q) l.k l.invariant.0 in
    omega (arith, z)

pub loop-q-preserved : goal.loop-q-preserved
loop-q-preserved c =
    let g = c.place_entry in
    let l = c.loop-q in (
      gathered_at _ _ _ _ _ _ _
          (gathered_as _ _ _ _ _ _ _ (gather_then _ _ _ _ _ _ (c.args.r * 64 + c.args.g * 4 + l.q) l.k _ _ l.invariant.0 g.ensures.0) (sym c.given-k.ensures)) (omega arith),
      tracked_later _ _ _ _ g.ensures.1 _ (omega arith),
    )

pub returns : goal.returns
returns c =
    let l = c.loop-q in
    (gathered_at _ _ _ _ _ _ _ l.invariant.0 (omega arith), tracked_later _ _ _ _ l.invariant.1 _ (omega arith))
