-- `compacting::compact::place_map` meets its contract. The loop's invariant: the places before group g are done, and the owners' window is right. Assumes nothing.
use mathlib.Core.Path.{◌∙◌}
use Prim.Native.Nat.{◌*◌, ◌+◌}
use native.Mathlib.Omega.{arith}
use Rattle.compacting.proofs.Tracking.{tracked_later}
use Rattle.compacting.proofs.Turning.{gather_here, gather_then, gathered_at}
use Rattle.compacting.proofs.compact.place_map.Goals as goal

pub loop-g-init : goal.loop-g-init
loop-g-init c = (
  gathered_at _ _ _ _ (c.args.r * 64) _ _ (gather_here _ _ c.requires.0 (c.args.r * 64) _ c.requires.1) (omega arith),
  tracked_later _ _ _ (c.args.r * 64) c.requires.4 _ (omega arith),
)

pub place_group-k-requires : goal.place_group-k-requires
place_group-k-requires c =
    let l = c.loop-g.invariant in
    (l.0.lent, l.0.order, c.requires.2, c.loop-g-test.true, c.loop-g.auto.spare ∙ c.requires.3, l.1)

pub loop-g-preserved : goal.loop-g-preserved
loop-g-preserved c =
    let g = c.place_group-k in
    let l = c.loop-g in (
      gathered_at _ _ _ _ _ _ _ (gather_then _ _ _ _ _ _ (c.args.r * 64 + l.g * 4) _ _ _ l.invariant.0 g.ensures.0) (omega arith),
      tracked_later _ _ _ _ g.ensures.1 _ (omega arith),
    )

pub returns : goal.returns
returns c =
    let l = c.loop-g in
    (gathered_at _ _ _ _ _ _ _ l.invariant.0 (omega arith), tracked_later _ _ _ _ l.invariant.1 _ (omega arith))
