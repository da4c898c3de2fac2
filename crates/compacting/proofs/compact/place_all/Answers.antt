-- `compacting::compact::place_all` meets its contract. The loop's invariant: the records before record r are done, and the owners' window is right. Assumes nothing.
use mathlib.Core.Path.{◌∙◌}
use Prim.Native.Nat.{◌*◌}
use native.Mathlib.Omega.{arith}
use Rattle.compacting.proofs.Tracking.{tracked_later, tracked_start}
use Rattle.compacting.proofs.Turning.{gather_start, gather_then, gathered_at}
use Rattle.compacting.proofs.compact.place_all.Goals as goal

pub loop-r-init : goal.loop-r-init
loop-r-init c =
    (gather_start _ _ c.requires.0, tracked_start _ _ _ _ c.requires.0 c.none-owners.ensures)

pub place_record-k-requires : goal.place_record-k-requires
place_record-k-requires c =
    let l = c.loop-r.invariant in
    (l.0.lent, l.0.order, c.loop-r-test.true, c.loop-r.auto.spare ∙ c.requires.1, l.1)

pub loop-r-preserved : goal.loop-r-preserved
loop-r-preserved c =
    let g = c.place_record-k in
    let l = c.loop-r in (
      gathered_at _ _ _ _ _ _ _ (gather_then _ _ _ _ _ _ (l.r * 64) _ _ _ l.invariant.0 g.ensures.0) (omega arith),
      tracked_later _ _ _ _ g.ensures.1 _ (omega arith),
    )

pub returns : goal.returns
returns c = gathered_at _ _ _ _ _ _ _ c.loop-r.invariant.0 (omega arith)
