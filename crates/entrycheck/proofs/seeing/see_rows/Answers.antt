-- `entrycheck::seeing::see_rows` meets its contract. Assumes nothing.
use mathlib.Core.Path.{subst, sym}
use Prim.Native.Nat.{◌<◌, ◌^◌}
use native.Mathlib.Omega.{arith}
use Rattle.masks.proofs.LowestBit.{less, less_lt}
use Rattle.entrycheck.proofs.MovedPages.{moved_none, moved_then}
use Rattle.entrycheck.proofs.RowSteps.{Whole, row_at, rows_lt, whole_next, whole_start}
use Rattle.entrycheck.proofs.seeing.see_rows.Goals as goal

pub loop-q-init : goal.loop-q-init
loop-q-init c =
    let e = sym c.rows_of-q.ensures in
    let m = c.args.m in
    (subst (λ q. q < 2 ^ 64) e (rows_lt m), subst (λ q. Whole q m) e (whole_start m), moved_none _ _ _ _ c.told-seen)

pub see_row-requires : goal.see_row-requires
see_row-requires c =
    let l = c.loop-q in
    let r = row_at l.q _ _ (omega arith) l.invariant.0 l.invariant.1 c.lowest.ensures.0 in
    (c.requires, r.0, r.1)

pub returns-in_err-left : goal.returns-in_err-left
returns-in_err-left c = rw c.from_residual.ensures (moved_then _ _ _ _ _ _ _ _ _ c.loop-q.invariant.2 c.in_err-left.ensures.moved)

pub loop-q-smaller : goal.loop-q-smaller
loop-q-smaller c = less c.loop-q.q (omega arith)

pub loop-q-preserved : goal.loop-q-preserved
loop-q-preserved c =
    let l = c.loop-q in (
      less_lt l.q l.invariant.0,
      whole_next l.q _ _ (omega arith) l.invariant.0 l.invariant.1 c.lowest.ensures.0 _ c.in_ok-left.ensures.others,
      moved_then _ _ _ _ _ _ _ _ _ l.invariant.2 c.in_ok-left.ensures.moved,
    )

pub returns : goal.returns
returns c = c.loop-q.invariant.2
