-- `entrycheck::seeing::see_pages` meets its contract. Assumes nothing.
use native.Mathlib.Omega.{arith}
use Rattle.masks.proofs.LowestBit.{less, less_lt}
use Rattle.entrycheck.proofs.MovedPages.{moved_none}
use Rattle.entrycheck.proofs.RowSteps.{page_next, page_not, pages_done}
use Rattle.entrycheck.proofs.seeing.see_pages.Goals as goal

pub loop-left-init : goal.loop-left-init
loop-left-init c = (omega arith, moved_none _ _ _ _ c.told-seen)

pub returns-then-not-see_block : goal.returns-then-not-see_block
returns-then-not-see_block c =
    let l = c.loop-left in
    page_not _ _ _ _ _ _ _ l.left _ _ l.invariant.1 (omega arith) l.invariant.0 c.lowest-k.ensures.0 c.block_of.ensures.0 c.if-not-see_block.ensures

pub loop-left-smaller : goal.loop-left-smaller
loop-left-smaller c = less c.loop-left.left (omega arith)

pub loop-left-preserved : goal.loop-left-preserved
loop-left-preserved c =
    let l = c.loop-left in (
      less_lt l.left l.invariant.0,
      page_next _ _ _ _ _ _ _ l.left _ _ l.invariant.1 (omega arith) l.invariant.0 c.lowest-k.ensures.0 c.block_of.ensures.0 c.if-not-see_block.ensures,
    )

pub returns : goal.returns
returns c = let l = c.loop-left in pages_done _ _ _ _ _ _ l.left (omega arith) l.invariant.1
