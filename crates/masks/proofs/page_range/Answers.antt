-- `masks::page_range` meets its contract. Assumes nothing.
use native.Mathlib.Omega.{arith}
use Rattle.masks.proofs.MaskPages.{range_is, range_none}
use Rattle.masks.proofs.page_range.Goals as goal

pub returns-then-n-eq0 : goal.returns-then-n-eq0
returns-then-n-eq0 c = range_none _ _ c.if-n-eq0.true

pub returns : goal.returns
returns c = let a = c.args in range_is a.first a.n (omega arith) (omega arith)
