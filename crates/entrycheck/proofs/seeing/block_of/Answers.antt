-- `entrycheck::seeing::block_of` meets its contract. Assumes nothing.
use native.Mathlib.Omega.{arith}
use Rattle.masks.proofs.LowWords.{low_block}
use Rattle.entrycheck.proofs.seeing.block_of.Goals as goal

pub returns : goal.returns
returns c = let r = c.low-e in (low_block _ _ r.result (λ i. (c.type_inv.t i).fits) r.ensures.0 r.ensures.1, omega arith)
