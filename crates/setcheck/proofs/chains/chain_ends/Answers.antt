-- `setcheck::chains::chain_ends` meets its contract. Assumes nothing.
use mathlib.Core.Path.{sym, ◌∙◌}
use native.Mathlib.Omega.{arith}
use Rattle.setcheck.proofs.Links.{ends_over, ends_more, ends_last}
use Rattle.setcheck.proofs.chains.chain_ends.Goals as goal

pub returns-then-at-ge8 : goal.returns-then-at-ge8
returns-then-at-ge8 c = ends_over _ _ _ (omega arith) ∙ sym c.loop.invariant

pub loop-preserved : goal.loop-preserved
loop-preserved c = c.loop.invariant ∙ ends_more _ _ _ _ _ (omega arith) (omega arith) c.next_sibling_of-at.ensures.0

pub returns : goal.returns
returns c = ends_last _ _ _ (omega arith) ∙ sym c.loop.invariant
