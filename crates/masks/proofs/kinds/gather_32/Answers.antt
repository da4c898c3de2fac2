-- `masks::kinds::gather_32` meets its contract. Assumes nothing.
use borrow.Author.Rules.{rules}
use Rattle.masks.specs.Network.{gather}
use Rattle.masks.proofs.kinds.gather_32.Goals as goal

pub returns : goal.returns
unfolding gather
returns c = search rules
