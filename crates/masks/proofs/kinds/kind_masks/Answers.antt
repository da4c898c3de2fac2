-- `masks::kinds::kind_masks` meets its contract. Assumes nothing.
use Rattle.masks.specs.Network.{holes_of, stored_of}
use Rattle.masks.proofs.kinds.kind_masks.Goals as goal

pub returns : goal.returns
unfolding stored_of holes_of
returns c = (cc, cc)
