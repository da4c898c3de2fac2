-- `masks::kinds::kinds_16` meets its contract. Assumes nothing.
use Rattle.masks.specs.Network.{kinds16}
use Rattle.masks.proofs.kinds.kinds_16.Goals as goal

pub returns : goal.returns
unfolding kinds16
returns c = cc
