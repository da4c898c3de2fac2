-- `masks::kinds::kinds_32` meets its contract. Assumes nothing.
use Rattle.masks.specs.Network.{kinds32}
use Rattle.masks.proofs.kinds.kinds_32.Goals as goal

pub returns : goal.returns
unfolding kinds32
returns c = cc
