-- `entrycheck::records::not_passed` meets its contract. Assumes nothing.
use mathlib.Core.Path.{refl}
use Rattle.entrycheck.proofs.Lists.{all_are, filled}
use Rattle.entrycheck.proofs.records.not_passed.Goals as goal

pub returns : goal.returns
unfolding filled
returns c = (refl, all_are 128 _, all_are 128 _)
