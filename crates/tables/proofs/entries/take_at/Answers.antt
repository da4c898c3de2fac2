-- `tables::entries::take_at` meets its contract. Assumes nothing.
use mathlib.Core.Path.{refl}
use Rattle.tables.proofs.Written.{bit_set}
use Rattle.tables.proofs.entries.take_at.Goals as goal

pub returns : goal.returns
returns c = (refl, bit_set _ _ _ c.requires c.set_bit.ensures)
