-- `tables::entries::release_block` meets its contract. Assumes nothing.
use Rattle.tables.proofs.Written.{bit_cleared}
use Rattle.tables.proofs.entries.release_block.Goals as goal

pub returns : goal.returns
returns c = bit_cleared _ _ _ c.requires c.clear_bit.ensures
