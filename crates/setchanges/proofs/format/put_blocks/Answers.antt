-- `setchanges::format::put_blocks` meets its contract. Assumes nothing.
use Rattle.setchanges.proofs.BlankTables.{blocks_put}
use Rattle.setchanges.proofs.format.put_blocks.Goals as goal

pub returns : goal.returns
returns c = blocks_put _ _ _ c.requires c.write.ensures
