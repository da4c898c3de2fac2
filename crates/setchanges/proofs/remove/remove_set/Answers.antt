-- `setchanges::remove::remove_set` meets its contract. Assumes nothing.
use Rattle.setchanges.proofs.Unlinking.{remove_turns}
use Rattle.setchanges.proofs.remove.remove_set.Goals as goal

pub returns : goal.returns
returns c =
    remove_turns _ c.clear_files.ensures c.unlink_set.ensures
