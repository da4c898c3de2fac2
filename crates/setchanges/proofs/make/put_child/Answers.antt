-- `setchanges::make::put_child` meets its contract. Assumes nothing.
use Rattle.setchanges.proofs.Linking.{child_put}
use Rattle.setchanges.proofs.make.put_child.Goals as goal

pub returns : goal.returns
returns c =
    child_put _ _ _ _ c.level_of-level.ensures.0 c.put_set.ensures
