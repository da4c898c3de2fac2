-- `setchanges::make::put_first_child` meets its contract. Assumes nothing.
use Rattle.setchanges.proofs.Linking.{first_child_put}
use Rattle.setchanges.proofs.make.put_first_child.Goals as goal

pub returns : goal.returns
returns c =
    first_child_put _ _ _ c.set_at-r.ensures.0 c.put_set.ensures
