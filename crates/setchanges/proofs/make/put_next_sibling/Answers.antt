-- `setchanges::make::put_next_sibling` meets its contract. Assumes nothing.
use Rattle.setchanges.proofs.Linking.{next_sibling_put}
use Rattle.setchanges.proofs.make.put_next_sibling.Goals as goal

pub returns : goal.returns
returns c =
    next_sibling_put _ _ _ c.set_at-r.ensures.0 c.put_set.ensures
