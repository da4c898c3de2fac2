-- `setchanges::remove::link_past` meets its contract. Assumes nothing.
use Rattle.setchanges.proofs.Unlinking.{past_put}
use Rattle.setchanges.proofs.remove.link_past.Goals as goal

pub returns : goal.returns
returns c =
    past_put _ _ _ _ _ _ c.set_at-r.ensures.0 c.past-child.ensures.0 c.past-sibling.ensures.0 c.put_set.ensures
