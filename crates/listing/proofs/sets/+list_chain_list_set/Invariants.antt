-- `listing::sets::list_set` and `listing::sets::list_chain` call each other, and the count of unvisited sets falls. Assumes nothing.
use Rattle.std.proofs.Common.{◌+◌, ◌*◌}
use Rattle.listing.proofs.sets.+list_chain_list_set.Given as goal

abbrev pub decreases-list_chain : goal.decreases-list_chain
decreases-list_chain l = 2 * l.left + 1

abbrev pub decreases-list_set : goal.decreases-list_set
decreases-list_set l = 2 * l.left
