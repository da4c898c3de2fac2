-- `setchanges::remove::unlink_set` meets its contract. The loop's invariant: the links of the first x sets are past set c. Assumes nothing.
use Rattle.tables.specs.Views.{Turns}
use Rattle.setchanges.proofs.Unlinking.{past_to}
use Rattle.setchanges.proofs.remove.unlink_set.Given as goal

abbrev pub invariant-loop-x : goal.invariant-loop-x
invariant-loop-x l = Turns l.initial.t l.t (past_to l.c l.next l.x)
