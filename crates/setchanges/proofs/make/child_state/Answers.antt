-- `setchanges::make::child_state` meets its contract. Assumes nothing.
use borrow.Author.Rules.{rules}
use Rattle.tables.specs.Meaning.{state_meant}
use Rattle.setchanges.proofs.make.child_state.Goals as goal

pub returns-in-Absent : goal.returns-in-Absent
unfolding state_meant
returns-in-Absent c = search rules

pub returns-in-Own : goal.returns-in-Own
unfolding state_meant
returns-in-Own c = search rules

pub returns-in-Marked : goal.returns-in-Marked
unfolding state_meant
returns-in-Marked c = search rules
