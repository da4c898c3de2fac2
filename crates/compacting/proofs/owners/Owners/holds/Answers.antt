-- `compacting::owners::Owners::holds` meets its contract. Assumes nothing.
use mathlib.Core.Path.{refl}
use borrow.Author.Tests.{le-leb, lt-leb}
use Rattle.compacting.specs.Owners.{in_window}
use Rattle.compacting.proofs.owners.Owners.holds.Goals as goal

pub returns-then-self-b : goal.returns-then-self-b
unfolding in_window
returns-then-self-b c = simp (le-leb _ _ c.if-self-b.true) refl

pub returns-else-self-b : goal.returns-else-self-b
unfolding in_window
returns-else-self-b c = simp (lt-leb _ _ c.if-self-b.false)
