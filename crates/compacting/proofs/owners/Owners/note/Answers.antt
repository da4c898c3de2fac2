-- `compacting::owners::Owners::note` meets its contract. Assumes nothing.
use mathlib.Core.Bool.{true}
use mathlib.Core.Path.{◌≡◌, refl, sym, ◌∙◌}
use native.Mathlib.Omega.{arith}
use Rattle.compacting.proofs.Tracking.{in_window_law}
use Rattle.compacting.specs.Owners.{in_window, noted}
use Rattle.compacting.proofs.owners.Owners.note.Goals as goal
use Rattle.compacting.proofs.owners.Owners.note.Goals.{Else-not-holds}

-- the block is in the window
inside : (c : Else-not-holds) → in_window c.args.self.now.first c.args.b ≡ true
inside c = sym c.holds.ensures ∙ c.if-not-holds.false

pub returns-then-not-holds : goal.returns-then-not-holds
unfolding noted
returns-then-not-holds c = record { first = refl; places = simp (sym c.holds.ensures ∙ c.if-not-holds.true) }

pub overflow_sub-i : goal.overflow_sub-i
overflow_sub-i c = omega (arith, (in_window_law _ _ (inside (goal.at.overflow_sub-i c).Else-not-holds)).0)

pub offset_bounds-self-i : goal.offset_bounds-self-i
offset_bounds-self-i c = omega (arith, (in_window_law _ _ (inside (goal.at.offset_bounds-self-i c).Else-not-holds)).1)

pub bounds-self-i : goal.bounds-self-i
bounds-self-i c = (in_window_law _ _ (inside (goal.at.bounds-self-i c).Else-not-holds)).1

pub returns : goal.returns
unfolding noted
returns c = record { first = refl; places = simp (inside (goal.at.returns c).Else-not-holds) refl }
