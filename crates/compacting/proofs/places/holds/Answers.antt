-- `compacting::places::holds` meets its contract. Assumes nothing.
use mathlib.Core.Logic.{inl, inr}
use mathlib.Core.Path.{ap, sym}
use Rattle.compacting.proofs.NotStored.{not_held}
use Rattle.compacting.specs.Exchange.{may_hold}
use Rattle.tables.specs.Meaning.{state_meant}
use Rattle.compacting.proofs.places.holds.Goals as goal

pub returns-in-Own : goal.returns-in-Own
unfolding state_meant
returns-in-Own c =
    elim c.in-Own.is [
      | inl e ↦ sym (ap (λ x. may_hold (state_meant x)) e)
      | inr e ↦ sym (ap (λ x. may_hold (state_meant x)) e)
    ]

pub returns-in_default : goal.returns-in_default
returns-in_default c = not_held _ c.in_default.not-Own c.in_default.not-Marked
