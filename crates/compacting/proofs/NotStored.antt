-- Entries and states of the code for which nothing is stored. Assumes nothing.
use mathlib.Core.Bool.{false}
use mathlib.Core.Logic.{inl, inr, ◌⊎◌}
use mathlib.Core.Path.{ap, refl, ◌≡◌}
use Rattle.compacting.specs.Exchange.{may_hold}
use Rattle.rules.specs.State.{is_stored}
use Rattle.tables.specs.Meaning.{entry_meant, state_meant}
use Rattle.tables.specs.declared.entries.Entry.{Entry}
use Rattle.tables.specs.declared.entries.Entry.TheVariants.{Hole, Unmapped}
use Rattle.tables.specs.declared.files.State.{State}
use Rattle.tables.specs.declared.files.State.TheVariants.{Absent, Marked, Own, Virgin}

-- an entry that is unmapped or a hole
pub not_stored : (e : Entry) → (e ≡ Unmapped) ⊎ (e ≡ Hole) → is_stored (entry_meant e) ≡ false
unfolding entry_meant
not_stored e h = elim h [ inl q ↦ ap (λ x. is_stored (entry_meant x)) q | inr q ↦ ap (λ x. is_stored (entry_meant x)) q ]

-- a state that is neither own nor marked
pub not_held : (l : State) → (l ≡ Own → ⊥) → (l ≡ Marked → ⊥) → false ≡ may_hold (state_meant l)
unfolding state_meant
not_held Absent n m = refl
not_held Own n m = absurd (n refl)
not_held Virgin n m = refl
not_held Marked n m = absurd (m refl)
