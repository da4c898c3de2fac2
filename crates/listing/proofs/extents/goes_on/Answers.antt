-- `listing::extents::goes_on` meets its contract. Assumes nothing.
use mathlib.Core.Path.{ap, ap₂, ◌∙◌}
use Prim.Native.Nat.{◌+◌, ℕ}
use native.Mathlib.Numerals.{add-one}
use lib.Dec.{eqb}
use Rattle.tables.specs.Meaning.{entry_meant}
use Rattle.listing.proofs.Runs.{not_hole, not_stored, not_unmapped}
use Rattle.listing.proofs.extents.goes_on.Goals as goal

pub returns-in-Unmapped-Unmapped : goal.returns-in-Unmapped-Unmapped
unfolding entry_meant
returns-in-Unmapped-Unmapped c = simp (c.in-Unmapped-Unmapped.is-0, c.in-Unmapped-Unmapped.is-1)

pub returns-in-Hole-Hole : goal.returns-in-Hole-Hole
unfolding entry_meant
returns-in-Hole-Hole c = simp (c.in-Hole-Hole.is-0, c.in-Hole-Hole.is-1)

pub returns-in-Stored-Stored : goal.returns-in-Stored-Stored
unfolding entry_meant
returns-in-Stored-Stored c =
    simp (c.in-Stored-Stored.is-0, c.in-Stored-Stored.is-1) (ap₂ eqb c.number.ensures (ap (λ (n : ℕ). n + 1) c.number-in-Stored-Stored.ensures ∙ add-one _))

pub returns-in_default : goal.returns-in_default
returns-in_default c = simp c.in_default.is-0 (not_unmapped c.args.e c.in_default.not-Unmapped-1)

pub returns-in_default-2 : goal.returns-in_default-2
returns-in_default-2 c = simp c.in_default.is-0 (not_hole c.args.e c.in_default.not-Hole-1)

pub returns-in_default-3 : goal.returns-in_default-3
returns-in_default-3 c = simp c.in_default.is-0 (not_stored _ c.args.e c.in_default.not-Stored-1)
