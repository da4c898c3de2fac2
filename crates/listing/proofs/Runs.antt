-- Where an extent begins. Assumes nothing.
use mathlib.Core.Bool.{false, not}
use mathlib.Core.Path.{refl, ◌≡◌}
use Prim.Native.Nat.{◌-◌, suc, zero, ℕ}
use native.Mathlib.Numerals.{sub-one}
use Rattle.listing.specs.Listing.{begins, continues}
use Rattle.rules.specs.State as rules
use Rattle.tables.specs.Meaning.{entry_meant}
use Rattle.tables.specs.declared.entries.Block.{Block}
use Rattle.tables.specs.declared.entries.Entry.{Entry}
use Rattle.tables.specs.declared.entries.Entry.TheVariants.{Hole, Stored, Unmapped}

-- behind an unmapped page, a hole or a stored page another kind of page does not go on
pub not_unmapped : (e : Entry) → (e ≡ Unmapped → ⊥) → false ≡ continues (entry_meant Unmapped) (entry_meant e)
unfolding entry_meant
not_unmapped Unmapped n = absurd (n refl)
not_unmapped Hole n = refl
not_unmapped (Stored b) n = refl

pub not_hole : (e : Entry) → (e ≡ Hole → ⊥) → false ≡ continues (entry_meant Hole) (entry_meant e)
unfolding entry_meant
not_hole Unmapped n = refl
not_hole Hole n = absurd (n refl)
not_hole (Stored b) n = refl

pub not_stored : (a : Block) (e : Entry) → ((b : Block) → e ≡ Stored b → ⊥) → false ≡ continues (entry_meant (Stored a)) (entry_meant e)
unfolding entry_meant
not_stored a Unmapped n = refl
not_stored a Hole n = refl
not_stored a (Stored b) n = absurd (n b refl)

-- at a page other than the first
pub begins_at : (map : ℕ → rules.Entry ℕ) (p : ℕ) → (p ≡ 0 → ⊥) → begins map p ≡ not (continues (map (p - 1)) (map p))
begins_at map zero n = absurd (n refl)
begins_at map (suc p) n = rw sub-one
