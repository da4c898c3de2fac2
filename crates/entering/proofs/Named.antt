-- Entries of the code that name no block. Assumes nothing.
use mathlib.Core.Bool.{false}
use mathlib.Core.Logic.{◌⊎◌, ⊎_elim}
use mathlib.Core.Path.{◌≡◌, ap, refl}
use Prim.Native.Nat.{ℕ}
use Rattle.entering.specs.Pending.{bytes_of}
use Rattle.rules.specs.State.{is_stored}
use Rattle.rules.specs.Storage.{PageData}
use Rattle.tables.specs.Meaning.{entry_meant}
use Rattle.tables.specs.declared.entries.Block.{Block}
use Rattle.tables.specs.declared.entries.Entry.{Entry}
use Rattle.tables.specs.declared.entries.Entry.TheVariants.{Hole, Stored, Unmapped}

-- LAW: one that is no stored one
pub none_named : (e : Entry) → ((b : Block) → e ≡ Stored b → ⊥) → is_stored (entry_meant e) ≡ false
unfolding entry_meant
none_named Unmapped h = refl
none_named Hole h = refl
none_named (Stored b) h = absurd (h b refl)

-- LAW: an unmapped one, or a hole
pub either_none : (e : Entry) → (e ≡ Unmapped) ⊎ (e ≡ Hole) → is_stored (entry_meant e) ≡ false
unfolding entry_meant
either_none e o = ⊎_elim (λ x. ap (λ y. is_stored (entry_meant y)) x) (λ x. ap (λ y. is_stored (entry_meant y)) x) o

-- LAW: its page is zeros
pub either_zero : (pg : ℕ → PageData) (e : Entry) → (e ≡ Unmapped) ⊎ (e ≡ Hole) → bytes_of pg (entry_meant e) ≡ (λ i. 0)
unfolding entry_meant bytes_of
either_zero pg e o = ⊎_elim (λ x. ap (λ y. bytes_of pg (entry_meant y)) x) (λ x. ap (λ y. bytes_of pg (entry_meant y)) x) o
