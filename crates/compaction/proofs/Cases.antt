-- Compaction on bytes by its cases: tables not well formed, a spare page of another length, accepted. Assumes nothing.
use mathlib.Core.Bool.{false, true}
use mathlib.Core.List.{List}
use mathlib.Core.Path.{◌≡◌, refl}
use Prim.Native.Nat.{ℕ}
use lib.ListN.{length}
use borrow.Author.Tests.{eq-eqb, ne_eqb}
use Rattle.compaction.specs.Call.{Free, compact_as, compact_conditions, compact_on, left_by}
use Rattle.compaction.specs.Compact.{compacted}
use Rattle.rules.specs.Numbers.{lowest, refusal}
use Rattle.tables.specs.Calls.{looked_at, store_of}
use Rattle.tables.specs.Packed.{well_formed}

module _ (spare : List ℕ) (free : Free) (t p : List ℕ) where
  pub compact_unformed : well_formed t (length p) ≡ false → compact_on spare free t p ≡ looked_at (refusal 1) t p spare
  unfolding compact_on compact_conditions lowest compact_as
  compact_unformed h = rw h refl

  module _ (formed : well_formed t (length p) ≡ true) where
    pub compact_spare : (length spare ≡ 512 → ⊥) → compact_on spare free t p ≡ looked_at (refusal 16) t p spare
    unfolding compact_on compact_conditions lowest compact_as
    compact_spare n = rw (formed, ne_eqb (length spare) 512 n) refl

    pub compact_accepted : length spare ≡ 512 → compact_on spare free t p ≡ left_by (compacted free.pages (store_of t p)) free.spare
    unfolding compact_on compact_conditions lowest compact_as
    compact_accepted e = rw (formed, eq-eqb (length spare) 512 e) refl
