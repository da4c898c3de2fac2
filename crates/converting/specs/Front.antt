-- For the contracts of the converter: what of the new tables stands before the file records, as it is made of older tables.
use Rattle.std.specs.Prelude.{Bool, cond, ◌||◌, ◌++◌, List, ◌≡◌, ◌-◌, ◌<◌, ℕ, eqb, drop, get_or, length, take}
use Rattle.packing.specs.Bitmap.{is_one}
use Rattle.packing.specs.Fields.{get_field}
use Rattle.packing.specs.Words.{Bytes}
use Rattle.rules.specs.State.{set_count}
use Rattle.rules.specs.Terms.{last_end}
use Rattle.tables.specs.Convert.{old_set_word, old_table_bytes, older_unpack, older_well_formed}
use Rattle.tables.specs.Layout.{all_files_bytes, files_at, set_widths, set_word, sets_at, table_bytes, term_word}
use Rattle.tables.specs.Packed.{termed_well_formed, unpack}

-- is the set with this first word used
abbrev pub used_word : ℕ → Bool
used_word w = is_one (get_field set_widths w 0)

-- of tables of document 01's length, with terms: the first n sets are done
pub record FrontTo (old front : List ℕ) (n : ℕ) : Type 0 where
  pub len : length front ≡ files_at
  pub bytes : Bytes front
  pub before : (i : ℕ) → i < sets_at → get_or front i 0 ≡ get_or old i 0
  pub tree : (s : ℕ) → s < n → set_word front s ≡ old_set_word old s
  pub term : (s : ℕ) → s < n → term_word front s ≡ cond (used_word (old_set_word old s)) last_end 0

abbrev pub WidenedFront : List ℕ → List ℕ → Type 0
WidenedFront old front = FrontTo old front set_count

-- "older tables of either length"
abbrev pub older_length : ℕ → Bool
older_length n = eqb n table_bytes || eqb n old_table_bytes

-- their file records, which stand last
abbrev pub files_of : List ℕ → List ℕ
files_of old = take (length old - (length old - all_files_bytes)) (drop (length old - all_files_bytes) old)

-- what goes before them in tables of the present length: these hold the same state, and are well formed by the same rules
pub record FrontOf (old front : List ℕ) : Type 0 where
  pub len : length front ≡ files_at
  pub holds : unpack (front ++ files_of old) ≡ older_unpack old
  pub formed : (n : ℕ) → termed_well_formed (front ++ files_of old) n ≡ older_well_formed old n
