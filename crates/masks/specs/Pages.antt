-- Masks of the pages of a map: 64 binary digits, page 0 the most significant. Assumes nothing.
use Rattle.std.specs.Prelude.{Bool, false, true, List, ◌≡◌, ◌*◌, ◌+◌, ◌-◌, ◌<◌, ℕ, ◌≤◌}
use Rattle.packing.specs.Bitmap.{is_one, number}
use Rattle.packing.specs.Bits.{bit}
use Rattle.packing.specs.Words.{get_word}
use Rattle.rules.specs.State.{Entry, page_count}
use Rattle.tables.specs.Layout.{entry_bytes, read_entry}

-- the pages of a mask
abbrev pub pages : ℕ → ℕ → Bool
pages m p = is_one (bit m (63 - p))

-- the entries of the map that begins at byte `at`
abbrev pub entries_at : List ℕ → ℕ → ℕ → Entry ℕ
entries_at t at p = read_entry (get_word 1 t (at + p * entry_bytes))

-- which pages of a map pass a test
abbrev pub page_mask : (Entry ℕ → Bool) → (ℕ → Entry ℕ) → ℕ
page_mask test map = number (λ p. test (map p)) 0 page_count

-- the mask has the pages first, .., first + n - 1 and no others
pub record IsRange (m first n : ℕ) : Type 0 where
  pub inside : (p : ℕ) → first ≤ p → p < first + n → pages m p ≡ true
  pub outside : (p : ℕ) → p < page_count → (first ≤ p → p < first + n → ⊥) → pages m p ≡ false
