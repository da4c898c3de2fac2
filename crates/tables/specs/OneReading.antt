-- The states that the tables can hold, and what it means that tables are read to exactly one of them. Demand 2.
use Rattle.std.specs.Prelude.{false, true, List, ◌≡◌, ◌<◌, ℕ, ◌≤◌}
use Rattle.packing.specs.Words.{Bytes}
use Rattle.rules.specs.State.{Entry, SetRecord, Tables, absent, hole, largest_blocks, set_count, stored, unmapped, unused_set}
use Rattle.tables.specs.Packed.{is_file, is_page, pack, unpack, well_formed}

-- the block of an entry fits its field of 14 bits
abbrev pub block_fits : Entry ℕ → Type 0
block_fits unmapped = Unit {0}
block_fits hole = Unit {0}
block_fits (stored b) = b < 16384

-- the numbers of a set record fit their fields
pub record SetFits (r : SetRecord) : Type 0 where
  pub level_fits : r.level < 8
  pub parent_fits : r.parent < 16
  pub child_fits : r.first_child < 16
  pub sibling_fits : r.next_sibling < 16
  pub first_fits : r.term.first_day < 65536
  pub end_fits : r.term.end_day < 65536

-- a state that the tables can hold
pub record Fits (tb : Tables) : Type 0 where
  pub blocks_fit : tb.blocks < 8192
  pub next_fits : tb.next < 4096
  pub set_fits : (s : ℕ) → SetFits (tb.sets s)
  pub size_fits : (f s : ℕ) → (tb.files f s).size < 65536
  pub block_fits_law : (f s p : ℕ) → block_fits ((tb.files f s).map p)
  pub bit_out : (b : ℕ) → largest_blocks ≤ b → tb.bits b ≡ false
  pub set_out : (s : ℕ) → set_count ≤ s → tb.sets s ≡ unused_set
  pub state_out : (f s : ℕ) → is_file f s ≡ false → (tb.files f s).state ≡ absent
  pub size_out : (f s : ℕ) → is_file f s ≡ false → (tb.files f s).size ≡ 0
  pub map_out : (f s p : ℕ) → is_page f s p ≡ false → (tb.files f s).map p ≡ unmapped

-- ONE READING: what tables hold packs to the same bytes, and no other state that the tables can hold does
pub record OneReading (t : List ℕ) : Type 0 where
  pub same : pack (unpack t) ≡ t
  pub fits : Fits (unpack t)
  pub only : (tb : Tables) → Fits tb → pack tb ≡ t → tb ≡ unpack t

-- DEMAND 2: all tables that are well formed, with pages of whatever length, are read to one state
abbrev pub OneReadingClaim : Type 0
OneReadingClaim = (t : List ℕ) (pagesLength : ℕ) → Bytes t → well_formed t pagesLength ≡ true → OneReading t
