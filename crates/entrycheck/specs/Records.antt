-- The file records one after the other, as they stand in the tables: record i is that of file i % 16 of set i / 16. What is kept of each, and what the pass over
-- all says. Assumes nothing.
use Rattle.std.specs.Prelude.{Bool, ◌&&◌, false, true, List, ◌≡◌, ◌*◌, ◌+◌, ◌<◌, ℕ, ◌≤◌, get_or, length, set}
use Rattle.masks.specs.Pages.{entries_at, page_mask}
use Rattle.rules.specs.State.{Entry, file_count, is_stored, is_unmapped, set_count}
use Rattle.rules.specs.WellFormed.{bits_formed}
use Rattle.tables.specs.Layout.{file_bytes}
use Rattle.tables.specs.Packed.{kinds_formed, unpack}
use Rattle.entrycheck.specs.Seeing.{Sees, map_in, record_count, see_map}

-- a list of n numbers that are all v
abbrev pub AllAre : ℕ → List ℕ → ℕ → Type 0
AllAre n l v = (length l ≡ n) × ((i : ℕ) → i < n → get_or l i 0 ≡ v)

-- every byte of the records of the sets from n on is zero
pub record BlankFrom (files : List ℕ) (n : ℕ) : Type 0 where
  pub most : n ≤ set_count
  pub zero : (i j : ℕ) → n * file_count ≤ i → i < record_count → j < file_bytes → get_or files (i * file_bytes + j) 0 ≡ 0

-- which pages of record i pass a test
abbrev pub record_mask : (Entry ℕ → Bool) → List ℕ → ℕ → ℕ
record_mask test files i = page_mask test (entries_at files (map_in i))

-- record i has been looked at: what is seen; and where it passes, its masks are kept
pub record RecordPassed (limit : ℕ) (files : List ℕ) (i : ℕ) (seen seen' stored stored' unmapped unmapped' : List ℕ) (ok : Bool) : Type 0 where
  pub passes : Sees (see_map limit files (map_in i)) seen seen' ok
  pub stored_is : ok ≡ true → stored' ≡ set stored i (record_mask is_stored files i)
  pub unmapped_is : ok ≡ true → unmapped' ≡ set unmapped i (record_mask is_unmapped files i)

-- which pages of all files of the tables are stored and which are unmapped: file f of set s has the place s × 16 + f
pub record MasksAre (t stored unmapped : List ℕ) : Type 0 where
  pub stored_len : length stored ≡ record_count
  pub unmapped_len : length unmapped ≡ record_count
  pub stored_at : (f s : ℕ) → f < file_count → s < set_count → get_or stored (s * file_count + f) 0 ≡ page_mask is_stored ((unpack t).files f s).map
  pub unmapped_at : (f s : ℕ) → f < file_count → s < set_count → get_or unmapped (s * file_count + f) 0 ≡ page_mask is_unmapped ((unpack t).files f s).map

-- ALL RECORDS of the tables have been looked at: whether the rules on kinds, blocks and bits hold, and then which pages are stored and which unmapped; else no
-- page is stored and every one unmapped
pub record EntriesSeen (t stored unmapped : List ℕ) (ok : Bool) : Type 0 where
  pub decided : ok ≡ (kinds_formed t && bits_formed (unpack t))
  pub masks : ok ≡ true → MasksAre t stored unmapped
  pub refused : ok ≡ false → AllAre record_count stored 0 × AllAre record_count unmapped 18446744073709551615
