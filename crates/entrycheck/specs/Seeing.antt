-- The entries of the tables, one after the other, against the blocks seen so far: an entry passes where its kind is not 3, its block is 0 unless stored,
-- and the block of a stored one is below the limit and not seen yet. Assumes nothing.
use Rattle.std.specs.Prelude.{Option as Answer}
use Rattle.std.specs.Prelude.{None, Some, Bool, ◌&&◌, cond, false, not, true, List, [], refl, ◌≡◌, ◌*◌, ◌+◌, ◌<◌, suc, zero, ℕ, ltb, length}
use Rattle.std.specs.Bool.{beq}
use Rattle.std.proofs.Math.Option.{Option, none, some}
use Rattle.std.proofs.Common.{sym}
use Rattle.base.specs.Count.{all, all_at, all_of}
use Rattle.base.specs.Update.{upd}
use Rattle.masks.specs.Pages.{entries_at, page_mask}
use Rattle.packing.specs.Bitmap.{bit_at}
use Rattle.packing.specs.Words.{get_word}
use Rattle.rules.specs.State.{Entry, file_count, hole, is_stored, is_unmapped, largest_blocks, page_count, set_count, stored, unmapped}
use Rattle.tables.specs.Layout.{entry_bytes, file_bytes, head_bytes, read_entry}
use Rattle.tables.specs.Packed.{entry_formed, unpack}
use Rattle.entrycheck.specs.declared.seeing.Masks.{Masks}

-- which blocks are seen
abbrev pub Seen : Type 0
Seen = ℕ → Bool

-- the blocks seen after a part of the entries, or none where an entry does not pass
abbrev pub Pass : Type 0
Pass = Seen → Option Seen

abbrev pub none_seen : Seen
none_seen b = false

-- one part after another
abbrev pub and_then : Option Seen → Pass → Option Seen
and_then none pass = none
and_then (some seen) pass = pass seen

-- the parts 0, .., n - 1 in order
pub through : ℕ → (ℕ → Pass) → Pass
through zero pass seen = some seen
through (suc n) pass seen = and_then (through n pass seen) (pass n)

pub through_none : (pass : ℕ → Pass) (seen : Seen) → through 0 pass seen ≡ some seen
unfolding through
through_none pass seen = refl

pub through_more : (n : ℕ) (pass : ℕ → Pass) (seen : Seen) → through (suc n) pass seen ≡ and_then (through n pass seen) (pass n)
unfolding through
through_more n pass seen = refl

-- an entry that names a block makes it seen
abbrev pub see_named : ℕ → Entry ℕ → Pass
see_named limit unmapped seen = some seen
see_named limit hole seen = some seen
see_named limit (stored b) seen = cond (ltb b limit && not (seen b)) (some (upd seen b true)) none

-- one entry, by its word
unfoldable pub see_entry : ℕ → ℕ → Pass
see_entry limit w seen = cond (entry_formed [] w) (see_named limit (read_entry w) seen) none

-- the entries of the map that begins at byte `at`
unfoldable pub see_map : ℕ → List ℕ → ℕ → Pass
see_map limit t at = through page_count (λ p. see_entry limit (get_word 1 t (at + p * entry_bytes)))

-- how many file records there are
abbrev pub record_count : ℕ
record_count = set_count * file_count

-- where the map of record i begins in the file records
abbrev pub map_in : ℕ → ℕ
map_in i = head_bytes + i * file_bytes

-- all file records, one after the other
unfoldable pub see_all : ℕ → List ℕ → Pass
see_all limit files = through record_count (λ i. see_map limit files (map_in i))

beq_is : (a b : Bool) → beq a b ≡ true → a ≡ b
beq_is true true h = refl
beq_is true false h = sym h
beq_is false true h = h
beq_is false false h = refl

is_beq : (a b : Bool) → a ≡ b → beq a b ≡ true
is_beq true true h = refl
is_beq true false h = sym h
is_beq false true h = h
is_beq false false h = refl

-- are the blocks seen those whose bits are 1
pub same_bits : List ℕ → Seen → Bool
same_bits t seen = all largest_blocks (λ b. beq (seen b) ((unpack t).bits b))

module _ (t : List ℕ) (seen : Seen) where
  pub same_bits_at : same_bits t seen ≡ true → (b : ℕ) → b < 4096 → seen b ≡ (unpack t).bits b
  unfolding same_bits
  same_bits_at h b k = beq_is (seen b) ((unpack t).bits b) (all_at 4096 _ h b k)

  pub same_bits_of : ((b : ℕ) → b < 4096 → seen b ≡ (unpack t).bits b) → same_bits t seen ≡ true
  unfolding same_bits
  same_bits_of h = all_of 4096 _ (λ b k. is_beq (seen b) ((unpack t).bits b) (h b k))

abbrev pub formed_by : List ℕ → Option Seen → Bool
formed_by t none = false
formed_by t (some seen) = same_bits t seen

-- every entry of the file records passes, and the blocks seen at the end are those whose bits are 1 in the front of the tables
unfoldable pub entries_formed : List ℕ → List ℕ → Bool
entries_formed front files = formed_by front (see_all (unpack front).blocks files none_seen)

-- what a pass gives, where ok says whether every entry passes
abbrev pub outcome : Bool → Seen → Option Seen
outcome ok seen = cond ok (some seen) none

-- the map of the blocks seen becomes seen' by the pass
pub record Sees (pass : Pass) (seen seen' : List ℕ) (ok : Bool) : Type 0 where
  pub sees : pass (bit_at seen 0) ≡ outcome ok (bit_at seen' 0)
  pub len : length seen' ≡ 512

-- the entries of the map that begins at byte `at`, where each passes: what is seen, and which pages are stored and which unmapped
pub record MapRead (limit : ℕ) (t : List ℕ) (at : ℕ) (seen seen' : List ℕ) (r : Masks) : Type 0 where
  pub passes : Sees (see_map limit t at) seen seen' true
  pub stored_is : r.stored ≡ page_mask is_stored (entries_at t at)
  pub unmapped_is : r.unmapped ≡ page_mask is_unmapped (entries_at t at)

-- the entries of the map that begins at byte `at`: no block is seen and no masks are given where an entry does not pass
abbrev pub MapSeen : (limit : ℕ) → List ℕ → ℕ → List ℕ → List ℕ → Answer Masks → Type 0
MapSeen limit t at seen seen' None = Sees (see_map limit t at) seen seen' false × (bit_at seen' 0 ≡ none_seen)
MapSeen limit t at seen seen' (Some r) = MapRead limit t at seen seen' r
