-- The rules of well formed tables that concern file records, file by file. Document 01, "Packed tables"; document 02, Ask 10.
use Rattle.std.specs.Prelude.{◌&&◌, Bool, cond, not, true, ◌||◌, List, ◌≡◌, ◌%◌, ◌*◌, ◌+◌, ◌/◌, ◌<◌, ◌^◌, suc, ℕ, ◌≤◌, eqb, leb, ltb, get_or, length, set}
use Rattle.base.specs.Count.{all}
use Rattle.entrycheck.specs.Records.{MasksAre}
use Rattle.masks.specs.Pages.{page_mask}
use Rattle.packing.specs.Bitmap.{is_one}
use Rattle.packing.specs.Bits.{bit}
use Rattle.packing.specs.Fields.{get_field}
use Rattle.rules.specs.Reading.{resolve}
use Rattle.rules.specs.State.{File, Files, SetRecord, State, file_count, is_absent, is_marked, is_own, is_stored, is_virgin, largest_size, live, set_count, tree_of}
use Rattle.rules.specs.WellFormed.{above_formed, past_formed, root_file_formed, size_formed, virgin_formed, zero_file}
use Rattle.tables.specs.Layout.{head_widths, head_word, read_size, state_of}
use Rattle.tables.specs.Packed.{unpack}

-- "A virgin file has size 0 and only unmapped entries. Set 0 has no virgin or marked file and no unmapped entry outside absent files", and a marked one has size 0 and
-- only unmapped entries, in tables that are not older: of a file that is not absent, by its state and size, whether all its entries are unmapped, whether some are, and
-- whether it is one of set 0
unfoldable pub state_formed : Bool → State → ℕ → Bool → Bool → Bool → Bool
state_formed older state size every any root =
    (not (is_virgin state) || (eqb size 0 && every)) && (older || (not (is_marked state) || (eqb size 0 && every)))
    && (not root || (is_absent state || (not (is_virgin state) && not (is_marked state) && not any)))

-- the rules on one file that concern no other: besides, by the zero field of its head, and whether its set is used
unfoldable pub alone_formed : Bool → ℕ → State → ℕ → Bool → Bool → Bool → Bool → Bool
alone_formed older zeros state size every any used root =
    eqb zeros 0 && (not (is_absent state) || (eqb size 0 && every)) && (used || is_absent state) && leb size largest_size && state_formed older state size every any root

-- the same by the word w of its head and the mask u of its unmapped pages
unfoldable pub head_formed : Bool → ℕ → ℕ → Bool → Bool → Bool
head_formed older w u used root =
    alone_formed older (get_field head_widths w 2) (state_of (w / 1073741824)) (read_size w) (eqb u 18446744073709551615) (not (eqb u 0)) used root

-- the head whose first byte is the least significant of v
unfoldable pub turned : ℕ → ℕ
turned v = v % 256 * 16777216 + v / 256 % 256 * 65536 + v / 65536 % 256 * 256 + v / 16777216 % 256

module _ (t : List ℕ) where
  -- the rules on file f of set s that concern no other file
  unfoldable pub file_alone : Bool → ℕ → ℕ → Bool
  file_alone older f s =
      let x : File ℕ = (unpack t).files f s in
      eqb (get_field head_widths (head_word t f s) 2) 0 && (not (is_absent x.state) || zero_file x) && (((unpack t).sets s).used || is_absent x.state)
      && size_formed x && (virgin_formed x && (older || (not (is_marked x.state) || zero_file x)) && (not (eqb s 0) || root_file_formed x))

  -- those that concern the files of the sets above it too
  unfoldable pub file_linked : ℕ → ℕ → Bool
  file_linked f s = above_formed (unpack t) f s && past_formed (unpack t) f s

  -- all rules on the files of number f
  unfoldable pub number_formed : Bool → ℕ → Bool
  number_formed older f = all set_count (file_linked f) && all set_count (file_alone older f)

-- the first page wholly past the size of an own file; 64 of any other
unfoldable pub end_of : State → ℕ → ℕ
end_of state size = cond (is_own state) ((size + 511) / 512) 64

-- that page of the files of the first n sets
pub record EndsTo (files : Files ℕ) (n : ℕ) (ends : List ℕ) : Type 0 where
  pub len : length ends ≡ set_count
  pub ends_are : (s : ℕ) → s < n → get_or ends s 0 ≡ end_of (files s).state (files s).size

-- no page of the mask m is page k or a later one
unfoldable pub ends_before : ℕ → ℕ → Bool
ends_before k m = cond (ltb k 64) (eqb (m * 2 ^ k % 2 ^ 64) 0) true

-- levels fall by one from a set to its parent, down to 0, which of the used sets only set 0 has
pub record Falling (sets : ℕ → SetRecord) : Type 0 where
  pub falls : (s n : ℕ) → s < set_count → (sets s).level ≡ suc n → ((sets s).parent < set_count) × ((sets (sets s).parent).level ≡ n)
  pub one_root : (s : ℕ) → s < set_count → (sets s).used ≡ true → (sets s).level ≡ 0 → s ≡ 0

-- the place of set s in the order of levels, and of numbers within a level: a parent goes before its children
abbrev pub place_of : (ℕ → SetRecord) → ℕ → ℕ
place_of sets s = (sets s).level * set_count + s

-- the binary digit at that place, of a used set s with record r; 0 of an unused one
unfoldable pub place_digit : SetRecord → ℕ → ℕ
place_digit r s = cond r.used (2 ^ (r.level * set_count + s)) 0

-- the digits of the sets
abbrev pub DigitsAre : (ℕ → SetRecord) → List ℕ → Type 0
DigitsAre sets digits = (s : ℕ) → s < set_count → get_or digits s 0 ≡ place_digit (sets s) s

-- and the parents of the used ones
pub record Places (sets : ℕ → SetRecord) (digits parents : List ℕ) : Type 0 where
  pub digits_are : DigitsAre sets digits
  pub parents_are : (s : ℕ) → s < set_count → (sets s).used ≡ true → get_or parents s 0 ≡ (sets s).parent

-- the digits of the sets and the parents of the first n have been put; the parents of the others are as they were
pub record PlacesPut (sets : ℕ → SetRecord) (n : ℕ) (parents digits' parents' : List ℕ) : Type 0 where
  pub digits_len : length digits' ≡ set_count
  pub parents_len : length parents' ≡ set_count
  pub digits_are : DigitsAre sets digits'
  pub parents_are : (s : ℕ) → s < n → get_or parents' s 0 ≡ (sets s).parent
  pub parents_kept : (s : ℕ) → n ≤ s → s < set_count → get_or parents' s 0 ≡ get_or parents s 0

-- of the first n sets those with an own or virgin file, each by its digit
pub record LivesTo (sets : ℕ → SetRecord) (files : Files ℕ) (n lives : ℕ) : Type 0 where
  pub live_at : (s : ℕ) → s < n → is_one (bit lives (place_of sets s)) ≡ live (files s).state
  pub only : (k : ℕ) → k < 64 → is_one (bit lives k) ≡ true → k ≡ place_of sets (k % set_count)

-- what the rules on file f of several sets are decided by
pub record Numbered (t : List ℕ) (f : ℕ) (digits parents stored unmapped ends : List ℕ) (lives : ℕ) : Type 0 where
  pub low : f < file_count
  pub falling : Falling (unpack t).sets
  pub places : Places (unpack t).sets digits parents
  pub masks : MasksAre t stored unmapped
  pub ends_are : EndsTo ((unpack t).files f) set_count ends
  pub lives_are : LivesTo (unpack t).sets ((unpack t).files f) set_count lives
  pub alone : (s : ℕ) → s < set_count → file_alone t true f s ≡ true

-- the pages of file f that resolve to stored in set s
abbrev pub resolved_mask : List ℕ → ℕ → ℕ → ℕ
resolved_mask t f s = page_mask is_stored (resolve (tree_of (unpack t).sets) ((unpack t).files f) s)

-- file f of set s has been looked at: whether the rules hold, and the pages that resolve to stored are kept
pub record LinkDecided (t : List ℕ) (f s : ℕ) (resolved resolved' : List ℕ) (ok : Bool) : Type 0 where
  pub decided : ok ≡ file_linked t f s
  pub kept : ok ≡ true → resolved' ≡ set resolved s (resolved_mask t f s)
