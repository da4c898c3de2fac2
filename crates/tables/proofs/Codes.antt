-- The numbers that the code computes: what it takes from a word is what the layout reads, the words that it makes are those of the layout,
-- and the places are the layout's. Assumes nothing.
use mathlib.Core.Bool.{false}
use mathlib.Core.List.{List}
use mathlib.Core.Path.{ap, ap₂, refl, sym, ◌∙◌, ◌≡◌}
use Prim.Native.Nat.{◌%◌, ◌*◌, ◌+◌, ◌-◌, ◌/◌, ◌<◌, suc, ℕ, ◌≤◌}
use native.Mathlib.Omega.{arith}
use lib.Dec.{eqb}
use lib.ListN.{get_or, set}
use lib.Seq.{set-get_or}
use borrow.Author.Tests.{le-ltb}
use Rattle.packing.specs.Bitmap.{is_one_law, is_one}
use Rattle.packing.specs.Words.{Bytes, get_lt, get_word, put_word}
use Rattle.rules.specs.State.{SetRecord, State, file_count, hole, marked, page_count, set_count, stored, unmapped}
use Rattle.tables.proofs.ReadParts.{read_blocks_law, read_map, read_next_law, read_set_law, read_size_law, read_state_law}
use Rattle.tables.specs.Layout.{entry_word, file_at, header_at, read_blocks, read_entry, read_next, read_set, read_size, read_state, read_term, set_at, set_word, state_number, state_of, term_at, term_word, write_head, write_header}
use Rattle.tables.specs.Packed.{entry_formed, unpack}

-- ---- an entry

pub word_unmapped : (w : ℕ) → w < 16384 → read_entry w ≡ unmapped
unfolding read_entry
word_unmapped w h = let e : w / 16384 ≡ 0 = omega arith in rw e

pub word_hole : (w : ℕ) → 16384 ≤ w → w < 32768 → read_entry w ≡ hole
unfolding read_entry
word_hole w l h = let e : w / 16384 ≡ 1 = omega arith in rw e

pub word_stored : (w : ℕ) → 32768 ≤ w → read_entry w ≡ stored (w % 16384)
unfolding read_entry
word_stored w l =
    let k : w / 16384 ≡ suc (suc (w / 16384 - 2)) = omega arith in
    let b : w % 16384 / 1 ≡ w % 16384 = omega arith in
    rw (k, b)

-- kind 3 is not formed
pub formed_three : (t : List ℕ) (w : ℕ) → 49152 ≤ w → entry_formed t w ≡ false
formed_three t w l = rw (le-ltb (w / 16384) 3 (omega arith))

-- LAW: the entry that the code reads
pub entry_read : (t : List ℕ) (f s p w : ℕ) → f < file_count → s < set_count → p < page_count → w ≡ entry_word t f s p
    → read_entry w ≡ ((unpack t).files f s).map p
entry_read t f s p w hf hs hp e = ap read_entry e ∙ sym (read_map t f s p hf hs hp)

-- ---- a state and a size

pub number_marked : (n : ℕ) → 3 ≤ n → state_of n ≡ marked
number_marked n h = let e : n ≡ suc (suc (suc (n - 3))) = omega arith in rw e

-- LAW: the state and the size that the code reads
module _ (t : List ℕ) (f s w : ℕ) (hf : f < file_count) (hs : s < set_count) (e : w ≡ get_word 3 t (file_at f s)) where
  pub state_read : state_of (w / 1073741824) ≡ ((unpack t).files f s).state
  unfolding read_state
  state_read = ap read_state e ∙ sym (read_state_law t f s hf hs)

  pub size_read : w / 16384 % 65536 ≡ ((unpack t).files f s).size
  unfolding read_size
  size_read = let q : w / 16384 % 65536 ≡ read_size w = omega arith in q ∙ ap read_size e ∙ sym (read_size_law t f s hf hs)

pub head_word : (l : State) (n k : ℕ) → k ≡ state_number l → (k * 65536 + n) * 16384 ≡ write_head l n
unfolding write_head
head_word l n k e = omega arith

-- ---- a set record

module _ (w v : ℕ) where
  -- the record that the code takes from its words
  abbrev pub set_fields : SetRecord
  set_fields = record {
    used = eqb (w / 8388608) 1;
    writeable = eqb (w / 4194304 % 2) 1;
    level = w / 524288 % 8;
    parent = w / 32768 % 16;
    first_child = w / 2048 % 16;
    next_sibling = w / 128 % 16;
    term = record { first_day = v / 65536; end_day = v % 65536 };
  }

  -- field by field: one omega for all is too much
  writeable_field : w / 4194304 % 2 ≡ w % 8388608 / 4194304
  writeable_field = omega arith

  level_field : w / 524288 % 8 ≡ (read_set w v).level
  unfolding read_set
  level_field = omega arith

  parent_field : w / 32768 % 16 ≡ (read_set w v).parent
  unfolding read_set
  parent_field = omega arith

  child_field : w / 2048 % 16 ≡ (read_set w v).first_child
  unfolding read_set
  child_field = omega arith

  sibling_field : w / 128 % 16 ≡ (read_set w v).next_sibling
  unfolding read_set
  sibling_field = omega arith

  end_field : v % 65536 ≡ (read_term v).end_day
  unfolding read_term
  end_field = omega arith

  set_fields_law : w < 16777216 → set_fields ≡ read_set w v
  unfolding read_set read_term
  set_fields_law h =
      let u = is_one_law (w / 8388608) (omega arith) in
      let x = is_one_law (w / 4194304 % 2) (omega arith) ∙ ap is_one writeable_field in
      λ i. record {
        used = u i;
        writeable = x i;
        level = level_field i;
        parent = parent_field i;
        first_child = child_field i;
        next_sibling = sibling_field i;
        term = record { first_day = v / 65536; end_day = end_field i };
      }

-- LAW: the set record that the code reads
pub set_read : (t : List ℕ) (s w v : ℕ) → s < set_count → (w ≡ get_word 2 t (set_at s)) × (w < 16777216) → v ≡ get_word 3 t (term_at s) → set_fields w v ≡ (unpack t).sets s
set_read t s w v hs h k = set_fields_law w v h.1 ∙ ap₂ read_set h.0 k ∙ sym (read_set_law t s hs)

-- LAW: the fields of a set record, of its two words
pub set_fields_are : (t : List ℕ) (s : ℕ) → Bytes t → s < set_count → set_fields (set_word t s) (term_word t s) ≡ (unpack t).sets s
set_fields_are t s bs hs = set_read t s _ _ hs (refl, get_lt 2 t (set_at s) bs) refl

-- ---- the header

-- LAW: the block count and the next start that the code reads, of the header's four bytes
module _ (t : List ℕ) (bs : Bytes t) where
  pub blocks_read : get_or t 0 0 * 32 + get_or t 1 0 / 8 ≡ (unpack t).blocks
  unfolding read_blocks get_word
  blocks_read =
      let q : get_or t 0 0 * 32 + get_or t 1 0 / 8 ≡ get_word 3 t header_at / 524288 = omega (arith, bs 0, bs 1, bs 2, bs 3) in
      q ∙ sym (read_blocks_law t)

  pub blocks_lt : (unpack t).blocks < 8192
  blocks_lt = omega (arith, bs 0, bs 1, blocks_read)

  pub next_read : get_or t 1 0 % 8 * 512 + get_or t 2 0 * 2 + get_or t 3 0 / 128 ≡ (unpack t).next
  unfolding read_next get_word
  next_read =
      let q : get_or t 1 0 % 8 * 512 + get_or t 2 0 * 2 + get_or t 3 0 / 128 ≡ read_next (get_word 3 t header_at) = omega (arith, bs 0, bs 1, bs 2, bs 3) in
      q ∙ sym (read_next_law t)

pub header_word : (b n : ℕ) → (b * 4096 + n) * 128 ≡ write_header b n
unfolding write_header
header_word b n = omega arith

-- LAW: the three bytes that hold the next start, and the word of the whole header
pub next_bytes : (t : List ℕ) (n : ℕ) → Bytes t → n < 4096
    → set (set (set t 1 (get_or t 1 0 / 8 * 8 + n / 512)) 2 (n / 2 % 256)) 3 (n % 2 * 128) ≡ put_word 3 t header_at (write_header (unpack t).blocks n)
unfolding put_word
next_bytes t n bs h =
    let w = write_header (unpack t).blocks n in
    let x = get_or t 0 0 in
    let y = get_or t 1 0 in
    let v : w ≡ ((x * 32 + y / 8) * 4096 + n) * 128 = sym (header_word (unpack t).blocks n) ∙ ap (λ b. (b * 4096 + n) * 128) (sym (blocks_read t bs)) in
    let a : w / 256 / 256 / 256 ≡ x = ap (λ z. z / 256 / 256 / 256) v ∙ omega (arith, bs 0, bs 1) in
    let b : w / 256 / 256 % 256 ≡ y / 8 * 8 + n / 512 = ap (λ z. z / 256 / 256 % 256) v ∙ omega (arith, bs 0, bs 1) in
    let c : w / 256 % 256 ≡ n / 2 % 256 = ap (λ z. z / 256 % 256) v ∙ omega (arith, bs 0, bs 1) in
    let d : w % 256 ≡ n % 2 * 128 = ap (λ z. z % 256) v ∙ omega (arith, bs 0, bs 1) in
    sym ((λ i. set (set (set (set t 0 (a i)) 1 (b i)) 2 (c i)) 3 (d i)) ∙ ap (λ (l : List ℕ). set (set (set l 1 (y / 8 * 8 + n / 512)) 2 (n / 2 % 256)) 3 (n % 2 * 128)) (set-get_or t 0 0))
