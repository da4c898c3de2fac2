-- Words whose bytes are zero, and a file record whose bytes are: an absent file. And the other way. Assumes nothing.
use mathlib.Core.Bool.{true}
use mathlib.Core.List.{List}
use mathlib.Core.Path.{ap, refl, sym, ◌∙◌, ◌≡◌}
use Prim.Native.Nat.{◌*◌, ◌+◌, ◌-◌, ◌/◌, ◌%◌, ◌<◌, suc, zero, ℕ, ◌≤◌}
use native.Mathlib.Nat.{add-zero}
use native.Mathlib.Omega.{arith}
use lib.Dec.{ltb}
use lib.ListN.{get_or}
use borrow.Author.Tests.{ltb-false, ltb-true}
use Rattle.base.specs.Logic.{same?, test?}
use Rattle.packing.specs.Fields.{get_field}
use Rattle.packing.specs.Words.{Bytes, get_lt, get_word}
use Rattle.rules.specs.State.{absent, absent_file, file_count, page_count, set_count, unmapped, unused_set}
use Rattle.tables.proofs.InRange.{page_in}
use Rattle.tables.proofs.Layouts.{write_read_entry, write_read_head}
use Rattle.tables.proofs.ReadParts.{map_default, read_map, read_size_law, read_state_law}
use Rattle.tables.specs.Layout.{entry_at, entry_bytes, entry_word, file_at, file_bytes, head_bytes, head_widths, head_word, header_widths, map_at, map_bytes, read_blocks, read_entry, read_next, read_set, read_size, read_state, read_term, set_widths, write_entry, write_head}
use Rattle.tables.specs.Packed.{entry_formed, is_page, unpack}

-- a word of zeros
pub word_zero : (m : ℕ) (t : List ℕ) (start : ℕ) → ((j : ℕ) → j ≤ m → get_or t (start + j) 0 ≡ 0) → get_word m t start ≡ 0
unfolding get_word
word_zero zero t start h = rw add-zero at (h 0 (omega arith))
word_zero (suc m) t start h =
    rw (word_zero m t start (λ j k. h j (omega arith)), h (suc m) (omega arith))

-- what a word of zeros means
pub zero_header : (get_field header_widths 0 2 ≡ 0) × (read_blocks 0 ≡ 0) × (read_next 0 ≡ 0)
unfolding read_blocks read_next
zero_header = (refl, refl, refl)

pub zero_set_law : (get_field set_widths 0 6 ≡ 0) × (read_set 0 0 ≡ unused_set)
unfolding read_set read_term
zero_set_law = (refl, refl)

pub zero_head : (get_field head_widths 0 2 ≡ 0) × (read_state 0 ≡ absent) × (read_size 0 ≡ 0)
unfolding read_state read_size
zero_head = (refl, refl, refl)

pub zero_entry : (t : List ℕ) → (entry_formed t 0 ≡ true) × (read_entry 0 ≡ unmapped)
unfolding read_entry
zero_entry t = (refl, refl)

-- a file whose entries are zero
module _ (t : List ℕ) (f s : ℕ) (zeros : (j : ℕ) → j < map_bytes → get_or t (map_at f s + j) 0 ≡ 0) where
  pub entry_zero : (p : ℕ) → p < page_count → entry_word t f s p ≡ 0
  entry_zero p hp = word_zero 1 t (entry_at f s p) (λ j k. let e : map_at f s + (p * entry_bytes + j) ≡ entry_at f s p + j = omega arith in ap (λ i. get_or t i 0) (sym e) ∙ zeros (p * entry_bytes + j) (omega arith))

  pub map_zero : f < file_count → s < set_count → (p : ℕ) → ((unpack t).files f s).map p ≡ unmapped
  map_zero hf hs p = test? (is_page f s p)
      (λ e. let l = page_in f s p e in read_map t f s p hf hs l.2 ∙ ap read_entry (entry_zero p l.2) ∙ (zero_entry t).1)
      (λ e. map_default t f s p e)

-- a file whose bytes are zero
module _ (t : List ℕ) (f s : ℕ) (hf : f < file_count) (hs : s < set_count) (zeros : (j : ℕ) → j < file_bytes → get_or t (file_at f s + j) 0 ≡ 0) where
  pub entries_zero : (j : ℕ) → j < map_bytes → get_or t (map_at f s + j) 0 ≡ 0
  entries_zero j l = let e : map_at f s + j ≡ file_at f s + (head_bytes + j) = omega arith in ap (λ i. get_or t i 0) e ∙ zeros (head_bytes + j) (omega arith)

  pub head_zero : head_word t f s ≡ 0
  head_zero = word_zero 3 t (file_at f s) (λ j k. zeros j (omega arith))

  pub file_zero : (unpack t).files f s ≡ absent_file
  file_zero =
      let a = read_state_law t f s hf hs ∙ ap read_state head_zero ∙ zero_head.1 in
      let b = read_size_law t f s hf hs ∙ ap read_size head_zero ∙ zero_head.2 in
      λ i. record { state = a i; size = b i; map = λ p. map_zero t f s entries_zero hf hs p i }

-- ---- the other way

-- the bytes of a word that is zero
zero_bytes_law : (m : ℕ) (t : List ℕ) (start : ℕ) → get_word m t start ≡ 0 → (j : ℕ) → j ≤ m → get_or t (start + j) 0 ≡ 0
unfolding get_word
zero_bytes_law zero t start h j k = let e : start + j ≡ start = omega arith in ap (λ i. get_or t i 0) e ∙ h
zero_bytes_law (suc m) t start h j k = same? j (suc m)
    (λ e. ap (λ i. get_or t (start + i) 0) e ∙ omega (arith, h))
    (λ e. zero_bytes_law m t start (omega (arith, h)) j (omega arith))

absent_head : write_head absent 0 ≡ 0
unfolding write_head
absent_head = refl

unmapped_entry : write_entry unmapped ≡ 0
unfolding write_entry
unmapped_entry = refl

module _ (t : List ℕ) (bs : Bytes t) (f s : ℕ) (hf : f < file_count) (hs : s < set_count) where
  absent_word : get_field head_widths (head_word t f s) 2 ≡ 0 → ((unpack t).files f s).state ≡ absent → ((unpack t).files f s).size ≡ 0 → head_word t f s ≡ 0
  absent_word z a n =
      let w : head_word t f s < 4294967296 = get_lt 3 t (file_at f s) bs in
      sym (write_read_head (head_word t f s) w z) ∙ (λ i. write_head ((sym (read_state_law t f s hf hs) ∙ a) i) ((sym (read_size_law t f s hf hs) ∙ n) i)) ∙ absent_head

  unmapped_word : (p : ℕ) → p < page_count → entry_formed t (entry_word t f s p) ≡ true → ((unpack t).files f s).map p ≡ unmapped → entry_word t f s p ≡ 0
  unmapped_word p hp z u =
      let w : entry_word t f s p < 65536 = get_lt 1 t (entry_at f s p) bs in
      sym (write_read_entry t (entry_word t f s p) w z) ∙ ap write_entry (sym (read_map t f s p hf hs hp) ∙ u) ∙ unmapped_entry

  -- LAW: the bytes of an absent file whose words are well formed
  module _ (z : get_field head_widths (head_word t f s) 2 ≡ 0) (k : (p : ℕ) → p < page_count → entry_formed t (entry_word t f s p) ≡ true)
      (a : ((unpack t).files f s).state ≡ absent) (n : ((unpack t).files f s).size ≡ 0) (u : (p : ℕ) → p < page_count → ((unpack t).files f s).map p ≡ unmapped) where
    pub absent_bytes : (j : ℕ) → j < file_bytes → get_or t (file_at f s + j) 0 ≡ 0
    absent_bytes j l = test? (ltb j head_bytes)
        (λ q. let b = ltb-true j head_bytes q in zero_bytes_law 3 t (file_at f s) (absent_word z a n) j (omega arith))
        (λ q. let b = ltb-false j head_bytes q in
        let p = (j - head_bytes) / entry_bytes in
        let hp : p < 64 = omega arith in
        let g : file_at f s + j ≡ entry_at f s p + (j - head_bytes) % entry_bytes = omega arith in
        ap (λ i. get_or t i 0) g ∙ zero_bytes_law 1 t (entry_at f s p) (unmapped_word p hp (k p hp) (u p hp)) ((j - head_bytes) % entry_bytes) (omega arith))
