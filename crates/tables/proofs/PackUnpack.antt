-- Packed and unpacked: the state of the tables of a state that fits is that state, and the tables of the state of well formed tables are those tables. Assumes nothing.
use mathlib.Core.List.{List}
use mathlib.Core.Path.{ap, ap₂, subst, sym, ◌∙◌, ◌≡◌}
use Prim.Native.Nat.{◌%◌, ◌*◌, ◌+◌, ◌-◌, ◌/◌, ◌<◌, ℕ, ◌≤◌}
use native.Mathlib.Omega.{arith}
use lib.Dec.{ltb}
use lib.ListN.{get_or-eq_default, get_or}
use borrow.Author.Tests.{ltb-false, ltb-true}
use Rattle.base.specs.Logic.{test?}
use Rattle.base.specs.Tabulate.{tab_of}
use Rattle.packing.specs.Bitmap.{bit_at, map_byte_law, map_lt, map_same}
use Rattle.packing.specs.Words.{Bytes, byte, byte_lt, get_lt, word_byte}
use Rattle.rules.specs.State.{SetRecord, Tables, file_count, largest_blocks, page_count, set_count}
use Rattle.tables.proofs.InRange.{file_in, page_in}
use Rattle.tables.proofs.Layouts.{entry_formed_law, head_zero_field, header_zero_field, read_blocks_fits, read_entry_fits, read_next_fits, read_set_fits, read_set_term, read_size_fits, read_write_blocks, read_write_entry, read_write_next, read_write_set, read_write_size, read_write_state, set_zero_field, write_entry_lt, write_head_lt, write_header_lt, write_read_entry, write_read_head, write_read_header, write_read_set, write_read_term, write_set_lt, write_term_lt}
use Rattle.tables.proofs.PackWords.{at_entry, at_head, at_header, at_map, at_set, at_term, bit_packed, entry_packed, head_packed, header_packed, length_pack, pack_at, set_packed, term_packed}
use Rattle.tables.proofs.ReadParts.{bit_default, map_default, read_bit, read_blocks_law, read_map, read_next_law, read_set_law, read_size_law, read_state_law, set_default, size_default, state_default}
use Rattle.tables.specs.Layout.{bitmap_at, entry_at, entry_bytes, entry_word, file_at, file_bytes, files_at, head_bytes, head_word, header_at, header_word, read_blocks, read_entry, read_next, read_set, read_size, read_state, set_at, set_bytes, set_word, sets_at, table_bytes, term_at, term_word, tree_bytes, write_entry, write_head, write_header, write_set, write_term}
use Rattle.tables.specs.OneReading.{Fits}
use Rattle.tables.specs.Packed.{is_file, is_page, pack, table_byte, unpack}
use Rattle.tables.specs.Views.{PackedTables}

-- ---- a state, its tables and their state

module _ (tb : Tables) (h : Fits tb) where
  set_back : (s : ℕ) → (unpack (pack tb)).sets s ≡ tb.sets s
  set_back s = test? (ltb s set_count)
      (λ e. let l = ltb-true s set_count e in read_set_law (pack tb) s l ∙ ap₂ read_set (set_packed tb s l) (term_packed tb s l) ∙ read_write_set (tb.sets s) (h.set_fits s))
      (λ e. let l = ltb-false s set_count e in set_default (pack tb) s l ∙ sym (h.set_out s l))

  bit_back : (b : ℕ) → (unpack (pack tb)).bits b ≡ tb.bits b
  bit_back b = test? (ltb b largest_blocks)
      (λ e. let l = ltb-true b largest_blocks e in read_bit (pack tb) b l ∙ bit_packed tb b l)
      (λ e. let l = ltb-false b largest_blocks e in bit_default (pack tb) b l ∙ sym (h.bit_out b l))

  state_back : (f s : ℕ) → ((unpack (pack tb)).files f s).state ≡ (tb.files f s).state
  state_back f s = test? (is_file f s)
      (λ e. let l = file_in f s e in
      read_state_law (pack tb) f s l.0 l.1 ∙ ap read_state (head_packed tb f s l.0 l.1) ∙ read_write_state (tb.files f s).state (tb.files f s).size (h.size_fits f s))
      (λ e. state_default (pack tb) f s e ∙ sym (h.state_out f s e))

  size_back : (f s : ℕ) → ((unpack (pack tb)).files f s).size ≡ (tb.files f s).size
  size_back f s = test? (is_file f s)
      (λ e. let l = file_in f s e in
      read_size_law (pack tb) f s l.0 l.1 ∙ ap read_size (head_packed tb f s l.0 l.1) ∙ read_write_size (tb.files f s).state (tb.files f s).size (h.size_fits f s))
      (λ e. size_default (pack tb) f s e ∙ sym (h.size_out f s e))

  map_back : (f s p : ℕ) → ((unpack (pack tb)).files f s).map p ≡ (tb.files f s).map p
  map_back f s p = test? (is_page f s p)
      (λ e. let l = page_in f s p e in
      read_map (pack tb) f s p l.0 l.1 l.2 ∙ ap read_entry (entry_packed tb f s p l.0 l.1 l.2) ∙ read_write_entry ((tb.files f s).map p) (h.block_fits_law f s p))
      (λ e. map_default (pack tb) f s p e ∙ sym (h.map_out f s p e))

  -- THEOREM: the state of the tables of a state
  pub unpack_pack : unpack (pack tb) ≡ tb
  unpack_pack =
      let b = read_blocks_law (pack tb) ∙ ap read_blocks (header_packed tb) ∙ read_write_blocks tb.blocks tb.next h.blocks_fit h.next_fits in
      let n = read_next_law (pack tb) ∙ ap read_next (header_packed tb) ∙ read_write_next tb.blocks tb.next h.blocks_fit h.next_fits in
      λ i. record {
        blocks = b i;
        next = n i;
        bits = λ b. bit_back b i;
        sets = λ s. set_back s i;
        files = λ f s. record { state = state_back f s i; size = size_back f s i; map = λ p. map_back f s p i };
      }

  -- the words of the tables of a state are well formed
  pub pack_packed : PackedTables (pack tb)
  pack_packed = record {
    len = length_pack tb;
    header_ok = rw (header_packed tb) (header_zero_field tb.blocks tb.next h.blocks_fit h.next_fits);
    set_ok = λ s hs. rw (set_packed tb s hs) (set_zero_field (tb.sets s) (h.set_fits s));
    head_ok = λ f s hf hs. rw (head_packed tb f s hf hs) (head_zero_field (tb.files f s).state (tb.files f s).size (h.size_fits f s));
    entry_ok = λ f s p hf hs hp. rw (entry_packed tb f s p hf hs hp) (entry_formed_law (pack tb) ((tb.files f s).map p) (h.block_fits_law f s p));
  }

-- ---- every byte of the tables is a byte of some word, or of the map of bits

at_places : (P : ℕ → Type 0)
    → ((j : ℕ) → j ≤ 3 → P (header_at + j))
    → ((k : ℕ) → k < 512 → P (bitmap_at + k))
    → ((s j : ℕ) → s < set_count → j ≤ 2 → P (set_at s + j))
    → ((s j : ℕ) → s < set_count → j ≤ 3 → P (term_at s + j))
    → ((f s j : ℕ) → f < file_count → s < set_count → j ≤ 3 → P (file_at f s + j))
    → ((f s p j : ℕ) → f < file_count → s < set_count → p < page_count → j ≤ 1 → P (entry_at f s p + j))
    → (i : ℕ) → i < table_bytes → P i
at_places P header bits sets terms heads entries i h =
    test? (ltb i bitmap_at) (λ e. let l = ltb-true i bitmap_at e in subst P (omega arith) (header i (omega arith)))
    (λ e₁. let l₁ = ltb-false i bitmap_at e₁ in
    test? (ltb i sets_at) (λ e. let l = ltb-true i sets_at e in subst P (omega arith) (bits (i - bitmap_at) (omega arith)))
    (λ e₂. let l₂ = ltb-false i sets_at e₂ in
    test? (ltb i files_at)
    (λ e. let l = ltb-true i files_at e in
    let k = (i - sets_at) % set_bytes in
    test? (ltb k tree_bytes) (λ q. let b = ltb-true k tree_bytes q in subst P (omega arith) (sets ((i - sets_at) / set_bytes) k (omega arith) (omega arith)))
    (λ q. let b = ltb-false k tree_bytes q in subst P (omega arith) (terms ((i - sets_at) / set_bytes) (k - tree_bytes) (omega arith) (omega arith))))
    (λ e₃. let l₃ = ltb-false i files_at e₃ in
    let n = (i - files_at) / file_bytes in
    let j = (i - files_at) % file_bytes in
    test? (ltb j head_bytes) (λ e. let l = ltb-true j head_bytes e in subst P (omega arith) (heads (n % 16) (n / 16) j (omega arith) (omega arith) (omega arith)))
    (λ e₄. let l₄ = ltb-false j head_bytes e₄ in
    subst P (omega arith) (entries (n % 16) (n / 16) ((j - head_bytes) / entry_bytes) ((j - head_bytes) % entry_bytes) (omega arith) (omega arith) (omega arith) (omega arith))))))

-- LAW: the tables of a state that fits are bytes
module _ (tb : Tables) (h : Fits tb) where
  table_byte_law : (i : ℕ) → i < table_bytes → table_byte tb i < 256
  table_byte_law = at_places (λ i. table_byte tb i < 256)
      (λ j k. rw (at_header tb j k) (byte_lt 3 _ j (write_header_lt tb.blocks tb.next h.blocks_fit h.next_fits)))
      (λ k l. rw (at_map tb k l) (map_lt tb.bits k))
      (λ s j hs k. rw (at_set tb s j hs k) (byte_lt 2 _ j (write_set_lt (tb.sets s) (h.set_fits s))))
      (λ s j hs k. rw (at_term tb s j hs k) (byte_lt 3 _ j (write_term_lt (tb.sets s).term ((h.set_fits s).first_fits, (h.set_fits s).end_fits))))
      (λ f s j hf hs k. rw (at_head tb f s j hf hs k) (byte_lt 3 _ j (write_head_lt (tb.files f s).state (tb.files f s).size (h.size_fits f s))))
      (λ f s p j hf hs hp k. rw (at_entry tb f s p j hf hs hp k) (byte_lt 1 _ j (write_entry_lt ((tb.files f s).map p) (h.block_fits_law f s p))))

  pub pack_bytes : Bytes (pack tb)
  pack_bytes i = test? (ltb i table_bytes)
      (λ e. let l = ltb-true i table_bytes e in rw (pack_at tb i l) (table_byte_law i l))
      (λ e. let l = ltb-false i table_bytes e in
      let z : get_or (pack tb) i 0 ≡ 0 = get_or-eq_default (pack tb) 0 (omega (arith, length_pack tb)) in rw z (omega arith))

-- ---- tables, their state and its tables

-- what the tables hold fits
pub unpack_fits : (t : List ℕ) → Bytes t → Fits (unpack t)
unpack_fits t bs = record {
  blocks_fit = rw (read_blocks_law t) (read_blocks_fits (header_word t) (get_lt 3 t header_at bs));
  next_fits = rw (read_next_law t) (read_next_fits (header_word t) (get_lt 3 t header_at bs));
  set_fits = λ s. test? (ltb s set_count)
      (λ e. rw (read_set_law t s (ltb-true s set_count e)) (read_set_fits (set_word t s) (term_word t s) (get_lt 2 t (set_at s) bs) (get_lt 3 t (term_at s) bs)))
      (λ e. rw (set_default t s (ltb-false s set_count e)) (omega arith));
  size_fits = λ f s. test? (is_file f s)
      (λ e. let l = file_in f s e in rw (read_size_law t f s l.0 l.1) (read_size_fits (head_word t f s) (get_lt 3 t (file_at f s) bs)))
      (λ e. rw (size_default t f s e) (omega arith));
  block_fits_law = λ f s p. test? (is_page f s p)
      (λ e. let l = page_in f s p e in rw (read_map t f s p l.0 l.1 l.2) (read_entry_fits (entry_word t f s p) (get_lt 1 t (entry_at f s p) bs)))
      (λ e. rw (map_default t f s p e) tt);
  bit_out = bit_default t;
  set_out = set_default t;
  state_out = state_default t;
  size_out = size_default t;
  map_out = map_default t;
}

module _ (t : List ℕ) (h : PackedTables t) (bs : Bytes t) where
  -- each word is that of what it means
  header_again : write_header (unpack t).blocks (unpack t).next ≡ header_word t
  header_again = rw (read_blocks_law t, read_next_law t) (write_read_header (header_word t) (get_lt 3 t header_at bs) h.header_ok)

  set_again : (s : ℕ) → s < set_count → write_set ((unpack t).sets s) ≡ set_word t s
  set_again s hs = ap write_set (read_set_law t s hs) ∙ write_read_set (set_word t s) (term_word t s) (get_lt 2 t (set_at s) bs) (h.set_ok s hs)

  pub term_again : (s : ℕ) → s < set_count → write_term ((unpack t).sets s).term ≡ term_word t s
  term_again s hs =
      ap (λ (r : SetRecord). write_term r.term) (read_set_law t s hs) ∙ ap write_term (read_set_term (set_word t s) (term_word t s))
      ∙ write_read_term (term_word t s) (get_lt 3 t (term_at s) bs)

  head_again : (f s : ℕ) → f < file_count → s < set_count → write_head ((unpack t).files f s).state ((unpack t).files f s).size ≡ head_word t f s
  head_again f s hf hs =
      ap₂ write_head (read_state_law t f s hf hs) (read_size_law t f s hf hs) ∙ write_read_head (head_word t f s) (get_lt 3 t (file_at f s) bs) (h.head_ok f s hf hs)

  entry_again : (f s p : ℕ) → f < file_count → s < set_count → p < page_count → write_entry (((unpack t).files f s).map p) ≡ entry_word t f s p
  entry_again f s p hf hs hp =
      ap write_entry (read_map t f s p hf hs hp) ∙ write_read_entry t (entry_word t f s p) (get_lt 1 t (entry_at f s p) bs) (h.entry_ok f s p hf hs hp)

  byte_again : (i : ℕ) → i < table_bytes → table_byte (unpack t) i ≡ get_or t i 0
  byte_again = at_places (λ i. table_byte (unpack t) i ≡ get_or t i 0)
      (λ j k. at_header (unpack t) j k ∙ ap (λ w. byte 3 w j) header_again ∙ word_byte 3 t header_at j bs k)
      (λ k l. at_map (unpack t) k l ∙ map_same (bit_at t bitmap_at) (unpack t).bits k (λ j m. read_bit t (k * 8 + j) (omega arith)) ∙ map_byte_law t bitmap_at k bs)
      (λ s j hs k. at_set (unpack t) s j hs k ∙ ap (λ w. byte 2 w j) (set_again s hs) ∙ word_byte 2 t (set_at s) j bs k)
      (λ s j hs k. at_term (unpack t) s j hs k ∙ ap (λ w. byte 3 w j) (term_again s hs) ∙ word_byte 3 t (term_at s) j bs k)
      (λ f s j hf hs k. at_head (unpack t) f s j hf hs k ∙ ap (λ w. byte 3 w j) (head_again f s hf hs) ∙ word_byte 3 t (file_at f s) j bs k)
      (λ f s p j hf hs hp k. at_entry (unpack t) f s p j hf hs hp k ∙ ap (λ w. byte 1 w j) (entry_again f s p hf hs hp) ∙ word_byte 1 t (entry_at f s p) j bs k)

  -- THEOREM: the tables of the state of the tables
  pub pack_unpack : pack (unpack t) ≡ t
  unfolding pack
  pack_unpack = tab_of 0 table_bytes (table_byte (unpack t)) t h.len (λ i l. sym (byte_again i l))
