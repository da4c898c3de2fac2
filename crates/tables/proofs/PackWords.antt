-- The bytes and the words of the tables of a state, by place, are those written of the state. Assumes nothing.
use mathlib.Core.Path.{ap, ◌∙◌, ◌≡◌}
use Prim.Native.Nat.{◌%◌, ◌*◌, ◌+◌, ◌-◌, ◌/◌, ◌<◌, ℕ, ◌≤◌}
use native.Mathlib.Omega.{arith}
use lib.ListN.{get_or, length}
use borrow.Author.Tests.{le-ltb, lt-ltb}
use Rattle.base.specs.Tabulate.{get_d_tab, length_tab}
use Rattle.packing.specs.Bitmap.{bit_at, map_bits, map_byte}
use Rattle.packing.specs.Words.{byte, bytes_word}
use Rattle.rules.specs.State.{Tables, file_count, largest_blocks, page_count, set_count}
use Rattle.tables.specs.Layout.{bitmap_at, entry_at, entry_bytes, entry_word, file_at, file_bytes, files_at, head_bytes, head_word, header_at, header_word, set_at, set_bytes, set_word, sets_at, table_bytes, term_at, term_word, tree_bytes, write_entry, write_head, write_header, write_set, write_term}
use Rattle.tables.specs.Packed.{pack, record_byte, set_byte, table_byte}

pub length_pack : (tb : Tables) → length (pack tb) ≡ table_bytes
unfolding pack
length_pack tb = length_tab table_bytes (table_byte tb)

-- ---- byte j of each word

pub pack_at : (tb : Tables) (i : ℕ) → i < table_bytes → get_or (pack tb) i 0 ≡ table_byte tb i
unfolding pack
pack_at tb i h = get_d_tab table_bytes (table_byte tb) i 0 h

module _ (tb : Tables) where
  pub at_header : (j : ℕ) → j ≤ 3 → table_byte tb (header_at + j) ≡ byte 3 (write_header tb.blocks tb.next) j
  unfolding table_byte
  at_header j h = let e : header_at + j ≡ j = omega arith in rw (e, lt-ltb j bitmap_at (omega arith))

  pub at_map : (k : ℕ) → k < 512 → table_byte tb (bitmap_at + k) ≡ map_byte tb.bits k
  unfolding table_byte
  at_map k h = let e : bitmap_at + k - bitmap_at ≡ k = omega arith in rw (le-ltb (bitmap_at + k) bitmap_at (omega arith), lt-ltb (bitmap_at + k) sets_at (omega arith), e)

  at_set_record : (s j : ℕ) → s < set_count → j < set_bytes → table_byte tb (set_at s + j) ≡ set_byte (tb.sets s) j
  unfolding table_byte
  at_set_record s j h k =
      let i = set_at s + j in
      let a : (i - sets_at) / set_bytes ≡ s = omega arith in
      let b : (i - sets_at) % set_bytes ≡ j = omega arith in
      rw (le-ltb i bitmap_at (omega arith), le-ltb i sets_at (omega arith), lt-ltb i files_at (omega arith), a, b)

  pub at_set : (s j : ℕ) → s < set_count → j ≤ 2 → table_byte tb (set_at s + j) ≡ byte 2 (write_set (tb.sets s)) j
  unfolding set_byte
  at_set s j h k = at_set_record s j h (omega arith) ∙ rw (lt-ltb j tree_bytes (omega arith))

  pub at_term : (s j : ℕ) → s < set_count → j ≤ 3 → table_byte tb (term_at s + j) ≡ byte 3 (write_term (tb.sets s).term) j
  unfolding set_byte
  at_term s j h k =
      let a : term_at s + j ≡ set_at s + (tree_bytes + j) = omega arith in
      let b : tree_bytes + j - tree_bytes ≡ j = omega arith in
      ap (table_byte tb) a ∙ at_set_record s (tree_bytes + j) h (omega arith) ∙ rw (le-ltb (tree_bytes + j) tree_bytes (omega arith), b)

  pub at_record : (f s j : ℕ) → f < file_count → s < set_count → j < file_bytes → table_byte tb (file_at f s + j) ≡ record_byte tb (s * file_count + f) j
  unfolding table_byte
  at_record f s j hf hs h =
      let i = file_at f s + j in
      let a : (i - files_at) / file_bytes ≡ s * file_count + f = omega arith in
      let b : (i - files_at) % file_bytes ≡ j = omega arith in
      rw (le-ltb i bitmap_at (omega arith), le-ltb i sets_at (omega arith), le-ltb i files_at (omega arith), a, b)

  pub at_head : (f s j : ℕ) → f < file_count → s < set_count → j ≤ 3 → table_byte tb (file_at f s + j) ≡ byte 3 (write_head (tb.files f s).state (tb.files f s).size) j
  unfolding record_byte
  at_head f s j hf hs h =
      let a : (s * file_count + f) % file_count ≡ f = omega arith in
      let b : (s * file_count + f) / file_count ≡ s = omega arith in
      at_record f s j hf hs (omega arith) ∙ rw (lt-ltb j head_bytes (omega arith), a, b)

  pub at_entry : (f s p j : ℕ) → f < file_count → s < set_count → p < page_count → j ≤ 1 → table_byte tb (entry_at f s p + j) ≡ byte 1 (write_entry ((tb.files f s).map p)) j
  unfolding record_byte
  at_entry f s p j hf hs hp h =
      let k = head_bytes + p * entry_bytes + j in
      let a : (s * file_count + f) % file_count ≡ f = omega arith in
      let b : (s * file_count + f) / file_count ≡ s = omega arith in
      let c : (k - head_bytes) / entry_bytes ≡ p = omega arith in
      let d : (k - head_bytes) % entry_bytes ≡ j = omega arith in
      let e : entry_at f s p + j ≡ file_at f s + k = omega arith in
      ap (table_byte tb) e ∙ at_record f s k hf hs (omega arith) ∙ rw (le-ltb k head_bytes (omega arith), a, b, c, d)

  -- ---- the words

  pub header_packed : header_word (pack tb) ≡ write_header tb.blocks tb.next
  header_packed = bytes_word 3 (pack tb) header_at _ (λ j k. pack_at tb (header_at + j) (omega arith) ∙ at_header j k)

  pub bit_packed : (b : ℕ) → b < largest_blocks → bit_at (pack tb) bitmap_at b ≡ tb.bits b
  bit_packed b h = map_bits (pack tb) bitmap_at 512 tb.bits (λ k l. pack_at tb (bitmap_at + k) (omega arith) ∙ at_map k l) b (omega arith)

  pub set_packed : (s : ℕ) → s < set_count → set_word (pack tb) s ≡ write_set (tb.sets s)
  set_packed s h = bytes_word 2 (pack tb) (set_at s) _ (λ j k. pack_at tb (set_at s + j) (omega arith) ∙ at_set s j h k)

  pub term_packed : (s : ℕ) → s < set_count → term_word (pack tb) s ≡ write_term (tb.sets s).term
  term_packed s h = bytes_word 3 (pack tb) (term_at s) _ (λ j k. pack_at tb (term_at s + j) (omega arith) ∙ at_term s j h k)

  pub head_packed : (f s : ℕ) → f < file_count → s < set_count → head_word (pack tb) f s ≡ write_head (tb.files f s).state (tb.files f s).size
  head_packed f s hf hs = bytes_word 3 (pack tb) (file_at f s) _ (λ j k. pack_at tb (file_at f s + j) (omega arith) ∙ at_head f s j hf hs k)

  pub entry_packed : (f s p : ℕ) → f < file_count → s < set_count → p < page_count → entry_word (pack tb) f s p ≡ write_entry ((tb.files f s).map p)
  entry_packed f s p hf hs hp =
      bytes_word 1 (pack tb) (entry_at f s p) _ (λ j k. pack_at tb (entry_at f s p + j) (omega arith) ∙ at_entry f s p j hf hs hp k)
