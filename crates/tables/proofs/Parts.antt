-- The tables in two parts: `front`, the header, the bitmap and the set records; and `files`, the file records behind them. What is read of the tables is read
-- of one of the two. Assumes nothing.
use mathlib.Core.List.{List, ◌++◌}
use mathlib.Core.Path.{ap, ap₂, fun_ext, sym, ◌∙◌, ◌≡◌}
use Prim.Native.Nat.{◌*◌, ◌+◌, ◌-◌, ◌<◌, ℕ}
use native.Mathlib.Omega.{arith}
use lib.Dec.{ltb}
use lib.ListN.{drop, get_or, length, length-append, length-drop, take, take-append-drop}
use lib.Seq.{get_or-append-add, take_all}
use borrow.Author.Tests.{ltb-false, ltb-true}
use Rattle.base.specs.Logic.{test?}
use Rattle.packing.specs.Bitmap.{bit_front}
use Rattle.packing.specs.Words.{get_behind, get_front, get_word}
use Rattle.rules.specs.State.{file_count, largest_blocks, page_count, set_count}
use Rattle.tables.proofs.ReadParts.{bit_default, read_bit, read_blocks_law, read_map, read_next_law, read_set_law, set_default}
use Rattle.tables.specs.Layout.{all_files_bytes, bitmap_at, entry_bytes, entry_word, file_bytes, files_at, head_bytes, head_word, header_word, read_blocks, read_entry, read_next, read_set, set_at, set_word, table_bytes, term_at, term_word}
use Rattle.tables.specs.Packed.{unpack}

-- LAW: a list as it stands, cut in two
pub two_parts : (t : List ℕ) → take files_at t ++ take (length t - files_at) (drop files_at t) ≡ t
two_parts t = ap (λ x. take files_at t ++ x) (take_all (length t - files_at) (drop files_at t) (omega (arith, length-drop files_at t))) ∙ take-append-drop files_at t

module _ (front files : List ℕ) (len : length front ≡ files_at) where
  abbrev whole : List ℕ
  whole = front ++ files

  -- LAW: the length
  pub whole_length : length files ≡ all_files_bytes → length whole ≡ table_bytes
  whole_length h = length-append front files ∙ ap₂ ◌+◌ len h

  -- LAWS: a byte, a word
  pub byte_files : (k : ℕ) → get_or whole (files_at + k) 0 ≡ get_or files k 0
  byte_files k = ap (λ n. get_or whole (n + k) 0) (sym len) ∙ get_or-append-add front files k 0

  word_front : (m at : ℕ) → at + m < files_at → get_word m whole at ≡ get_word m front at
  word_front m at l = get_front m front files at (omega (arith, len))

  word_files : (m at : ℕ) → get_word m whole (files_at + at) ≡ get_word m files at
  word_files m at = ap (λ n. get_word m whole (n + at)) (sym len) ∙ get_behind m front files at

  -- LAWS: header, bits and set records are those of the front
  pub header_front : header_word whole ≡ header_word front
  header_front = word_front 3 0 (omega arith)

  pub blocks_front : (unpack whole).blocks ≡ (unpack front).blocks
  blocks_front = read_blocks_law whole ∙ ap read_blocks header_front ∙ sym (read_blocks_law front)

  pub next_front : (unpack whole).next ≡ (unpack front).next
  next_front = read_next_law whole ∙ ap read_next header_front ∙ sym (read_next_law front)

  bit_is : (b : ℕ) → (unpack whole).bits b ≡ (unpack front).bits b
  bit_is b = test? (ltb b largest_blocks)
      (λ e. let l = ltb-true b largest_blocks e in read_bit whole b l ∙ bit_front front files bitmap_at b (omega (arith, len)) ∙ sym (read_bit front b l))
      (λ e. let l = ltb-false b largest_blocks e in bit_default whole b l ∙ sym (bit_default front b l))

  pub bits_front : (unpack whole).bits ≡ (unpack front).bits
  bits_front = fun_ext bit_is

  pub set_word_front : (s : ℕ) → s < set_count → set_word whole s ≡ set_word front s
  set_word_front s l = word_front 2 (set_at s) (omega arith)

  term_word_front : (s : ℕ) → s < set_count → term_word whole s ≡ term_word front s
  term_word_front s l = word_front 3 (term_at s) (omega arith)

  set_is : (s : ℕ) → (unpack whole).sets s ≡ (unpack front).sets s
  set_is s = test? (ltb s set_count)
      (λ e. let l = ltb-true s set_count e in read_set_law whole s l ∙ ap₂ read_set (set_word_front s l) (term_word_front s l) ∙ sym (read_set_law front s l))
      (λ e. let l = ltb-false s set_count e in set_default whole s l ∙ sym (set_default front s l))

  pub sets_front : (unpack whole).sets ≡ (unpack front).sets
  sets_front = fun_ext set_is

  -- LAWS: the words of a file record are those of the file records
  pub head_files : (f s : ℕ) → head_word whole f s ≡ get_word 3 files ((s * file_count + f) * file_bytes)
  head_files f s = word_files 3 ((s * file_count + f) * file_bytes)

  pub entry_files : (f s p : ℕ) → entry_word whole f s p ≡ get_word 1 files (head_bytes + (s * file_count + f) * file_bytes + p * entry_bytes)
  entry_files f s p =
      let q : files_at + head_bytes + (s * file_count + f) * file_bytes + p * entry_bytes ≡ files_at + (head_bytes + (s * file_count + f) * file_bytes + p * entry_bytes) = omega arith in
      ap (get_word 1 whole) q ∙ word_files 1 (head_bytes + (s * file_count + f) * file_bytes + p * entry_bytes)

  pub map_files : (f s p : ℕ) → f < file_count → s < set_count → p < page_count
      → ((unpack whole).files f s).map p ≡ read_entry (get_word 1 files (head_bytes + (s * file_count + f) * file_bytes + p * entry_bytes))
  map_files f s p lf ls lp = read_map whole f s p lf ls lp ∙ ap read_entry (entry_files f s p)
