-- Format: tables of zeros hold nothing, a header is put, and the record of set 0. Assumes nothing.
use mathlib.Core.Bool.{false, true}
use mathlib.Core.List.{List}
use mathlib.Core.Path.{ap, ap₂, refl, subst, sym, ◌∙◌, ◌≡◌}
use Prim.Native.Nat.{◌%◌, ◌*◌, ◌+◌, ◌-◌, ◌/◌, ◌<◌, ◌^◌, ℕ}
use native.Mathlib.Nat.{zero-div}
use native.Mathlib.Omega.{arith}
use lib.Dec.{ltb}
use lib.ListN.{get_or-eq_default, get_or, length}
use borrow.Author.Tests.{ltb-false, ltb-true}
use Rattle.base.specs.Logic.{test?}
use Rattle.base.specs.Update.{upd}
use Rattle.packing.specs.Bitmap.{bit_at, is_one}
use Rattle.packing.specs.Bits.{bit}
use Rattle.packing.specs.Words.{Bytes, get_put_same, get_word, length_put, put_same, put_word}
use Rattle.pages.specs.Run.{length_zeroed, zeroed, zeroed_in}
use Rattle.rules.specs.Calls.{blank_memory, formatted, tables_of}
use Rattle.rules.specs.Sets.{root_alone}
use Rattle.rules.specs.State.{SetRecord, Tables, absent_file, largest_blocks, no_set, set_count, unused_set}
use Rattle.rules.specs.Storage.{real}
use Rattle.rules.specs.Terms.{default_term}
use Rattle.setchanges.specs.Changes.{put_header_in}
use Rattle.tables.proofs.Codes.{header_word}
use Rattle.tables.proofs.FormedStore.{absent_default}
use Rattle.tables.proofs.InRange.{file_in}
use Rattle.tables.proofs.Kept.{bits_kept, files_kept, packed_kept, sets_kept}
use Rattle.tables.proofs.Layouts.{header_zero_field, read_write_blocks, read_write_next, write_header_lt}
use Rattle.tables.proofs.PackUnpack.{pack_unpack}
use Rattle.tables.proofs.ZeroFiles.{file_zero, word_zero, zero_entry, zero_head, zero_header, zero_set_law}
use Rattle.tables.proofs.ReadParts.{bit_default, read_bit, read_blocks_law, read_next_law, read_set_law, set_default}
use Rattle.tables.specs.Layout.{bitmap_at, entry_at, file_at, header_at, read_blocks, read_next, read_set, set_at, table_bytes, term_at, write_header}
use Rattle.tables.specs.Packed.{is_file, pack, unpack}
use Rattle.tables.specs.Views.{PackedTables, Turns, put_set_in}

-- what tables of zeros hold
abbrev pub blank_tables : Tables
blank_tables = record { blocks = 0; next = 0; bits = λ b. false; sets = λ s. unused_set; files = λ f s. absent_file }

bit_of_zero : (k : ℕ) → is_one (bit 0 k) ≡ false
unfolding bit
bit_of_zero k = ap (λ x. is_one (x % 2)) (zero-div (2 ^ k))

module _ (t : List ℕ) (len : length t ≡ table_bytes) (zeros : (i : ℕ) → get_or t i 0 ≡ 0) where
  blank_packed : PackedTables t
  blank_packed = record {
    len = len;
    header_ok = rw (word_zero 3 t header_at (λ j k. zeros (header_at + j))) zero_header.0;
    set_ok = λ s hs. rw (word_zero 2 t (set_at s) (λ j k. zeros (set_at s + j))) zero_set_law.0;
    head_ok = λ f s hf hs. rw (word_zero 3 t (file_at f s) (λ j k. zeros (file_at f s + j))) zero_head.0;
    entry_ok = λ f s p hf hs hp. rw (word_zero 1 t (entry_at f s p) (λ j k. zeros (entry_at f s p + j))) (zero_entry t).0;
  }

  blank_bit : (b : ℕ) → (unpack t).bits b ≡ false
  unfolding bit_at
  blank_bit b = test? (ltb b largest_blocks)
      (λ e. read_bit t b (ltb-true b largest_blocks e) ∙ ap (λ x. is_one (bit x (7 - b % 8))) (zeros (bitmap_at + b / 8)) ∙ bit_of_zero (7 - b % 8))
      (λ e. bit_default t b (ltb-false b largest_blocks e))

  blank_set : (s : ℕ) → (unpack t).sets s ≡ unused_set
  blank_set s = test? (ltb s set_count)
      (λ e. read_set_law t s (ltb-true s set_count e) ∙ ap₂ read_set (word_zero 2 t (set_at s) (λ j k. zeros (set_at s + j))) (word_zero 3 t (term_at s) (λ j k. zeros (term_at s + j))) ∙ zero_set_law.1)
      (λ e. set_default t s (ltb-false s set_count e))

  blank_file : (f s : ℕ) → (unpack t).files f s ≡ absent_file
  blank_file f s = test? (is_file f s)
      (λ e. let l = file_in f s e in file_zero t f s l.0 l.1 (λ j k. zeros (file_at f s + j)))
      (λ e. absent_default t f s e)

  blank_view : unpack t ≡ blank_tables
  blank_view =
      let w = word_zero 3 t header_at (λ j k. zeros (header_at + j)) in
      let a = read_blocks_law t ∙ ap read_blocks w ∙ zero_header.1 in
      let b = read_next_law t ∙ ap read_next w ∙ zero_header.2 in
      λ i. record { blocks = a i; next = b i; bits = λ x. blank_bit x i; sets = λ s. blank_set s i; files = λ f s. blank_file f s i }

-- every byte set to zero
module _ (t : List ℕ) (len : length t ≡ table_bytes) where
  all_zero : (i : ℕ) → get_or (zeroed t 0 table_bytes) i 0 ≡ 0
  all_zero i = test? (ltb i table_bytes)
      (λ e. let l = ltb-true i table_bytes e in zeroed_in t 0 table_bytes i (omega arith) (omega arith) (omega (arith, len)))
      (λ e. let l = ltb-false i table_bytes e in get_or-eq_default (zeroed t 0 table_bytes) 0 (omega (arith, length_zeroed t 0 table_bytes)))

  -- LAW: tables set to zero
  pub zeros_packed : (t' : List ℕ) → t' ≡ zeroed t 0 table_bytes → PackedTables t'
  zeros_packed t' e = subst (λ (x : List ℕ). PackedTables x) (sym e) (blank_packed (zeroed t 0 table_bytes) (length_zeroed t 0 table_bytes ∙ len) all_zero)

  zeros_view : (t' : List ℕ) → t' ≡ zeroed t 0 table_bytes → unpack t' ≡ blank_tables
  zeros_view t' e = ap unpack e ∙ blank_view (zeroed t 0 table_bytes) (length_zeroed t 0 table_bytes ∙ len) all_zero

-- LAW: a header stored
module _ (t : List ℕ) (h : PackedTables t) (b n : ℕ) (hb : b < 8192) (hn : n < 4096) where
  header_turns : Turns t (put_word 3 t header_at (write_header b n)) (put_header_in b n)
  unfolding put_header_in
  header_turns =
      let w = write_header b n in
      let t' = put_word 3 t header_at w in
      let same = put_same 3 t header_at w in
      let len = h.len in
      let word_lt = write_header_lt b n hb hn in
      let here : get_word 3 t' header_at ≡ w = get_put_same 3 t header_at w (omega arith) word_lt in
      let x = read_blocks_law t' ∙ ap read_blocks here ∙ read_write_blocks b n hb hn in
      let y = read_next_law t' ∙ ap read_next here ∙ read_write_next b n hb hn in
      let c = bits_kept header_at (header_at + 4) t t' same (omega arith) in
      let d = sets_kept header_at (header_at + 4) t t' same (omega arith) in
      let e = files_kept header_at (header_at + 4) t t' same (omega arith) in
      record {
        view = λ i. record { blocks = x i; next = y i; bits = c i; sets = d i; files = e i };
        packed = packed_kept header_at (header_at + 4) t t' same h (length_put 3 t header_at w)
            (λ k l. rw here (header_zero_field b n hb hn))
            (omega arith) (omega arith) (λ x y z hx hy hz k l. absurd (omega arith));
      }

-- LAW: the header that the code stores
pub blocks_put : (t t' : List ℕ) (b : ℕ) → PackedTables t × (b < 8192) → t' ≡ put_word 3 t header_at (b * 524288) → Turns t t' (put_header_in b 0)
blocks_put t t' b h e =
    let q : b * 524288 ≡ (b * 4096 + 0) * 128 = omega arith in
    subst (λ (x : List ℕ). Turns t x (put_header_in b 0)) (sym (e ∙ ap (put_word 3 t header_at) (q ∙ header_word b 0))) (header_turns t h.0 b 0 h.1 (omega arith))

-- the record of set 0 after a format
abbrev pub root_record : SetRecord
root_record = record { used = true; writeable = true; level = 0; parent = no_set; first_child = no_set; next_sibling = no_set; term = default_term }

format_view : (b : ℕ) → put_set_in 0 root_record (put_header_in b 0 blank_tables) ≡ tables_of (formatted real (blank_memory b))
unfolding put_set_in put_header_in formatted root_alone upd
format_view b = refl

-- LAW: the steps of format
pub format_packs : (t t₁ t₂ t₃ : List ℕ) (b : ℕ) → length t ≡ table_bytes → t₁ ≡ zeroed t 0 table_bytes → Turns t₁ t₂ (put_header_in b 0) → Turns t₂ t₃ (put_set_in 0 root_record) → Bytes t₃
    → t₃ ≡ pack (tables_of (formatted real (blank_memory b)))
format_packs t t₁ t₂ t₃ b len z head root bs =
    sym (pack_unpack t₃ root.packed bs)
    ∙ ap pack (root.view ∙ ap (put_set_in 0 root_record) (head.view ∙ ap (put_header_in b 0) (zeros_view t len t₁ z)) ∙ format_view b)
