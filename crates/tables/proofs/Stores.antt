-- A store into the tables is a change of the state: an entry, a head, a set record, the next start, a bit. Assumes nothing.
use mathlib.Core.Bool.{Bool, false, true}
use mathlib.Core.List.{List}
use mathlib.Core.Path.{ap, ap₂, refl, subst, sym, ◌∙◌, ◌≡◌}
use Prim.Native.Nat.{◌+◌, ◌/◌, ◌<◌, ◌^◌, suc, ℕ}
use native.Mathlib.Omega.{arith}
use lib.Dec.{ltb}
use lib.ListN.{length}
use borrow.Author.Tests.{ltb-false, ltb-true}
use Rattle.base.specs.Logic.{test?}
use Rattle.base.specs.Update.{upd, upd_is, upd_other, upd_same, upd_upd}
use Rattle.packing.specs.Bitmap.{bit_at, bits_clear, bits_set, clear_same, clear_bit, length_clear_bit, length_set_bit, set_same, set_bit}
use Rattle.packing.specs.Fields.{get_field}
use Rattle.packing.specs.Words.{Same, get_put_same, get_word, length_put, put_same, put_word}
use Rattle.rules.specs.Rules.{put_entry}
use Rattle.rules.specs.State.{Entry, SetRecord, State, Tables, Term, file_count, largest_blocks, page_count, set_count}
use Rattle.rules.specs.Terms.{with_term}
use Rattle.tables.proofs.Kept.{bits_kept, blocks_kept, file_put, files_kept, map_kept, next_kept, packed_kept, set_kept, sets_kept, size_kept, state_kept, word_kept}
use Rattle.tables.proofs.Layouts.{TermFits, entry_formed_law, head_zero_field, header_zero_field, read_set_term, read_set_with, read_write_blocks, read_write_entry, read_write_next, read_write_size, read_write_state, read_write_term, read_write_tree, set_zero_field, write_entry_lt, write_head_lt, write_header_lt, write_set_lt, write_term_lt}
use Rattle.tables.proofs.Operations.{turns_more}
use Rattle.tables.proofs.ReadParts.{bit_default, read_bit, read_blocks_law, read_map, read_next_law, read_set_law, read_size_law, read_state_law}
use Rattle.tables.specs.Layout.{bitmap_at, entry_at, file_at, head_widths, header_at, header_widths, read_blocks, read_entry, read_next, read_set, read_size, read_state, set_at, set_widths, set_word, term_at, term_word, write_entry, write_head, write_header, write_set, write_term}
use Rattle.tables.specs.OneReading.{SetFits, block_fits}
use Rattle.tables.specs.Packed.{entry_formed, unpack}
use Rattle.tables.specs.Terms.{put_term_in}
use Rattle.tables.specs.Views.{PackedTables, Turns, put_bit_in, put_entry_in, put_head, put_head_in, put_next_in, put_set_in}

-- the word that is put, at whichever place it is
put_word_law : (P : ℕ → Type 0) (m : ℕ) (t : List ℕ) (at v a : ℕ) → a ≡ at → at + m < length t → v < 256 ^ suc m → P v → P (get_word m (put_word m t at v) a)
put_word_law P m t at v a e l h p = rw (e, get_put_same m t at v l h) p

-- ---- an entry

module _ (t : List ℕ) (h : PackedTables t) (f s p : ℕ) (e : Entry ℕ) (hf : f < file_count) (hs : s < set_count) (hp : p < page_count) (he : block_fits e) where
  -- LAW: an entry stored
  pub entry_turns : Turns t (put_word 1 t (entry_at f s p) (write_entry e)) (put_entry_in f s p e)
  unfolding put_entry_in put_entry
  entry_turns =
      let at = entry_at f s p in
      let w = write_entry e in
      let t' = put_word 1 t at w in
      let same = put_same 1 t at w in
      let len = h.len in
      let word_lt = write_entry_lt e he in
      let here : get_word 1 t' at ≡ w = get_put_same 1 t at w (omega arith) word_lt in
      let a = state_kept at (at + 2) t t' same f s (omega arith) in
      let b = size_kept at (at + 2) t t' same f s (omega arith) in
      let c = upd_is ((unpack t).files f s).map ((unpack t').files f s).map p e
      (read_map t' f s p hf hs hp ∙ ap read_entry here ∙ read_write_entry e he)
      (λ q n. map_kept at (at + 2) t t' same f s q (λ _ _ _ k l. n (omega arith))) in
      record {
        view = file_put at (at + 2) t t' same f s _ hf hs (omega arith) (omega arith) (λ i. record { state = a i; size = b i; map = c i });
        packed = packed_kept at (at + 2) t t' same h (length_put 1 t at w)
            (omega arith) (omega arith) (omega arith)
            (λ x y z hx hy hz k l. put_word_law (λ v. entry_formed t v ≡ true) 1 t at w (entry_at x y z) (omega arith) (omega arith) word_lt (entry_formed_law t e he));
      }

-- ---- the state and size of a file

module _ (t : List ℕ) (h : PackedTables t) (f s : ℕ) (state : State) (size : ℕ) (hf : f < file_count) (hs : s < set_count) (hn : size < 65536) where
  -- LAW: a state and a size stored
  pub head_turns : Turns t (put_word 3 t (file_at f s) (write_head state size)) (put_head_in f s state size)
  unfolding put_head_in put_head
  head_turns =
      let at = file_at f s in
      let w = write_head state size in
      let t' = put_word 3 t at w in
      let same = put_same 3 t at w in
      let len = h.len in
      let word_lt = write_head_lt state size hn in
      let here : get_word 3 t' at ≡ w = get_put_same 3 t at w (omega arith) word_lt in
      let a = read_state_law t' f s hf hs ∙ ap read_state here ∙ read_write_state state size hn in
      let b = read_size_law t' f s hf hs ∙ ap read_size here ∙ read_write_size state size hn in
      record {
        view = file_put at (at + 4) t t' same f s _ hf hs (omega arith) (omega arith)
            (λ i. record { state = a i; size = b i; map = λ p. map_kept at (at + 4) t t' same f s p (omega arith) i });
        packed = packed_kept at (at + 4) t t' same h (length_put 3 t at w)
            (omega arith) (omega arith)
            (λ x y hx hy k l. put_word_law (λ v. get_field head_widths v 2 ≡ 0) 3 t at w (file_at x y) (omega arith) (omega arith) word_lt (head_zero_field state size hn))
            (λ x y z hx hy hz k l. absurd (omega arith));
      }

-- ---- a set record

module _ (t : List ℕ) (h : PackedTables t) (s : ℕ) (r : SetRecord) (hs : s < set_count) (hr : SetFits r) where
  -- the first word of a set record stored: the term stays
  tree_turns : Turns t (put_word 2 t (set_at s) (write_set r)) (put_set_in s (with_term r ((unpack t).sets s).term))
  unfolding put_set_in
  tree_turns =
      let at = set_at s in
      let w = write_set r in
      let t' = put_word 2 t at w in
      let same = put_same 2 t at w in
      let len = h.len in
      let word_lt = write_set_lt r hr in
      let here : get_word 2 t' at ≡ w = get_put_same 2 t at w (omega arith) word_lt in
      let a = blocks_kept at (at + 3) t t' same (omega arith) in
      let b = next_kept at (at + 3) t t' same (omega arith) in
      let c = bits_kept at (at + 3) t t' same (omega arith) in
      let term : term_word t' s ≡ term_word t s = word_kept at (at + 3) t t' same 3 (term_at s) (omega arith) in
      let d = upd_is (unpack t).sets (unpack t').sets s (with_term r ((unpack t).sets s).term)
      (read_set_law t' s hs ∙ ap₂ read_set here term ∙ read_write_tree r (term_word t s) hr
      ∙ ap (with_term r) (sym (ap (λ (y : SetRecord). y.term) (read_set_law t s hs) ∙ read_set_term (set_word t s) (term_word t s))))
      (λ x n. set_kept at (at + 3) t t' same x (λ _ k l. n (omega arith))) in
      let e = files_kept at (at + 3) t t' same (omega arith) in
      record {
        view = λ i. record { blocks = a i; next = b i; bits = c i; sets = d i; files = e i };
        packed = packed_kept at (at + 3) t t' same h (length_put 2 t at w)
            (omega arith)
            (λ x hx k l. put_word_law (λ v. get_field set_widths v 6 ≡ 0) 2 t at w (set_at x) (omega arith) (omega arith) word_lt (set_zero_field r hr))
            (omega arith) (λ x y z hx hy hz k l. absurd (omega arith));
      }

module _ (t : List ℕ) (h : PackedTables t) (s : ℕ) (x : Term) (hs : s < set_count) (hx : TermFits x) where
  -- LAW: a term stored
  pub term_turns : Turns t (put_word 3 t (term_at s) (write_term x)) (put_term_in s x)
  unfolding put_term_in
  term_turns =
      let at = term_at s in
      let w = write_term x in
      let t' = put_word 3 t at w in
      let same = put_same 3 t at w in
      let len = h.len in
      let here : get_word 3 t' at ≡ w = get_put_same 3 t at w (omega arith) (write_term_lt x hx) in
      let a = blocks_kept at (at + 4) t t' same (omega arith) in
      let b = next_kept at (at + 4) t t' same (omega arith) in
      let c = bits_kept at (at + 4) t t' same (omega arith) in
      let tree : set_word t' s ≡ set_word t s = word_kept at (at + 4) t t' same 2 (set_at s) (omega arith) in
      let d = upd_is (unpack t).sets (unpack t').sets s (with_term ((unpack t).sets s) x)
      (read_set_law t' s hs ∙ ap₂ read_set tree here ∙ read_set_with (set_word t s) (term_word t s) w ∙ ap (with_term (read_set (set_word t s) (term_word t s))) (read_write_term x hx)
      ∙ ap (λ (y : SetRecord). with_term y x) (sym (read_set_law t s hs)))
      (λ y n. set_kept at (at + 4) t t' same y (λ _ k l. n (omega arith))) in
      let e = files_kept at (at + 4) t t' same (omega arith) in
      record {
        view = λ i. record { blocks = a i; next = b i; bits = c i; sets = d i; files = e i };
        packed = packed_kept at (at + 4) t t' same h (length_put 3 t at w)
            (omega arith)
            (λ y hy k l. subst (λ v. get_field set_widths v 6 ≡ 0) (sym (word_kept at (at + 4) t t' same 2 (set_at y) (omega arith))) (h.set_ok y hy))
            (omega arith) (λ y z p hy hz hp k l. absurd (omega arith));
      }

module _ (t : List ℕ) (h : PackedTables t) (s : ℕ) (r : SetRecord) (hs : s < set_count) (hr : SetFits r) where
  -- the first word, then the term
  both_put : (tb : Tables) → put_term_in s r.term (put_set_in s (with_term r (tb.sets s).term) tb) ≡ put_set_in s r tb
  unfolding put_term_in put_set_in
  both_put tb =
      let old : SetRecord = with_term r (tb.sets s).term in
      let e : upd (upd tb.sets s old) s (with_term (upd tb.sets s old s) r.term) ≡ upd tb.sets s r =
      ap (λ (y : SetRecord). upd (upd tb.sets s old) s (with_term y r.term)) (upd_same tb.sets s old) ∙ upd_upd tb.sets s old r in
      λ i. record { blocks = tb.blocks; next = tb.next; bits = tb.bits; sets = e i; files = tb.files }

  -- LAW: a set record stored
  pub set_turns : Turns t (put_word 3 (put_word 2 t (set_at s) (write_set r)) (term_at s) (write_term r.term)) (put_set_in s r)
  set_turns =
      let a = tree_turns t h s r hs hr in
      turns_more (put_set_in s (with_term r ((unpack t).sets s).term)) (put_term_in s r.term) (put_set_in s r) a
      (term_turns (put_word 2 t (set_at s) (write_set r)) a.packed s r.term hs (hr.first_fits, hr.end_fits)) (both_put (unpack t))

-- ---- the next start

module _ (t : List ℕ) (h : PackedTables t) (b n : ℕ) (eb : b ≡ (unpack t).blocks) (hb : b < 8192) (hn : n < 4096) where
  -- LAW: a next start stored; b is the block count, as it was
  pub next_turns : Turns t (put_word 3 t header_at (write_header b n)) (put_next_in n)
  unfolding put_next_in
  next_turns =
      let w = write_header b n in
      let t' = put_word 3 t header_at w in
      let same = put_same 3 t header_at w in
      let len = h.len in
      let word_lt = write_header_lt b n hb hn in
      let here : get_word 3 t' header_at ≡ w = get_put_same 3 t header_at w (omega arith) word_lt in
      let x = read_blocks_law t' ∙ ap read_blocks here ∙ read_write_blocks b n hb hn ∙ eb in
      let y = read_next_law t' ∙ ap read_next here ∙ read_write_next b n hb hn in
      let c = bits_kept header_at (header_at + 4) t t' same (omega arith) in
      let d = sets_kept header_at (header_at + 4) t t' same (omega arith) in
      let e = files_kept header_at (header_at + 4) t t' same (omega arith) in
      record {
        view = λ i. record { blocks = x i; next = y i; bits = c i; sets = d i; files = e i };
        packed = packed_kept header_at (header_at + 4) t t' same h (length_put 3 t header_at w)
            (λ k l. put_word_law (λ v. get_field header_widths v 2 ≡ 0) 3 t header_at w header_at refl (omega arith) word_lt (header_zero_field b n hb hn))
            (omega arith) (omega arith) (λ x y z hx hy hz k l. absurd (omega arith));
      }

-- ---- a bit

module _ (t : List ℕ) (h : PackedTables t) (b : ℕ) (hb : b < largest_blocks) where
  -- tables whose byte for bit b alone is changed, and whose bits are changed at b alone
  bit_turns : (t' : List ℕ) (v : Bool) → length t' ≡ length t → Same (bitmap_at + b / 8) (bitmap_at + b / 8 + 1) t t'
      → bit_at t' bitmap_at ≡ upd (bit_at t bitmap_at) b v → Turns t t' (put_bit_in b v)
  unfolding put_bit_in
  bit_turns t' v len same bits =
      let lo = bitmap_at + b / 8 in
      let x = blocks_kept lo (lo + 1) t t' same (omega arith) in
      let y = next_kept lo (lo + 1) t t' same (omega arith) in
      let c = upd_is (unpack t).bits (unpack t').bits b v
      (read_bit t' b hb ∙ ap (λ (g : ℕ → Bool). g b) bits ∙ upd_same (bit_at t bitmap_at) b v)
      (λ k n. test? (ltb k largest_blocks)
      (λ e. let l = ltb-true k largest_blocks e in
      read_bit t' k l ∙ ap (λ (g : ℕ → Bool). g k) bits ∙ upd_other (bit_at t bitmap_at) b v k n ∙ sym (read_bit t k l))
      (λ e. let l = ltb-false k largest_blocks e in bit_default t' k l ∙ sym (bit_default t k l))) in
      let d = sets_kept lo (lo + 1) t t' same (omega arith) in
      let e = files_kept lo (lo + 1) t t' same (omega arith) in
      record {
        view = λ i. record { blocks = x i; next = y i; bits = c i; sets = d i; files = e i };
        packed = packed_kept lo (lo + 1) t t' same h len (omega arith) (omega arith) (omega arith) (λ x y z hx hy hz k l. absurd (omega arith));
      }

  -- LAW: a bit set
  pub set_bit_turns : Turns t (set_bit t bitmap_at b) (put_bit_in b true)
  set_bit_turns = let len = h.len in bit_turns (set_bit t bitmap_at b) true (length_set_bit t bitmap_at b) (set_same t bitmap_at b) (bits_set t bitmap_at b (omega arith))

  -- LAW: a bit cleared
  pub clear_bit_turns : Turns t (clear_bit t bitmap_at b) (put_bit_in b false)
  clear_bit_turns = let len = h.len in bit_turns (clear_bit t bitmap_at b) false (length_clear_bit t bitmap_at b) (clear_same t bitmap_at b) (bits_clear t bitmap_at b (omega arith))
