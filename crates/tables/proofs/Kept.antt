-- What a change of some bytes of the tables, from lo on and below hi, leaves of the state: each part whose bytes it does not meet. Assumes nothing.
use mathlib.Core.Bool.{true}
use mathlib.Core.List.{List}
use mathlib.Core.Path.{ap, ap₂, fun_ext, subst, sym, ◌∙◌, ◌≡◌}
use Prim.Native.Nat.{◌*◌, ◌+◌, ◌<◌, suc, ℕ, ◌≤◌}
use native.Mathlib.Omega.{arith}
use lib.Dec.{ltb}
use lib.ListN.{length}
use borrow.Author.Tests.{ltb-false, ltb-true}
use Rattle.base.specs.Logic.{test?}
use Rattle.base.specs.Update.{upd, upd_in}
use Rattle.packing.specs.Bitmap.{bits_same}
use Rattle.packing.specs.Fields.{get_field}
use Rattle.packing.specs.Words.{Same, get_word, word_same}
use Rattle.rules.specs.State.{File, file_count, largest_blocks, page_count, set_count}
use Rattle.tables.proofs.InRange.{file_in, page_in}
use Rattle.tables.proofs.ReadParts.{bit_default, map_default, read_bit, read_blocks_law, read_map, read_next_law, read_set_law, read_size_law, read_state_law, set_default, size_default, state_default}
use Rattle.tables.specs.Layout.{bitmap_at, entry_at, entry_bytes, entry_word, file_at, file_bytes, files_at, head_bytes, head_widths, head_word, header_at, header_widths, header_word, read_blocks, read_entry, read_next, read_set, read_size, read_state, set_at, set_bytes, set_widths, set_word, sets_at, term_at}
use Rattle.tables.specs.Packed.{entry_formed, is_file, is_page, unpack}
use Rattle.tables.specs.Views.{PackedTables, put_files}

module _ (lo hi : ℕ) (t t' : List ℕ) (same : Same lo hi t t') where
  -- ---- the parts of the state

  -- a word that the change does not meet
  pub word_kept : (m at : ℕ) → (lo < at + suc m → at < hi → ⊥) → get_word m t' at ≡ get_word m t at
  word_kept m at h = word_same lo hi t t' same m at (λ j k a b. h (omega arith) (omega arith))

  -- what is read from such a word
  read_kept : {X : Type 0} (g : ℕ → X) (m at : ℕ) {x x' : X} → x' ≡ g (get_word m t' at) → x ≡ g (get_word m t at) → (lo < at + suc m → at < hi → ⊥) → x' ≡ x
  read_kept g m at a b h = a ∙ ap g (word_kept m at h) ∙ sym b

  pub blocks_kept : bitmap_at ≤ lo → (unpack t').blocks ≡ (unpack t).blocks
  blocks_kept h = read_kept read_blocks 3 header_at (read_blocks_law t') (read_blocks_law t) (omega arith)

  pub next_kept : bitmap_at ≤ lo → (unpack t').next ≡ (unpack t).next
  next_kept h = read_kept read_next 3 header_at (read_next_law t') (read_next_law t) (omega arith)

  pub bits_kept : (lo < sets_at → bitmap_at < hi → ⊥) → (unpack t').bits ≡ (unpack t).bits
  bits_kept h = fun_ext (λ b. test? (ltb b largest_blocks)
      (λ e. let l = ltb-true b largest_blocks e in
      read_bit t' b l ∙ bits_same lo hi t t' same bitmap_at b (λ x y. h (omega arith) (omega arith)) ∙ sym (read_bit t b l))
      (λ e. let l = ltb-false b largest_blocks e in bit_default t' b l ∙ sym (bit_default t b l)))

  pub set_kept : (s : ℕ) → (s < set_count → lo < set_at s + set_bytes → set_at s < hi → ⊥) → (unpack t').sets s ≡ (unpack t).sets s
  set_kept s h = test? (ltb s set_count)
      (λ e. let l = ltb-true s set_count e in
      read_set_law t' s l ∙ ap₂ read_set (word_kept 2 (set_at s) (λ a b. h l (omega arith) (omega arith))) (word_kept 3 (term_at s) (λ a b. h l (omega arith) (omega arith)))
      ∙ sym (read_set_law t s l))
      (λ e. let l = ltb-false s set_count e in set_default t' s l ∙ sym (set_default t s l))

  pub state_kept : (f s : ℕ) → (f < file_count → s < set_count → lo < file_at f s + head_bytes → file_at f s < hi → ⊥) → ((unpack t').files f s).state ≡ ((unpack t).files f s).state
  state_kept f s h = test? (is_file f s)
      (λ e. let l = file_in f s e in read_kept read_state 3 (file_at f s) (read_state_law t' f s l.0 l.1) (read_state_law t f s l.0 l.1) (h l.0 l.1))
      (λ e. state_default t' f s e ∙ sym (state_default t f s e))

  pub size_kept : (f s : ℕ) → (f < file_count → s < set_count → lo < file_at f s + head_bytes → file_at f s < hi → ⊥) → ((unpack t').files f s).size ≡ ((unpack t).files f s).size
  size_kept f s h = test? (is_file f s)
      (λ e. let l = file_in f s e in read_kept read_size 3 (file_at f s) (read_size_law t' f s l.0 l.1) (read_size_law t f s l.0 l.1) (h l.0 l.1))
      (λ e. size_default t' f s e ∙ sym (size_default t f s e))

  pub map_kept : (f s p : ℕ) → (f < file_count → s < set_count → p < page_count → lo < entry_at f s p + entry_bytes → entry_at f s p < hi → ⊥)
      → ((unpack t').files f s).map p ≡ ((unpack t).files f s).map p
  map_kept f s p h = test? (is_page f s p)
      (λ e. let l = page_in f s p e in
      read_kept read_entry 1 (entry_at f s p) (read_map t' f s p l.0 l.1 l.2) (read_map t f s p l.0 l.1 l.2) (h l.0 l.1 l.2))
      (λ e. map_default t' f s p e ∙ sym (map_default t f s p e))

  -- a whole file
  file_kept : (f s : ℕ) → (f < file_count → s < set_count → lo < file_at f s + file_bytes → file_at f s < hi → ⊥) → (unpack t').files f s ≡ (unpack t).files f s
  file_kept f s h =
      let a = state_kept f s (λ hf hs a b. h hf hs (omega arith) (omega arith)) in
      let b = size_kept f s (λ hf hs a b. h hf hs (omega arith) (omega arith)) in
      λ i. record { state = a i; size = b i; map = λ p. map_kept f s p (λ hf hs hp a b. h hf hs (omega arith) (omega arith)) i }

  -- every set, every file
  pub sets_kept : (lo < files_at → sets_at < hi → ⊥) → (unpack t').sets ≡ (unpack t).sets
  sets_kept h = fun_ext (λ s. set_kept s (λ hs a b. h (omega arith) (omega arith)))

  pub files_kept : hi ≤ files_at → (unpack t').files ≡ (unpack t).files
  files_kept h = fun_ext (λ f. fun_ext (λ s. file_kept f s (λ hf hs a b. omega arith)))

  -- ---- a change within one file is a change of that file alone

  pub file_put : (f s : ℕ) (x : File ℕ) → f < file_count → s < set_count → file_at f s ≤ lo → hi ≤ file_at f s + file_bytes → (unpack t').files f s ≡ x
      → unpack t' ≡ put_files f (upd ((unpack t).files f) s x) (unpack t)
  unfolding put_files
  file_put f s x hf hs first last here =
      let a = blocks_kept (omega arith) in
      let b = next_kept (omega arith) in
      let c = bits_kept (omega arith) in
      let d = sets_kept (omega arith) in
      let e = upd_in (unpack t).files (unpack t').files f s x here (λ y z n. file_kept y z (λ hy hz k l.
      let q : s * file_count + f ≡ z * file_count + y = omega arith in n (omega arith) (omega arith))) in
      λ i. record { blocks = a i; next = b i; bits = c i; sets = d i; files = e i }

  -- ---- well formed words: those that the change meets are still, the others are as they were

  word_met : (P : ℕ → Type 0) (m at : ℕ) → P (get_word m t at) → (lo < at + suc m → at < hi → P (get_word m t' at)) → P (get_word m t' at)
  word_met P m at old new = test? (ltb lo (at + suc m))
      (λ e. test? (ltb at hi)
      (λ k. new (ltb-true lo (at + suc m) e) (ltb-true at hi k))
      (λ k. let l = ltb-false at hi k in subst P (sym (word_kept m at (omega arith))) old))
      (λ e. let l = ltb-false lo (at + suc m) e in subst P (sym (word_kept m at (omega arith))) old)

  pub packed_kept : PackedTables t → length t' ≡ length t
      → (lo < bitmap_at → header_at < hi → get_field header_widths (header_word t') 2 ≡ 0)
      → ((s : ℕ) → s < set_count → lo < set_at s + set_bytes → set_at s < hi → get_field set_widths (set_word t' s) 6 ≡ 0)
      → ((f s : ℕ) → f < file_count → s < set_count → lo < file_at f s + head_bytes → file_at f s < hi → get_field head_widths (head_word t' f s) 2 ≡ 0)
      → ((f s p : ℕ) → f < file_count → s < set_count → p < page_count → lo < entry_at f s p + entry_bytes → entry_at f s p < hi → entry_formed t (entry_word t' f s p) ≡ true)
      → PackedTables t'
  packed_kept h len header sets heads entries = record {
    len = len ∙ h.len;
    header_ok = word_met (λ w. get_field header_widths w 2 ≡ 0) 3 header_at h.header_ok header;
    set_ok = λ s hs. word_met (λ w. get_field set_widths w 6 ≡ 0) 2 (set_at s) (h.set_ok s hs) (λ a b. sets s hs (omega arith) b);
    head_ok = λ f s hf hs. word_met (λ w. get_field head_widths w 2 ≡ 0) 3 (file_at f s) (h.head_ok f s hf hs) (heads f s hf hs);
    entry_ok = λ f s p hf hs hp. word_met (λ w. entry_formed t w ≡ true) 1 (entry_at f s p) (h.entry_ok f s p hf hs hp) (entries f s p hf hs hp);
  }
