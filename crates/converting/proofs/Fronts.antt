-- What stands before the file records, as it is made set by set or taken as it stands; with the file records of older tables behind it these are tables of the present
-- length that hold the same. Assumes nothing.
use mathlib.Core.Bool.{◌&&◌, Bool, cond, false, true, true≢false, ◌||◌}
use mathlib.Core.List.{◌++◌, List}
use mathlib.Core.Logic.{inl}
use mathlib.Core.Path.{◌≡◌, ap, refl, subst, sym, ◌∙◌}
use Prim.Native.Nat.{◌+◌, ◌-◌, ◌/◌, ◌<◌, ℕ, ◌≤◌}
use native.Mathlib.Omega.{arith}
use lib.Dec.{eqb, ltb}
use lib.ListN.{get_or-append, drop, get_or, length, length-drop, length-take}
use lib.Seq.{get_or-drop, get_or-take}
use borrow.Author.Tests.{eq-eqb, eqb-true, ltb-false, ltb-true, ne_eqb}
use Rattle.base.specs.Logic.{and_false, or_false, or_left_false, or_right_false, same?, test?}
use Rattle.base.specs.Tabulate.{tab_of}
use Rattle.converting.proofs.ClearedFiles.{formed_low}
use Rattle.converting.specs.Front.{FrontOf, FrontTo, WidenedFront, files_of, older_length, used_word}
use Rattle.packing.specs.Bitmap.{is_one_law}
use Rattle.packing.specs.Words.{Bytes, byte, byte_put_other, get_put_other, get_put_same, length_put, put_word, word_byte}
use Rattle.pages.specs.Run.{length_run, run, run_in, run_out}
use Rattle.rules.specs.State.{set_count}
use Rattle.rules.specs.Terms.{last_end}
use Rattle.setchanges.specs.Changes.{BlocksIn}
use Rattle.tables.proofs.OneReading.{termed_packed}
use Rattle.tables.proofs.PackUnpack.{pack_unpack}
use Rattle.tables.proofs.Parts.{byte_files, whole_length}
use Rattle.tables.proofs.Widening.{old_length, unpack_widened, used_is, widened_formed}
use Rattle.tables.specs.Convert.{Widened, cleared, old_files_at, old_set_at, old_set_word, old_table_bytes, old_unpack, old_well_formed, older_unpack, older_well_formed}
use Rattle.tables.specs.Layout.{all_files_bytes, files_at, read_set, set_at, set_word, sets_at, table_bytes, term_at, term_word}
use Rattle.tables.specs.Packed.{pack, termed_well_formed, unpack}
use Rattle.tables.specs.Views.{PackedTables, Turns}

-- ---- the term of a set

module _ (w : ℕ) (l : w < 16777216) where
  used_word_law : eqb (w / 8388608) 1 ≡ used_word w
  used_word_law = is_one_law (w / 8388608) (omega arith)

  pub term_used : w / 8388608 ≡ 1 → 36525 ≡ cond (used_word w) last_end 0
  term_used e = rw (← used_word_law, eq-eqb (w / 8388608) 1 e)

  pub term_unused : (w / 8388608 ≡ 1 → ⊥) → 0 ≡ cond (used_word w) last_end 0
  term_unused e = rw (← used_word_law, ne_eqb (w / 8388608) 1 e)

-- ---- one set more

module _ (old front : List ℕ) (s : ℕ) (k : FrontTo old front s) (h : s < set_count) where
  -- the words put
  abbrev put : ℕ → ℕ → List ℕ
  put w v = put_word 3 (put_word 2 front (set_at s) w) (term_at s) v

  word_lt : (u : Bool) → cond u last_end 0 < 4294967296
  word_lt true = omega arith
  word_lt false = omega arith

  put_length : (w v : ℕ) → length (put w v) ≡ files_at
  put_length w v = length_put 3 (put_word 2 front (set_at s) w) (term_at s) v ∙ length_put 2 front (set_at s) w ∙ k.len

  byte_other : (w v i : ℕ) → i < sets_at → get_or (put w v) i 0 ≡ get_or front i 0
  byte_other w v i l = byte_put_other 3 (put_word 2 front (set_at s) w) i (term_at s) v (inl (omega arith)) ∙ byte_put_other 2 front i (set_at s) w (inl (omega arith))

  tree_here : (w v : ℕ) → w < 16777216 → set_word (put w v) s ≡ w
  tree_here w v l =
      get_put_other 2 3 (put_word 2 front (set_at s) w) (set_at s) (term_at s) v (inl (omega arith)) ∙ get_put_same 2 front (set_at s) w (omega (arith, k.len)) l

  tree_other : (w v x : ℕ) → x < s → set_word (put w v) x ≡ set_word front x
  tree_other w v x l =
      get_put_other 2 3 (put_word 2 front (set_at s) w) (set_at x) (term_at s) v (inl (omega arith)) ∙ get_put_other 2 2 front (set_at x) (set_at s) w (inl (omega arith))

  term_here : (w v : ℕ) → v < 4294967296 → term_word (put w v) s ≡ v
  term_here w v l = get_put_same 3 (put_word 2 front (set_at s) w) (term_at s) v (omega (arith, length_put 2 front (set_at s) w, k.len)) l

  term_other : (w v x : ℕ) → x < s → term_word (put w v) x ≡ term_word front x
  term_other w v x l =
      get_put_other 3 3 (put_word 2 front (set_at s) w) (term_at x) (term_at s) v (inl (omega arith)) ∙ get_put_other 3 2 front (term_at x) (set_at s) w (inl (omega arith))

  made : (w v : ℕ) → Bytes (put w v) → w < 16777216 → v < 4294967296 → w ≡ old_set_word old s → v ≡ cond (used_word (old_set_word old s)) last_end 0 → FrontTo old (put w v) (s + 1)
  made w v bs lw lv ew ev = record {
    len = put_length w v;
    bytes = bs;
    before = λ i l. byte_other w v i l ∙ k.before i l;
    tree = λ x l. same? x s (λ e. rw e (tree_here w v lw ∙ ew)) (λ n. tree_other w v x (omega (arith, l, n)) ∙ k.tree x (omega (arith, l, n)));
    term = λ x l. same? x s (λ e. rw e (term_here w v lv ∙ ev)) (λ n. term_other w v x (omega (arith, l, n)) ∙ k.term x (omega (arith, l, n)));
  }

  -- LAW: the record that the code puts
  pub record_put : (w v : ℕ) (f₁ f₂ : List ℕ) → Bytes f₂ → (w ≡ old_set_word old s) × (w < 16777216) → v ≡ cond (used_word w) last_end 0
      → f₁ ≡ put_word 2 front (set_at s) w → f₂ ≡ put_word 3 f₁ (term_at s) v → FrontTo old f₂ (s + 1)
  record_put w v f₁ f₂ bs ew ev e₁ e₂ =
      let e : f₂ ≡ put w v = e₂ ∙ ap (λ (x : List ℕ). put_word 3 x (term_at s) v) e₁ in
      subst (λ (x : List ℕ). FrontTo old x (s + 1)) (sym e)
      (made w v (subst Bytes e bs) ew.1 (rw ev (word_lt (used_word w))) ew.0 (ev ∙ ap (λ x. cond (used_word x) last_end 0) ew.0))

-- ---- header and bitmap, before the first set

-- a byte of what is copied to the front of a list
at_front : (l m : List ℕ) (n i : ℕ) → i < n → n ≤ length l → get_or (run l 0 (λ i. get_or m (0 + i) 0) n) i 0 ≡ get_or m i 0
at_front l m n i h b =
    let e : 0 + i ≡ i = omega arith in
    ap (λ x. get_or (run l 0 (λ i. get_or m (0 + i) 0) n) x 0) (sym e) ∙ run_in l 0 (λ i. get_or m (0 + i) 0) n i h (omega arith) ∙ ap (λ x. get_or m x 0) e

pub front_start : (old front f : List ℕ) → Bytes f → length front ≡ files_at → f ≡ run front 0 (λ i. get_or old (0 + i) 0) sets_at → FrontTo old f 0
front_start old front f bs len e =
    subst (λ (x : List ℕ). FrontTo old x 0) (sym e) (record {
      len = length_run front 0 (λ i. get_or old (0 + i) 0) sets_at ∙ len;
      bytes = subst Bytes e bs;
      before = λ i l. at_front front old sets_at i l (omega (arith, len));
      tree = λ s l. absurd (omega (arith, l));
      term = λ s l. absurd (omega (arith, l));
    })

-- ---- "older tables of either length"

module _ (old : List ℕ) (n : ℕ) where
  -- LAWS: by which rules, and that no other length is taken
  older_old : length old ≡ old_table_bytes → older_well_formed old n ≡ old_well_formed old n
  unfolding older_well_formed
  older_old len = test? (termed_well_formed old n)
      (λ e. let l = (termed_packed old n e).len in absurd (omega arith))
      (λ e. ap (λ b. old_well_formed old n || b) e ∙ or_false (old_well_formed old n))

  older_present : length old ≡ table_bytes → older_well_formed old n ≡ termed_well_formed old n
  unfolding older_well_formed
  older_present len = test? (old_well_formed old n) (λ e. let l = old_length old n e in absurd (omega arith)) (λ e. rw e)

  older_other : older_length (length old) ≡ false → older_well_formed old n ≡ false
  unfolding older_well_formed
  older_other h =
      let a = or_left_false (eqb (length old) table_bytes) (eqb (length old) old_table_bytes) h in
      let b = or_right_false (eqb (length old) table_bytes) (eqb (length old) old_table_bytes) h in
      test? (old_well_formed old n)
      (λ e. absurd (true≢false (sym (eq-eqb (length old) old_table_bytes (old_length old n e)) ∙ b)))
      (λ e. rw e (test? (termed_well_formed old n) (λ q. absurd (true≢false (sym (eq-eqb (length old) table_bytes (termed_packed old n q).len) ∙ a))) (λ q. q)))

-- the lengths, by the tests of the code
old_tested : (n : ℕ) → (n ≡ table_bytes → ⊥) → eqb n old_table_bytes ≡ older_length n
old_tested n h = rw (ne_eqb n table_bytes h)

pub old_left : (n : ℕ) → older_length n ≡ true → (n ≡ table_bytes → ⊥) → n ≡ old_table_bytes
old_left n h k = eqb-true n old_table_bytes (old_tested n k ∙ h)

pub files_start : (n : ℕ) → older_length n ≡ true → all_files_bytes ≤ n
files_start n h = same? n table_bytes (λ e. omega arith) (λ e. let l = old_left n h e in omega arith)

-- ---- the two parts of the new tables

-- their file records
module _ (old : List ℕ) (at : ℕ) (h : length old ≡ at + all_files_bytes) where
  files_length : length (files_of old) ≡ all_files_bytes
  files_length = simp (length-take, length-drop) (omega arith)

  file_byte : (i : ℕ) → i < all_files_bytes → get_or (files_of old) i 0 ≡ get_or old (at + i) 0
  file_byte i l =
      let q : length old - all_files_bytes ≡ at = omega arith in
      get_or-take (length old - (length old - all_files_bytes)) (drop (length old - all_files_bytes) old) i 0 (omega arith) ∙ get_or-drop (length old - all_files_bytes) old i 0 ∙ ap (λ x. get_or old (x + i) 0) q

-- the length of those records
pub files_wide : (old : List ℕ) → older_length (length old) ≡ true → length (files_of old) ≡ all_files_bytes
files_wide old h = let l = files_start (length old) h in files_length old (length old - all_files_bytes) (omega arith)

module _ (front files : List ℕ) (len : length front ≡ files_at) (wide : length files ≡ all_files_bytes) where
  in_front : (i : ℕ) → i < files_at → get_or (front ++ files) i 0 ≡ get_or front i 0
  in_front i l = get_or-append front files 0 i (omega arith)

  -- any list of that length with those bytes
  parts_are : (t : List ℕ) → length t ≡ table_bytes → ((i : ℕ) → i < files_at → get_or t i 0 ≡ get_or front i 0)
      → ((i : ℕ) → i < all_files_bytes → get_or t (files_at + i) 0 ≡ get_or files i 0) → t ≡ front ++ files
  parts_are t l a b =
      sym (tab_of 0 table_bytes (λ i. get_or (front ++ files) i 0) t l (λ i h. test? (ltb i files_at)
      (λ e. let k = ltb-true i files_at e in a i k ∙ sym (in_front i k))
      (λ e. let k = ltb-false i files_at e in
      let q : files_at + (i - files_at) ≡ i = omega arith in
      ap (λ x. get_or t x 0) (sym q) ∙ b (i - files_at) (omega arith) ∙ sym (byte_files front files len (i - files_at)) ∙ ap (λ x. get_or (front ++ files) x 0) q)))
      ∙ tab_of 0 table_bytes (λ i. get_or (front ++ files) i 0) (front ++ files) (whole_length front files len wide) (λ i h. refl)

  -- LAW: written to a second buffer
  pub parts_written : (second t₁ t₂ : List ℕ) → length second ≡ table_bytes → t₁ ≡ run second 0 (λ i. get_or front (0 + i) 0) files_at
      → t₂ ≡ run t₁ files_at (λ i. get_or files (0 + i) 0) all_files_bytes → t₂ ≡ front ++ files
  parts_written second t₁ t₂ l e₁ e₂ =
      let first : List ℕ = run second 0 (λ i. get_or front (0 + i) 0) files_at in
      let long : length first ≡ table_bytes = length_run second 0 (λ i. get_or front (0 + i) 0) files_at ∙ l in
      e₂ ∙ ap (λ (x : List ℕ). run x files_at (λ i. get_or files (0 + i) 0) all_files_bytes) e₁
      ∙ parts_are (run first files_at (λ i. get_or files (0 + i) 0) all_files_bytes) (length_run first files_at (λ i. get_or files (0 + i) 0) all_files_bytes ∙ long)
      (λ i k. run_out first files_at (λ i. get_or files (0 + i) 0) all_files_bytes i (λ j q r. omega (arith, k, r)) ∙ at_front second front files_at i k (omega (arith, l)))
      (λ i k. let z : 0 + i ≡ i = omega arith in
      run_in first files_at (λ i. get_or files (0 + i) 0) all_files_bytes i k (omega (arith, long)) ∙ ap (λ x. get_or files x 0) z)

-- ---- of tables of document 01's length

module _ (old front : List ℕ) (bo : Bytes old) (len : length old ≡ old_table_bytes) (k : WidenedFront old front) where
  abbrev files : List ℕ
  files = files_of old

  wide : length files ≡ all_files_bytes
  wide = files_length old old_files_at (omega arith)

  used_same : (s : ℕ) → s < set_count → used_word (old_set_word old s) ≡ ((old_unpack old).sets s).used
  unfolding read_set
  used_same s h = sym (used_is old s h)

  front_widened : Widened old (front ++ files)
  front_widened = record {
    new_length = whole_length front files k.len wide;
    front = λ i l. in_front front files k.len wide i (omega (arith, l)) ∙ k.before i l;
    tree = λ s j h l.
        in_front front files k.len wide (set_at s + j) (omega (arith, h, l)) ∙ sym (word_byte 2 front (set_at s) j k.bytes (omega (arith, l))) ∙ ap (λ w. byte 2 w j) (k.tree s h)
        ∙ word_byte 2 old (old_set_at s) j bo (omega (arith, l));
    term = λ s j h l.
        in_front front files k.len wide (term_at s + j) (omega (arith, h, l)) ∙ sym (word_byte 3 front (term_at s) j k.bytes (omega (arith, l))) ∙ ap (λ w. byte 3 w j) (k.term s h)
        ∙ ap (λ u. byte 3 (cond u last_end 0) j) (used_same s h);
    files = λ i l. byte_files front files k.len i ∙ file_byte old old_files_at (omega arith) i l;
  }

  -- LAW
  pub front_old : FrontOf old front
  unfolding older_unpack
  front_old = record {
    len = k.len;
    holds = unpack_widened old (front ++ files) bo front_widened ∙ rw (eq-eqb (length old) old_table_bytes len);
    formed = λ n. sym (older_old old n len ∙ widened_formed old (front ++ files) bo front_widened len n);
  }

-- ---- of tables of the present length: as they stand

module _ (old front₀ front : List ℕ) (l : length front₀ ≡ files_at) (e : front ≡ run front₀ 0 (λ i. get_or old (0 + i) 0) files_at) (len : length old ≡ table_bytes) where
  kept_length : length front ≡ files_at
  kept_length = ap length e ∙ length_run front₀ 0 (λ i. get_or old (0 + i) 0) files_at ∙ l

  kept_whole : old ≡ front ++ files_of old
  kept_whole =
      parts_are front (files_of old) kept_length (files_length old files_at (omega arith)) old len
      (λ i h. sym (ap (λ (x : List ℕ). get_or x i 0) e ∙ at_front front₀ old files_at i h (omega (arith, l))))
      (λ i h. sym (file_byte old files_at (omega arith) i h))

  -- LAW
  pub front_present : FrontOf old front
  unfolding older_unpack
  front_present = record {
    len = kept_length;
    holds = ap unpack (sym kept_whole) ∙ rw (ne_eqb (length old) old_table_bytes (λ q. omega arith));
    formed = λ n. ap (λ (x : List ℕ). termed_well_formed x n) (sym kept_whole) ∙ sym (older_present old n len);
  }

-- ---- the converter by its cases

module _ (old second : List ℕ) (n : ℕ) where
  abbrev accepts : Bool
  accepts = older_well_formed old n && eqb (length second) table_bytes

  -- the older tables are of no such length; the second buffer is not of its length
  pub wrong_old : (r : Bool) → r ≡ older_length (length old) → r ≡ false → false ≡ accepts
  wrong_old r e h = rw (older_other old n (sym e ∙ h))

  pub wrong_second : (length second ≡ table_bytes → ⊥) → false ≡ accepts
  wrong_second h = rw (ne_eqb (length second) table_bytes h, and_false)

  -- both are, and the check says ok
  module _ (front : List ℕ) (k : FrontOf old front) (ok : Bool) (e : ok ≡ termed_well_formed (front ++ files_of old) n) where
    pub by_check : length second ≡ table_bytes → ok ≡ accepts
    by_check l =
        let f = e ∙ k.formed n in
        test? (older_well_formed old n) (λ q. f ∙ rw (q, eq-eqb (length second) table_bytes l)) (λ q. f ∙ rw q)

    -- LAW: the new tables, where ok
    pub converted : (t₁ t₂ : List ℕ) → Bytes t₂ → t₁ ≡ front ++ files_of old → Turns t₁ t₂ cleared → t₂ ≡ pack (cleared (older_unpack old))
    converted t₁ t₂ bs q a = sym (pack_unpack t₂ a.packed bs) ∙ ap pack (a.view ∙ ap (λ (x : List ℕ). cleared (unpack x)) q ∙ ap cleared k.holds)

    -- what clearing needs
    pub parts_ready : ok ≡ true → (t₁ : List ℕ) → t₁ ≡ front ++ files_of old → PackedTables t₁ × ((f s : ℕ) → BlocksIn f s (unpack t₁))
    parts_ready h t₁ q =
        let w : termed_well_formed t₁ n ≡ true = ap (λ (x : List ℕ). termed_well_formed x n) q ∙ sym e ∙ h in
        (termed_packed t₁ n w, formed_low t₁ n w)
