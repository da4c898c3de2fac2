-- Old tables and the new ones made of them, byte by byte: the words of both are the same, so both hold the same state, and what the rules say of one they say of the
-- other. Assumes nothing.
use mathlib.Core.Bool.{◌&&◌, Bool, cond, false, true}
use mathlib.Core.List.{List, []}
use mathlib.Core.Path.{◌≡◌, ap, ap₂, refl, sym, ◌∙◌}
use Prim.Native.Nat.{◌%◌, ◌*◌, ◌+◌, ◌-◌, ◌/◌, ◌<◌, ℕ, ◌≤◌}
use native.Mathlib.Omega.{arith}
use lib.Dec.{eqb, ltb}
use lib.ListN.{get_or-eq_default, get_or, length}
use borrow.Author.Tests.{eq-eqb, eqb-true, le-ltb, lt-ltb, ltb-false, ltb-true}
use Rattle.base.specs.Count.{all_same}
use Rattle.base.specs.Logic.{and_left, test?}
use Rattle.base.specs.Tabulate.{get_d_tab, length_tab, tab}
use Rattle.packing.specs.Bitmap.{bit_at}
use Rattle.packing.specs.Fields.{get_field}
use Rattle.packing.specs.Words.{Bytes, byte, byte_lt, bytes_word, get_word, word_byte}
use Rattle.rules.specs.Numbers.{no_counts}
use Rattle.rules.specs.State.{SetRecord, file_count, largest_blocks, page_count, set_count}
use Rattle.rules.specs.Terms.{default_term, last_end, with_term}
use Rattle.rules.specs.WellFormed.{all_files, all_pages, all_sets, blocks_formed, older_sets_formed, pages_fit}
use Rattle.tables.proofs.InRange.{file_in, page_in}
use Rattle.tables.proofs.Layouts.{read_set_with}
use Rattle.tables.proofs.OneReading.{termed_packed}
use Rattle.tables.proofs.PackUnpack.{pack_unpack}
use Rattle.tables.specs.Calls.{looked_at}
use Rattle.tables.specs.Convert.{Widened, cleared, convert_on, old_entry_at, old_entry_word, old_fields_formed, old_file_at, old_files_at, old_head_word, old_kinds_formed, old_set_at, old_set_word, old_table_bytes, old_unpack, old_well_formed, older_unpack, older_well_formed, with_default}
use Rattle.tables.specs.Layout.{bitmap_at, entry_at, entry_bytes, entry_word, file_at, file_bytes, files_at, head_bytes, head_widths, head_word, header_at, header_widths, header_word, read_blocks, read_next, read_set, read_term, set_at, set_bytes, set_widths, set_word, sets_at, table_bytes, term_at, term_word, tree_bytes}
use Rattle.tables.specs.Packed.{block_rules, entry_formed, fields_formed, is_file, is_page, kinds_formed, older_set_rules, pack, termed_well_formed, unpack}

-- a word whose bytes stand at another place of another list
pub word_moved : (t t' : List ℕ) → Bytes t → (m a b : ℕ) → ((j : ℕ) → j ≤ m → get_or t' (a + j) 0 ≡ get_or t (b + j) 0) → get_word m t' a ≡ get_word m t b
word_moved t t' bs m a b h = bytes_word m t' a (get_word m t b) (λ j k. h j k ∙ sym (word_byte m t b j bs k))

-- a list made of bytes
pub tab_bytes : (n : ℕ) (f : ℕ → ℕ) → ((i : ℕ) → f i < 256) → Bytes (tab n f)
tab_bytes n f h i = test? (ltb i n)
    (λ e. rw (get_d_tab n f i 0 (ltb-true i n e)) (h i))
    (λ e. let l = ltb-false i n e in
    let z : get_or (tab n f) i 0 ≡ 0 = get_or-eq_default (tab n f) 0 (omega (arith, length_tab n f)) in rw z (omega arith))

-- ---- the new tables of old ones

abbrev used_in : List ℕ → ℕ → Bool
used_in t s = ((old_unpack t).sets s).used

abbrev widened_set : List ℕ → ℕ → ℕ → ℕ
widened_set t s j = cond (ltb j tree_bytes) (get_or t (old_set_at s + j) 0) (byte 3 (cond (used_in t s) last_end 0) (j - tree_bytes))

abbrev widened_byte : List ℕ → ℕ → ℕ
widened_byte t i =
    cond (ltb i sets_at) (get_or t i 0)
    (cond (ltb i files_at) (widened_set t ((i - sets_at) / set_bytes) ((i - sets_at) % set_bytes))
    (get_or t (old_files_at + (i - files_at)) 0))

unfoldable pub widened : List ℕ → List ℕ
widened t = tab table_bytes (widened_byte t)

module _ (t : List ℕ) where
  at : (i : ℕ) → i < table_bytes → get_or (widened t) i 0 ≡ widened_byte t i
  unfolding widened
  at i h = get_d_tab table_bytes (widened_byte t) i 0 h

  in_set : (s j : ℕ) → s < set_count → j < set_bytes → get_or (widened t) (set_at s + j) 0 ≡ widened_set t s j
  in_set s j h k =
      let i = set_at s + j in
      let a : (i - sets_at) / set_bytes ≡ s = omega arith in
      let b : (i - sets_at) % set_bytes ≡ j = omega arith in
      at i (omega arith) ∙ rw (le-ltb i sets_at (omega arith), lt-ltb i files_at (omega arith), a, b)

  -- LAW: there are such tables
  pub is_widened : Widened t (widened t)
  unfolding widened
  is_widened = record {
    new_length = length_tab table_bytes (widened_byte t);
    front = λ i h. at i (omega arith) ∙ rw (lt-ltb i sets_at h);
    tree = λ s j h k. in_set s j h (omega arith) ∙ rw (lt-ltb j tree_bytes k);
    term = λ s j h k.
        let a : term_at s + j ≡ set_at s + (tree_bytes + j) = omega arith in
        let b : tree_bytes + j - tree_bytes ≡ j = omega arith in
        ap (λ i. get_or (widened t) i 0) a ∙ in_set s (tree_bytes + j) h (omega arith) ∙ rw (le-ltb (tree_bytes + j) tree_bytes (omega arith), b);
    files = λ i h.
        let a : files_at + i - files_at ≡ i = omega arith in
        at (files_at + i) (omega arith) ∙ rw (le-ltb (files_at + i) sets_at (omega arith), le-ltb (files_at + i) files_at (omega arith), a);
  }

  -- the term of a set, as a word, has bytes
  term_byte : (u : Bool) (j : ℕ) → byte 3 (cond u last_end 0) j < 256
  term_byte true j = byte_lt 3 last_end j (omega arith)
  term_byte false j = byte_lt 3 0 j (omega arith)

  pub widened_bytes : Bytes t → Bytes (widened t)
  unfolding widened
  widened_bytes bs = tab_bytes table_bytes (widened_byte t) (λ i. test? (ltb i sets_at)
      (λ a. rw a (bs i))
      (λ a. test? (ltb i files_at)
      (λ b. rw (a, b) (test? (ltb ((i - sets_at) % set_bytes) tree_bytes) (λ c. rw c (bs _)) (λ c. rw c (term_byte (used_in t ((i - sets_at) / set_bytes)) _))))
      (λ b. rw (a, b) (bs _))))

-- ---- which sets are used

module _ (t : List ℕ) where
  with_default_law : (r : SetRecord) → (with_default r).used ≡ r.used
  with_default_law r = test? r.used (λ e. rw e) (λ e. rw e)

  old_set : (s : ℕ) → s < set_count → (old_unpack t).sets s ≡ with_default (read_set (old_set_word t s) 0)
  unfolding old_unpack
  old_set s h = rw (lt-ltb s set_count h)

  -- LAW
  pub used_is : (s : ℕ) → s < set_count → used_in t s ≡ (read_set (old_set_word t s) 0).used
  used_is s h = ap (λ (r : SetRecord). r.used) (old_set s h) ∙ with_default_law (read_set (old_set_word t s) 0)

-- ---- the words

module _ (t t' : List ℕ) (bs : Bytes t) (w : Widened t t') where
  header_is : header_word t' ≡ header_word t
  header_is = word_moved t t' bs 3 header_at header_at (λ j k. w.front (header_at + j) (omega arith))

  bit_is : (b : ℕ) → b < largest_blocks → bit_at t' bitmap_at b ≡ bit_at t bitmap_at b
  unfolding bit_at
  bit_is b h = rw (w.front (bitmap_at + b / 8) (omega arith))

  set_is : (s : ℕ) → s < set_count → set_word t' s ≡ old_set_word t s
  set_is s h = word_moved t t' bs 2 (set_at s) (old_set_at s) (λ j k. w.tree s j h (omega arith))

  term_is : (s : ℕ) → s < set_count → term_word t' s ≡ cond (used_in t s) last_end 0
  term_is s h = bytes_word 3 t' (term_at s) _ (λ j k. w.term s j h (omega arith))

  record_is : (m f s i : ℕ) → f < file_count → s < set_count → i + m < file_bytes → get_word m t' (file_at f s + i) ≡ get_word m t (old_file_at f s + i)
  record_is m f s i hf hs h = word_moved t t' bs m (file_at f s + i) (old_file_at f s + i) (λ j k.
      let n = (s * file_count + f) * file_bytes + i + j in
      let a : file_at f s + i + j ≡ files_at + n = omega arith in
      let b : old_files_at + n ≡ old_file_at f s + i + j = omega arith in
      ap (λ x. get_or t' x 0) a ∙ w.files n (omega arith) ∙ ap (λ x. get_or t x 0) b)

  head_is : (f s : ℕ) → f < file_count → s < set_count → head_word t' f s ≡ old_head_word t f s
  head_is f s hf hs =
      let a : file_at f s + 0 ≡ file_at f s = omega arith in
      let b : old_file_at f s + 0 ≡ old_file_at f s = omega arith in
      ap (get_word 3 t') (sym a) ∙ record_is 3 f s 0 hf hs (omega arith) ∙ ap (get_word 3 t) b

  entry_is : (f s p : ℕ) → f < file_count → s < set_count → p < page_count → entry_word t' f s p ≡ old_entry_word t f s p
  entry_is f s p hf hs hp =
      let i = head_bytes + p * entry_bytes in
      let a : entry_at f s p ≡ file_at f s + i = omega arith in
      let b : old_file_at f s + i ≡ old_entry_at f s p = omega arith in
      ap (get_word 1 t') a ∙ record_is 1 f s i hf hs (omega arith) ∙ ap (get_word 1 t) b

  -- ---- the state

  default_term_law : read_term last_end ≡ default_term
  unfolding read_term
  default_term_law = refl

  default_set : (x : ℕ) (u : Bool) → u ≡ (read_set x 0).used → read_set x (cond u last_end 0) ≡ with_default (read_set x 0)
  default_set x true e = read_set_with x 0 last_end ∙ ap (with_term (read_set x 0)) default_term_law ∙ rw (← e)
  default_set x false e = rw (← e)

  sets_are : (s : ℕ) → (unpack t').sets s ≡ (old_unpack t).sets s
  unfolding unpack old_unpack
  sets_are s = test? (ltb s set_count)
      (λ e. let h = ltb-true s set_count e in rw e (ap₂ read_set (set_is s h) (term_is s h) ∙ default_set (old_set_word t s) (used_in t s) (used_is t s h)))
      (λ e. rw e)

  bits_are : (b : ℕ) → (unpack t').bits b ≡ (old_unpack t).bits b
  unfolding unpack old_unpack
  bits_are b = test? (ltb b largest_blocks) (λ e. rw (e, bit_is b (ltb-true b largest_blocks e))) (λ e. rw e)

  state_is : (f s : ℕ) → ((unpack t').files f s).state ≡ ((old_unpack t).files f s).state
  unfolding unpack old_unpack
  state_is f s = test? (is_file f s) (λ e. let l = file_in f s e in rw (e, head_is f s l.0 l.1)) (λ e. rw e)

  size_is : (f s : ℕ) → ((unpack t').files f s).size ≡ ((old_unpack t).files f s).size
  unfolding unpack old_unpack
  size_is f s = test? (is_file f s) (λ e. let l = file_in f s e in rw (e, head_is f s l.0 l.1)) (λ e. rw e)

  map_is : (f s p : ℕ) → ((unpack t').files f s).map p ≡ ((old_unpack t).files f s).map p
  unfolding unpack old_unpack
  map_is f s p = test? (is_page f s p) (λ e. let l = page_in f s p e in rw (e, entry_is f s p l.0 l.1 l.2)) (λ e. rw e)

  blocks_are : (unpack t').blocks ≡ (old_unpack t).blocks
  unfolding unpack old_unpack
  blocks_are = ap read_blocks header_is

  next_is : (unpack t').next ≡ (old_unpack t).next
  unfolding unpack old_unpack
  next_is = ap read_next header_is

  -- LAW: both hold the same state
  pub unpack_widened : unpack t' ≡ old_unpack t
  unpack_widened = λ i. record {
    blocks = blocks_are i;
    next = next_is i;
    bits = λ b. bits_are b i;
    sets = λ s. sets_are s i;
    files = λ f s. record { state = state_is f s i; size = size_is f s i; map = λ p. map_is f s p i };
  }

  -- ---- the rules

  files_same : (g h : ℕ → ℕ → Bool) → ((f s : ℕ) → f < file_count → s < set_count → g f s ≡ h f s) → all_files g ≡ all_files h
  unfolding all_files
  files_same g h e = all_same set_count _ _ (λ s hs. all_same file_count _ _ (λ f hf. e f s hf hs))

  kinds_are : kinds_formed t' ≡ old_kinds_formed t
  unfolding kinds_formed old_kinds_formed all_pages
  kinds_are = files_same _ _ (λ f s hf hs. all_same page_count _ _ (λ p hp. ap (entry_formed t) (entry_is f s p hf hs hp)))

  fields_are : fields_formed t' ≡ old_fields_formed t
  unfolding fields_formed old_fields_formed all_sets
  fields_are = ap₂ ◌&&◌
      (ap₂ ◌&&◌ (ap (λ x. eqb (get_field header_widths x 2) 0) header_is) (all_same set_count _ _ (λ s hs. ap (λ x. eqb (get_field set_widths x 6) 0) (set_is s hs))))
      (files_same _ _ (λ f s hf hs. ap (λ x. eqb (get_field head_widths x 2) 0) (head_is f s hf hs)))

  -- LAW: old tables of the right length are well formed by the rules of their time exactly when the new ones are
  pub widened_formed : length t ≡ old_table_bytes → (n : ℕ) → old_well_formed t n ≡ termed_well_formed t' n
  unfolding old_well_formed termed_well_formed block_rules older_set_rules
  widened_formed len n =
      rw (eq-eqb (length t) old_table_bytes len, eq-eqb (length t') table_bytes w.new_length, kinds_are, fields_are, unpack_widened)

  -- LAW: and then they are the tables of that state
  pub widened_packs : Bytes t' → (n : ℕ) → termed_well_formed t' n ≡ true → t' ≡ pack (old_unpack t)
  widened_packs bs' n h = sym (pack_unpack t' (termed_packed t' n h) bs') ∙ ap pack unpack_widened

-- the length of old tables that are well formed
pub old_length : (t : List ℕ) (n : ℕ) → old_well_formed t n ≡ true → length t ≡ old_table_bytes
unfolding old_well_formed
old_length t n h =
    let a = eqb (length t) old_table_bytes in
    let b = and_left (a && old_kinds_formed t && blocks_formed (old_unpack t)) (pages_fit (old_unpack t) n) (and_left _ (old_fields_formed t && older_sets_formed (old_unpack t)) h) in
    eqb-true (length t) old_table_bytes (and_left a (old_kinds_formed t) (and_left (a && old_kinds_formed t) (blocks_formed (old_unpack t)) b))

-- the converter leaves the pages, and makes tables of older ones that are well formed
pub convert_pages : (old p second : List ℕ) → (convert_on old p second).pages ≡ p
unfolding convert_on
convert_pages old p second = test? (older_well_formed old (length p) && eqb (length second) table_bytes) (λ e. rw e) (λ e. rw e)

pub convert_accepted : (old p second : List ℕ) → older_well_formed old (length p) ≡ true → length second ≡ table_bytes
    → convert_on old p second ≡ looked_at no_counts (pack (cleared (older_unpack old))) p []
unfolding convert_on
convert_accepted old p second f l = rw (f, eq-eqb (length second) table_bytes l)

-- LAW: what the converter makes of well-formed old tables
module _ (old : List ℕ) (bs : Bytes old) (n : ℕ) (f : old_well_formed old n ≡ true) where
  pub converted_is : pack (old_unpack old) ≡ widened old
  converted_is = sym (widened_packs old (widened old) bs (is_widened old) (widened_bytes old bs) n (sym (widened_formed old (widened old) bs (is_widened old) (old_length old n f) n) ∙ f))
