-- Older tables and those with their marked files cleared: every byte of them, the state that they hold, and that they are well formed by the present rules. Tables that are
-- so already stay as they are. Assumes nothing.
use mathlib.Core.Bool.{◌&&◌, Bool, cond, false, not, true, true≢false, ◌||◌}
use mathlib.Core.List.{List, []}
use mathlib.Core.Logic.{◌⊎◌, inl, inr}
use mathlib.Core.Path.{◌≡◌, ap, refl, sym, ◌∙◌}
use Prim.Native.Nat.{◌%◌, ◌*◌, ◌+◌, ◌-◌, ◌/◌, ◌<◌, ℕ, ◌≤◌}
use native.Mathlib.Omega.{arith}
use lib.Dec.{eqb, ltb}
use lib.ListN.{get_or, length}
use borrow.Author.Tests.{eq-eqb, le-ltb, lt-ltb, ltb-false, ltb-true, ne_eqb, not-true}
use Rattle.base.specs.Logic.{and_both, and_false, and_left, and_right, and_true, or_right, test?}
use Rattle.packing.specs.Bitmap.{bit_at}
use Rattle.packing.specs.Words.{Bytes, byte, byte_first}
use Rattle.rules.proofs.Blocks.RealStore.{BlocksOk, none_stored}
use Rattle.rules.proofs.Formed.BitsFormed.{bits_formed_law, blocks_formed_law, header_formed_law, is_named, named_is}
use Rattle.rules.proofs.Formed.Cleared.{Clears, clear_blocks, clear_files}
use Rattle.rules.proofs.Formed.FilesFormed.{StateBefore, StateOk, before_state, formed_state, state_formed}
use Rattle.rules.proofs.Formed.Tests.{and_4, files_at_law, files_of_law, not_of, not_then, or_then, pages_at, pages_of}
use Rattle.rules.proofs.Steps.States.{marked_is}
use Rattle.rules.specs.Rules.{marked_file}
use Rattle.rules.specs.State.{File, Tables, file_count, is_marked, largest_blocks, marked, set_count, stored, tree_of, unmapped}
use Rattle.rules.specs.WellFormed.{all_files, all_pages, bits_formed, blocks_formed, files_formed, header_formed, marks_formed, names, older_sets_formed, pages_fit, sets_formed, terms_formed, tree_formed, zeros_formed}
use Rattle.tables.proofs.FormedStore.{absent_beyond, empty_beyond, header_in, ranged}
use Rattle.tables.proofs.InRange.{page_in}
use Rattle.tables.proofs.OneReading.{formed_marks, formed_packed, formed_termed, termed_packed}
use Rattle.tables.proofs.PackUnpack.{pack_bytes, pack_packed, pack_unpack, unpack_fits, unpack_pack}
use Rattle.tables.proofs.PackWords.{at_record, bit_packed, length_pack, pack_at}
use Rattle.tables.proofs.PackedTables.{fields_formed_law, kinds_formed_law}
use Rattle.tables.proofs.ReadParts.{map_default, read_bit}
use Rattle.tables.proofs.Widening.{is_widened, old_length, unpack_widened, widened, widened_bytes, widened_formed}
use Rattle.tables.specs.Convert.{Cleared, cleared, cleared_file, held_by_marked, marked_byte, old_table_bytes, old_well_formed, older_unpack, older_well_formed, store_with}
use Rattle.tables.specs.Layout.{bitmap_at, entry_bytes, file_at, file_bytes, files_at, head_bytes, sets_at, table_bytes, write_entry, write_head}
use Rattle.tables.specs.OneReading.{Fits}
use Rattle.tables.specs.Packed.{block_rules, fields_formed, is_page, kinds_formed, older_set_rules, pack, record_byte, set_rules, table_byte, termed_well_formed, unpack, well_formed}
use Rattle.tables.specs.Views.{PackedTables}

-- ---- one file

clear_marked : (x : File ℕ) → is_marked x.state ≡ true → cleared_file x ≡ marked_file
clear_marked x e = ap (λ b. cond b marked_file x) e

clear_other : (x : File ℕ) → is_marked x.state ≡ false → cleared_file x ≡ x
clear_other x e = ap (λ b. cond b marked_file x) e

-- ---- whose blocks a marked file holds

module _ (tb : Tables) (b : ℕ) where
  abbrev holds_not : ℕ → ℕ → Bool
  holds_not f s = not (is_marked (tb.files f s).state) || all_pages (λ p. not (names b ((tb.files f s).map p)))

  held_none : ((f s p : ℕ) → is_marked (tb.files f s).state ≡ true → (tb.files f s).map p ≡ stored b → ⊥) → held_by_marked tb b ≡ false
  unfolding held_by_marked
  held_none h =
      ap not (files_of_law holds_not (λ f s hf hs. not_of (is_marked (tb.files f s).state) (all_pages (λ p. not (names b ((tb.files f s).map p))))
      (λ m. pages_of (λ p. not (names b ((tb.files f s).map p)))
      (λ p hp. test? (names b ((tb.files f s).map p)) (λ e. absurd (h f s p m (named_is b ((tb.files f s).map p) e))) (λ e. ap not e)))))

  held_some : (f s p : ℕ) → f < 16 → s < 8 → p < 64 → is_marked (tb.files f s).state ≡ true → (tb.files f s).map p ≡ stored b → held_by_marked tb b ≡ true
  unfolding held_by_marked
  held_some f s p hf hs hp m e = test? (all_files holds_not)
      (λ q. let z = not_then (is_marked (tb.files f s).state) (all_pages (λ p. not (names b ((tb.files f s).map p)))) (files_at_law holds_not q f s hf hs) m in
      let y = pages_at (λ p. not (names b ((tb.files f s).map p))) z p hp in
      absurd (true≢false (sym (is_named b ((tb.files f s).map p) e) ∙ not-true (names b ((tb.files f s).map p)) y)))
      (λ q. ap not q)

-- ---- the state

module _ (t : List ℕ) where
  abbrev tb : Tables
  tb = unpack t

  abbrev tb' : Tables
  tb' = cleared (unpack t)

  -- an entry that names a block stands in range
  low_page : (f s p b : ℕ) → (tb.files f s).map p ≡ stored b → (f < 16) × (s < 8) × (p < 64)
  low_page f s p b e = test? (is_page f s p) (λ l. page_in f s p l) (λ l. absurd (none_stored b (sym (map_default t f s p l) ∙ e)))

  -- LAW: the store, with any pages
  pub clears : (p : List ℕ) → Clears (store_with tb p) (store_with tb' p)
  unfolding cleared
  clears p = record {
    blocks = refl;
    next = refl;
    pages = refl;
    sets = refl;
    files = λ f s. refl;
    freed = λ f s p b m e. let l = low_page f s p b e in rw (held_some tb b f s p l.0 l.1 l.2 m e) (and_false (tb.bits b));
    kept = λ b h. rw (held_none tb b h) (and_true (tb.bits b));
    fewer = λ b h. and_left (tb.bits b) (not (held_by_marked tb b)) h;
  }

  -- what is cleared fits
  pub cleared_fits : Bytes t → Fits tb'
  unfolding cleared
  cleared_fits bs =
      let k = unpack_fits t bs in
      record {
        blocks_fit = k.blocks_fit;
        next_fits = k.next_fits;
        set_fits = k.set_fits;
        size_fits = λ f s. test? (is_marked (tb.files f s).state) (λ e. rw e (omega arith)) (λ e. rw e (k.size_fits f s));
        block_fits_law = λ f s p. test? (is_marked (tb.files f s).state) (λ e. rw e tt) (λ e. rw e (k.block_fits_law f s p));
        bit_out = λ b l. rw (k.bit_out b l);
        set_out = k.set_out;
        state_out = λ f s e. rw (k.state_out f s e) (k.state_out f s e);
        size_out = λ f s e. rw (k.state_out f s e) (k.size_out f s e);
        map_out = λ f s p e. test? (is_marked (tb.files f s).state) (λ m. rw m) (λ m. rw m (k.map_out f s p e));
      }

-- ---- the bytes of a file record

abbrev file_byte : File ℕ → ℕ → ℕ
file_byte x j =
    cond (ltb j head_bytes) (byte 3 (write_head x.state x.size) j) (byte 1 (write_entry (x.map ((j - head_bytes) / entry_bytes))) ((j - head_bytes) % entry_bytes))

record_is : (tb : Tables) (f s j : ℕ) → f < file_count → s < set_count → j < file_bytes → table_byte tb (file_at f s + j) ≡ file_byte (tb.files f s) j
unfolding record_byte
record_is tb f s j hf hs hj =
    let a : (s * file_count + f) % file_count ≡ f = omega arith in
    let b : (s * file_count + f) / file_count ≡ s = omega arith in
    at_record tb f s j hf hs hj ∙ rw (a, b)

-- "size 0 and all entries unmapped": a record that has its state alone
head_alone : (j : ℕ) → j ≤ 3 → byte 3 (write_head marked 0) j ≡ cond (eqb j 0) marked_byte 0
unfolding write_head
head_alone j h = byte_first 3 marked_byte j h

none_byte : (j : ℕ) → j ≤ 1 → byte 1 (write_entry unmapped) j ≡ 0
unfolding write_entry
none_byte j h = byte_first 1 0 j h ∙ test? (eqb j 0) (λ e. rw e) (λ e. rw e)

marked_byte_law : (j : ℕ) → file_byte marked_file j ≡ cond (eqb j 0) marked_byte 0
marked_byte_law j = test? (ltb j head_bytes)
    (λ e. rw e (head_alone j (omega (arith, ltb-true j head_bytes e))))
    (λ e. let l = ltb-false j head_bytes e in rw (e, ne_eqb j 0 (omega arith)) (none_byte ((j - head_bytes) % entry_bytes) (omega arith)))

-- ---- older tables of the present length

module _ (t : List ℕ) (n : ℕ) (h : termed_well_formed t n ≡ true) where
  -- the tests, in parts
  first : (block_rules t && pages_fit (unpack t) n) ≡ true
  unfolding termed_well_formed
  first = and_left (block_rules t && pages_fit (unpack t) n) (older_set_rules t) h

  blocks : blocks_formed (unpack t) ≡ true
  unfolding block_rules
  blocks = and_right (eqb (length t) table_bytes && kinds_formed t) (blocks_formed (unpack t)) (and_left (block_rules t) (pages_fit (unpack t) n) first)

  fits : pages_fit (unpack t) n ≡ true
  fits = and_right (block_rules t) (pages_fit (unpack t) n) first

  sets : older_sets_formed (unpack t) ≡ true
  unfolding termed_well_formed older_set_rules
  sets = and_right (fields_formed t) (older_sets_formed (unpack t)) (and_right (block_rules t && pages_fit (unpack t) n) (older_set_rules t) h)

  header : header_formed (unpack t) ≡ true
  header = and_left (header_formed (unpack t)) (bits_formed (unpack t)) blocks

  -- as facts
  pub state_before : StateBefore (unpack t)
  state_before = before_state (unpack t) (ranged t) sets

  pub blocks_before : (p : List ℕ) → BlocksOk (store_with (unpack t) p)
  blocks_before p =
      blocks_formed_law (store_with (unpack t) p) (empty_beyond t) (absent_beyond t) header (and_right (header_formed (unpack t)) (bits_formed (unpack t)) blocks)
      (and_4 (zeros_formed (unpack t)) (tree_formed (unpack t)) (terms_formed (unpack t)) (files_formed (unpack t)) sets).0

  -- LAW: the blocks of the cleared state are in order, its sets and files are well formed
  pub blocks_after : (p : List ℕ) → BlocksOk (store_with (cleared (unpack t)) p)
  blocks_after p = clear_blocks (store_with (unpack t) p) (store_with (cleared (unpack t)) p) (clears t p) (blocks_before p)

  after : StateOk (cleared (unpack t))
  unfolding cleared
  after = record {
    sets_ok = state_before.sets_ok;
    files_ok = λ f. clear_files (tree_of (unpack t).sets) ((unpack t).files f) ((cleared (unpack t)).files f) (λ s. refl) (state_before.files_before f);
  }

  -- the present rules hold of it
  rules_after : (blocks_formed (cleared (unpack t)) ≡ true) × (pages_fit (cleared (unpack t)) n ≡ true) × (sets_formed (cleared (unpack t)) ≡ true)
  unfolding cleared
  rules_after = (
    and_both (header_formed (cleared (unpack t))) (bits_formed (cleared (unpack t)))
        (header_formed_law (store_with (cleared (unpack t)) []) (blocks_after []) (header_in (unpack t) header).most) (bits_formed_law (store_with (cleared (unpack t)) []) (blocks_after [])),
    fits,
    state_formed (cleared (unpack t)) after,
  )

module _ (t : List ℕ) (bs : Bytes t) (n : ℕ) (h : termed_well_formed t n ≡ true) where
  abbrev t' : List ℕ
  t' = pack (cleared (unpack t))

  -- LAW: the cleared tables hold the cleared state
  pub clear_holds : unpack t' ≡ cleared (unpack t)
  clear_holds = unpack_pack (cleared (unpack t)) (cleared_fits t bs)

  pub clear_bytes : Bytes t'
  clear_bytes = pack_bytes (cleared (unpack t)) (cleared_fits t bs)

  -- LAW: and are well formed by the present rules
  pub clear_formed : well_formed t' n ≡ true
  unfolding well_formed block_rules set_rules
  clear_formed =
      let k : PackedTables t' = pack_packed (cleared (unpack t)) (cleared_fits t bs) in
      let r = rules_after t n h in
      rw (clear_holds, eq-eqb (length t') table_bytes (length_pack (cleared (unpack t))), kinds_formed_law t' k, fields_formed_law t' k, r.0, r.1, r.2)

  -- ---- every byte

  byte_after : (i : ℕ) → i < table_bytes → get_or t' i 0 ≡ table_byte (cleared (unpack t)) i
  byte_after i l = pack_at (cleared (unpack t)) i l

  byte_before : (i : ℕ) → i < table_bytes → get_or t i 0 ≡ table_byte (unpack t) i
  byte_before i l = ap (λ x. get_or x i 0) (sym (pack_unpack t (termed_packed t n h) bs)) ∙ pack_at (unpack t) i l

  header_same : (i : ℕ) → i < bitmap_at → table_byte (cleared (unpack t)) i ≡ table_byte (unpack t) i
  unfolding table_byte cleared
  header_same i l = rw (lt-ltb i bitmap_at l)

  sets_same : (i : ℕ) → sets_at ≤ i → i < files_at → table_byte (cleared (unpack t)) i ≡ table_byte (unpack t) i
  unfolding table_byte cleared
  sets_same i k l = rw (le-ltb i bitmap_at (omega arith), le-ltb i sets_at k, lt-ltb i files_at l)

  bit_after : (b : ℕ) → b < largest_blocks → bit_at t' bitmap_at b ≡ (bit_at t bitmap_at b && not (held_by_marked (unpack t) b))
  unfolding cleared
  bit_after b l = bit_packed (cleared (unpack t)) b l ∙ ap (λ x. x && not (held_by_marked (unpack t) b)) (read_bit t b l)

  record_after : (f s j : ℕ) → f < file_count → s < set_count → j < file_bytes → get_or t' (file_at f s + j) 0 ≡ file_byte (cleared_file ((unpack t).files f s)) j
  unfolding cleared
  record_after f s j hf hs hj = byte_after (file_at f s + j) (omega arith) ∙ record_is (cleared (unpack t)) f s j hf hs hj

  record_before : (f s j : ℕ) → f < file_count → s < set_count → j < file_bytes → get_or t (file_at f s + j) 0 ≡ file_byte ((unpack t).files f s) j
  record_before f s j hf hs hj = byte_before (file_at f s + j) (omega arith) ∙ record_is (unpack t) f s j hf hs hj

  -- LAW
  pub is_cleared : Cleared t t'
  is_cleared = record {
    same_length = length_pack (cleared (unpack t)) ∙ sym (termed_packed t n h).len;
    header = λ i l. byte_after i (omega arith) ∙ header_same i l ∙ sym (byte_before i (omega arith));
    sets = λ i k l. byte_after i (omega arith) ∙ sets_same i k l ∙ sym (byte_before i (omega arith));
    bits = bit_after;
    marked_record = λ f s j hf hs hj m. record_after f s j hf hs hj ∙ ap (λ x. file_byte x j) (clear_marked ((unpack t).files f s) m) ∙ marked_byte_law j;
    other_record = λ f s j hf hs hj m.
        record_after f s j hf hs hj ∙ ap (λ x. file_byte x j) (clear_other ((unpack t).files f s) m) ∙ sym (record_before f s j hf hs hj);
  }

-- ---- "Well formed asks the same of marked files": tables that are new already

module _ (t : List ℕ) (n : ℕ) (h : well_formed t n ≡ true) where
  ok : StateOk (unpack t)
  ok = formed_state (unpack t) (ranged t) (and_both (older_sets_formed (unpack t)) (marks_formed (unpack t)) (sets t n (formed_termed t n h)) (formed_marks t n h))

  is_bare : (f s : ℕ) → is_marked ((unpack t).files f s).state ≡ true → (unpack t).files f s ≡ marked_file
  is_bare f s m = (ok.files_ok f).bare_marked s (marked_is ((unpack t).files f s).state m)

  file_same : (f s : ℕ) → cleared_file ((unpack t).files f s) ≡ (unpack t).files f s
  file_same f s = test? (is_marked ((unpack t).files f s).state) (λ m. rw m (sym (is_bare f s m))) (λ m. rw m)

  bit_same : (b : ℕ) → ((unpack t).bits b && not (held_by_marked (unpack t) b)) ≡ (unpack t).bits b
  bit_same b =
      rw (held_none (unpack t) b (λ f s p m e. none_stored b (sym (ap (λ (x : File ℕ). x.map p) (is_bare f s m)) ∙ e))) (and_true ((unpack t).bits b))

  -- LAW: there is nothing to clear
  pub state_same : cleared (unpack t) ≡ unpack t
  unfolding cleared
  state_same = λ i. record {
    blocks = (unpack t).blocks;
    next = (unpack t).next;
    bits = λ b. bit_same b i;
    sets = (unpack t).sets;
    files = λ f s. file_same f s i;
  }

  -- LAW: they come out as they are
  pub clear_same : Bytes t → pack (cleared (unpack t)) ≡ t
  clear_same bs = ap pack state_same ∙ pack_unpack t (formed_packed t n h) bs

-- ---- "older tables of either length"

-- LAW: both are taken, and no others
module _ (t : List ℕ) (n : ℕ) where
  pub old_taken : old_well_formed t n ≡ true → older_well_formed t n ≡ true
  unfolding older_well_formed
  old_taken h = rw h

  pub termed_taken : termed_well_formed t n ≡ true → older_well_formed t n ≡ true
  unfolding older_well_formed
  termed_taken h = or_right (old_well_formed t n) (termed_well_formed t n) h

  pub taken_of : older_well_formed t n ≡ true → (old_well_formed t n ≡ true) ⊎ (termed_well_formed t n ≡ true)
  unfolding older_well_formed
  taken_of h = test? (old_well_formed t n) inl (λ e. inr (or_then (old_well_formed t n) (termed_well_formed t n) h e))

-- u is older tables t in the present length
pub record Older (t u : List ℕ) (n : ℕ) : Type 0 where
  pub formed : termed_well_formed u n ≡ true
  pub holds : older_unpack t ≡ unpack u
  pub bytes : Bytes u

module _ (t : List ℕ) (bs : Bytes t) (n : ℕ) where
  -- LAW: those of document 01's length, widened
  pub older_old : old_well_formed t n ≡ true → Older t (widened t) n
  unfolding older_unpack
  older_old h =
      let len = old_length t n h in
      record {
        formed = sym (widened_formed t (widened t) bs (is_widened t) len n) ∙ h;
        holds = rw (eq-eqb (length t) old_table_bytes len) (sym (unpack_widened t (widened t) bs (is_widened t)));
        bytes = widened_bytes t bs;
      }

  -- LAW: those of the present length, as they are
  pub older_termed : termed_well_formed t n ≡ true → Older t t n
  unfolding older_unpack
  older_termed h = record {
    formed = h;
    holds = rw (ne_eqb (length t) old_table_bytes (λ e. let l = (termed_packed t n h).len in omega arith));
    bytes = bs;
  }
