-- The converter: older tables, of document 01's length, whose set records have no term, or of the present length, are converted to the present length and rules.
-- Document 02, Asks 8 and 10.
use Rattle.std.specs.Prelude.{◌&&◌, Bool, cond, false, not, true, ◌||◌, List, [], ◌≡◌, ◌*◌, ◌+◌, ◌<◌, ℕ, ◌≤◌, eqb, ltb, get_or, length}
use Rattle.packing.specs.Bitmap.{bit_at}
use Rattle.packing.specs.Fields.{get_field}
use Rattle.packing.specs.Words.{byte, get_word}
use Rattle.rules.specs.Calls.{Store}
use Rattle.rules.specs.Numbers.{no_counts, refusal}
use Rattle.rules.specs.Rules.{marked_file}
use Rattle.rules.specs.State.{File, SetRecord, Tables, absent, file_count, is_marked, largest_blocks, set_count, unmapped, unused_set}
use Rattle.rules.specs.Storage.{real}
use Rattle.rules.specs.Terms.{default_term, last_end, with_term}
use Rattle.rules.specs.WellFormed.{all_files, all_pages, all_sets, blocks_formed, names, older_sets_formed, pages_fit}
use Rattle.tables.specs.Calls.{Outcome, looked_at, pages_of}
use Rattle.tables.specs.Layout.{all_files_bytes, bitmap_at, entry_bytes, file_at, file_bytes, files_at, head_bytes, head_widths, header_widths, header_word, read_blocks, read_entry, read_next, read_set, read_size, read_state, set_at, set_widths, sets_at, table_bytes, term_at, term_bytes, tree_bytes}
use Rattle.tables.specs.Packed.{entry_formed, is_file, is_page, pack, termed_well_formed, unpack}

-- ---- the layout of document 01: "8 set records, 3 bytes each", then the file records; header and bitmap stand where they do now

abbrev pub old_set_at : ℕ → ℕ
old_set_at s = sets_at + s * tree_bytes

abbrev pub old_files_at : ℕ
old_files_at = sets_at + set_count * tree_bytes

abbrev pub old_file_at : ℕ → ℕ → ℕ
old_file_at f s = old_files_at + (s * file_count + f) * file_bytes

abbrev pub old_entry_at : ℕ → ℕ → ℕ → ℕ
old_entry_at f s p = old_file_at f s + head_bytes + p * entry_bytes

-- "The tables are 17,436 bytes"
abbrev pub old_table_bytes : ℕ
old_table_bytes = old_files_at + all_files_bytes

abbrev pub old_set_word : List ℕ → ℕ → ℕ
old_set_word t s = get_word 2 t (old_set_at s)

abbrev pub old_head_word : List ℕ → ℕ → ℕ → ℕ
old_head_word t f s = get_word 3 t (old_file_at f s)

abbrev pub old_entry_word : List ℕ → ℕ → ℕ → ℕ → ℕ
old_entry_word t f s p = get_word 1 t (old_entry_at f s p)

-- "adding the default term to used sets"; an unused set has none
abbrev pub with_default : SetRecord → SetRecord
with_default r = cond r.used (with_term r default_term) r

-- THE STATE that old tables hold, with the default term in used sets and none in unused ones
unfoldable pub old_unpack : List ℕ → Tables
old_unpack t = record {
  blocks = read_blocks (header_word t);
  next = read_next (header_word t);
  bits = λ b. ltb b largest_blocks && bit_at t bitmap_at b;
  sets = λ s. cond (ltb s set_count) (with_default (read_set (old_set_word t s) 0)) unused_set;
  files = λ f s. record {
    state = cond (is_file f s) (read_state (old_head_word t f s)) absent;
    size = cond (is_file f s) (read_size (old_head_word t f s)) 0;
    map = λ p. cond (is_page f s p) (read_entry (old_entry_word t f s p)) unmapped;
  };
}

-- "well-formed tables of 17,436 bytes": document 01's rules. What `older_sets_formed` asks of terms besides is met: of used sets by the default term, of unused ones by
-- 0 and 0. Ask 10's rule on marked files is not for these tables.
module _ (t : List ℕ) where
  -- "No kind is 3, and the block is 0 unless stored."
  unfoldable pub old_kinds_formed : Bool
  old_kinds_formed = all_files (λ f s. all_pages (λ p. entry_formed t (old_entry_word t f s p)))

  -- "Zero fields are zero."
  unfoldable pub old_fields_formed : Bool
  old_fields_formed =
      eqb (get_field header_widths (header_word t) 2) 0
      && all_sets (λ s. eqb (get_field set_widths (old_set_word t s) 6) 0)
      && all_files (λ f s. eqb (get_field head_widths (old_head_word t f s) 2) 0)

  unfoldable pub old_well_formed : ℕ → Bool
  old_well_formed pagesLength =
      eqb (length t) old_table_bytes && old_kinds_formed && blocks_formed (old_unpack t) && pages_fit (old_unpack t) pagesLength
      && (old_fields_formed && older_sets_formed (old_unpack t))

-- ---- "older tables of either length": of document 01's by its rules, of the present one by the rules before Ask 10

unfoldable pub older_well_formed : List ℕ → ℕ → Bool
older_well_formed t pagesLength = old_well_formed t pagesLength || termed_well_formed t pagesLength

-- the state that they hold
unfoldable pub older_unpack : List ℕ → Tables
older_unpack t = cond (eqb (length t) old_table_bytes) (old_unpack t) (unpack t)

-- a state with pages
abbrev pub store_with : Tables → List ℕ → Store real
store_with tb p =
    record { memory = record { blocks = tb.blocks; next = tb.next; bits = tb.bits; pages = pages_of p }; sets = tb.sets; files = tb.files }

-- ---- "the converter of Ask 8 clears them in older tables of either length, keeping terms already there"

-- a marked file is left with "size 0 and all entries unmapped"
abbrev pub cleared_file : File ℕ → File ℕ
cleared_file x = cond (is_marked x.state) marked_file x

-- does an entry of a marked file name block b
unfoldable pub held_by_marked : Tables → ℕ → Bool
held_by_marked tb b = not (all_files (λ f s. not (is_marked (tb.files f s).state) || all_pages (λ p. not (names b ((tb.files f s).map p)))))

-- the marked files cleared, their blocks free; block count, next start and set records, with their terms, stay
unfoldable pub cleared : Tables → Tables
cleared tb = record {
  blocks = tb.blocks;
  next = tb.next;
  bits = λ b. tb.bits b && not (held_by_marked tb b);
  sets = tb.sets;
  files = λ f s. cleared_file (tb.files f s);
}

-- the first byte of the record of a marked file: state 3, in its two highest bits
abbrev pub marked_byte : ℕ
marked_byte = 192

-- every byte of old tables t, of document 01's length, in tables t' of the present length, before marked files are cleared: "Each set record grows at its end by 4 bytes"; all
-- else stands as it stood
pub record Widened (t t' : List ℕ) : Type 0 where
  pub new_length : length t' ≡ table_bytes
  -- header and bitmap
  pub front : (i : ℕ) → i < sets_at → get_or t' i 0 ≡ get_or t i 0
  -- of each set record the old bytes, then first day 0 and end day 36,525 where the set is used, else zeros: as one word, 36,525 or 0
  pub tree : (s j : ℕ) → s < set_count → j < tree_bytes → get_or t' (set_at s + j) 0 ≡ get_or t (old_set_at s + j) 0
  pub term : (s j : ℕ) → s < set_count → j < term_bytes → get_or t' (term_at s + j) 0 ≡ byte 3 (cond ((old_unpack t).sets s).used last_end 0) j
  -- the file records
  pub files : (i : ℕ) → i < all_files_bytes → get_or t' (files_at + i) 0 ≡ get_or t (old_files_at + i) 0

-- every byte of tables t' that are tables t of the present length with the marked files cleared
pub record Cleared (t t' : List ℕ) : Type 0 where
  pub same_length : length t' ≡ length t
  -- the header, and the set records with their terms
  pub header : (i : ℕ) → i < bitmap_at → get_or t' i 0 ≡ get_or t i 0
  pub sets : (i : ℕ) → sets_at ≤ i → i < files_at → get_or t' i 0 ≡ get_or t i 0
  -- a bit is 0 where a marked file held the block, else as it was
  pub bits : (b : ℕ) → b < largest_blocks → bit_at t' bitmap_at b ≡ (bit_at t bitmap_at b && not (held_by_marked (unpack t) b))
  -- the record of a marked file has its state alone, in the first byte; that of any other stands as it stood
  pub marked_record : (f s j : ℕ) → f < file_count → s < set_count → j < file_bytes → is_marked ((unpack t).files f s).state ≡ true
      → get_or t' (file_at f s + j) 0 ≡ cond (eqb j 0) marked_byte 0
  pub other_record : (f s j : ℕ) → f < file_count → s < set_count → j < file_bytes → is_marked ((unpack t).files f s).state ≡ false
      → get_or t' (file_at f s + j) 0 ≡ get_or t (file_at f s + j) 0

-- THE CONVERTER on any bytes: older tables, pages, a second buffer. "A converter, lent the pages too, takes well-formed tables of 17,436 bytes"
-- "into a second buffer of 17,468, adding the default term to used sets; otherwise it answers 1 and writes nothing." And "the converter of Ask 8 clears them [marked files]
-- in older tables of either length". What is left of the second buffer stands as the tables; older tables and pages are only read.
unfoldable pub convert_on : List ℕ → List ℕ → List ℕ → Outcome
convert_on old p second =
    cond (older_well_formed old (length p) && eqb (length second) table_bytes)
    (looked_at no_counts (pack (cleared (older_unpack old))) p [])
    (looked_at (refusal 1) second p [])
