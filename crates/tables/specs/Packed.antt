-- The tables unpacked and packed, and what is well formed. Document 01, "Packed tables"; document 02, Asks 4, 8 and 10.
use Rattle.std.specs.Prelude.{◌&&◌, Bool, cond, ◌||◌, List, ◌%◌, ◌-◌, ◌/◌, ℕ, eqb, ltb, length}
use Rattle.base.specs.Tabulate.{tab}
use Rattle.packing.specs.Bitmap.{bit_at, map_byte}
use Rattle.packing.specs.Fields.{get_field}
use Rattle.packing.specs.Words.{byte}
use Rattle.rules.specs.State.{File, SetRecord, Tables, absent, file_count, largest_blocks, page_count, set_count, unmapped, unused_set}
use Rattle.rules.specs.WellFormed.{all_files, all_pages, all_sets, blocks_formed, older_sets_formed, pages_fit, sets_formed}
use Rattle.tables.specs.Layout.{bitmap_at, entry_bytes, entry_widths, entry_word, file_bytes, files_at, head_bytes, head_widths, head_word, header_widths, header_word, read_blocks, read_entry, read_next, read_set, read_size, read_state, set_bytes, set_widths, set_word, sets_at, table_bytes, term_word, tree_bytes, write_entry, write_head, write_header, write_set, write_term}

-- is there such a file, such a page of it
abbrev pub is_file : ℕ → ℕ → Bool
is_file f s = ltb f file_count && ltb s set_count

abbrev pub is_page : ℕ → ℕ → ℕ → Bool
is_page f s p = is_file f s && ltb p page_count

-- THE STATE that the tables hold; out of range it is the default
unfoldable pub unpack : List ℕ → Tables
unpack t = record {
  blocks = read_blocks (header_word t);
  next = read_next (header_word t);
  bits = λ b. ltb b largest_blocks && bit_at t bitmap_at b;
  sets = λ s. cond (ltb s set_count) (read_set (set_word t s) (term_word t s)) unused_set;
  files = λ f s. record {
    state = cond (is_file f s) (read_state (head_word t f s)) absent;
    size = cond (is_file f s) (read_size (head_word t f s)) 0;
    map = λ p. cond (is_page f s p) (read_entry (entry_word t f s p)) unmapped;
  };
}

-- byte j of a set record
unfoldable pub set_byte : SetRecord → ℕ → ℕ
set_byte r j = cond (ltb j tree_bytes) (byte 2 (write_set r) j) (byte 3 (write_term r.term) (j - tree_bytes))

-- byte j of the record of file number n % 16 of set n / 16
unfoldable pub record_byte : Tables → ℕ → ℕ → ℕ
record_byte tb n j =
    let x : File ℕ = tb.files (n % file_count) (n / file_count) in
    cond (ltb j head_bytes) (byte 3 (write_head x.state x.size) j)
    (byte 1 (write_entry (x.map ((j - head_bytes) / entry_bytes))) ((j - head_bytes) % entry_bytes))

-- byte i of the tables
unfoldable pub table_byte : Tables → ℕ → ℕ
table_byte tb i =
    cond (ltb i bitmap_at) (byte 3 (write_header tb.blocks tb.next) i)
    (cond (ltb i sets_at) (map_byte tb.bits (i - bitmap_at))
    (cond (ltb i files_at) (set_byte (tb.sets ((i - sets_at) / set_bytes)) ((i - sets_at) % set_bytes))
    (record_byte tb ((i - files_at) / file_bytes) ((i - files_at) % file_bytes))))

-- THE TABLES of a state
unfoldable pub pack : Tables → List ℕ
pack tb = tab table_bytes (table_byte tb)

-- "Well formed means all of", as far as it concerns the words.
module _ (t : List ℕ) where
  -- "No kind is 3, and the block is 0 unless stored."
  abbrev pub entry_formed : ℕ → Bool
  entry_formed w = ltb (get_field entry_widths w 0) 3 && (eqb (get_field entry_widths w 0) 2 || eqb (get_field entry_widths w 1) 0)

  unfoldable pub kinds_formed : Bool
  kinds_formed = all_files (λ f s. all_pages (λ p. entry_formed (entry_word t f s p)))

  -- "Zero fields are zero."
  unfoldable pub fields_formed : Bool
  fields_formed =
      eqb (get_field header_widths (header_word t) 2) 0
      && all_sets (λ s. eqb (get_field set_widths (set_word t s) 6) 0)
      && all_files (λ f s. eqb (get_field head_widths (head_word t f s) 2) 0)

  -- THE FIRST PART, document 02, Ask 4: it "accepts exactly the tables of right length that meet the rules on B, next start, kinds, blocks and bits,
  -- whatever else they hold". It is about the tables alone, and about all 128 × 64 entries, whatever the states of files and the uses of sets are.
  unfoldable pub block_rules : Bool
  block_rules = eqb (length t) table_bytes && kinds_formed && blocks_formed (unpack t)

  -- the rules on zero fields, sets and files
  unfoldable pub set_rules : Bool
  set_rules = fields_formed && sets_formed (unpack t)

  -- the same before document 02, Ask 10: a marked file may keep its record
  unfoldable pub older_set_rules : Bool
  older_set_rules = fields_formed && older_sets_formed (unpack t)

  -- WELL FORMED, with a pages buffer of so many bytes
  unfoldable pub well_formed : ℕ → Bool
  well_formed pagesLength = block_rules && pages_fit (unpack t) pagesLength && set_rules

  -- WELL FORMED BY THE RULES BEFORE ASK 10, which the converter takes too: tables of the present length, with terms
  unfoldable pub termed_well_formed : ℕ → Bool
  termed_well_formed pagesLength = block_rules && pages_fit (unpack t) pagesLength && older_set_rules
