-- For the contracts of the code, not for a reader of document 01: tables whose words are well formed, one change of the state each, and what a change of the tables must show.
use Rattle.std.specs.Prelude.{Bool, false, true, List, ◌≡◌, ◌%◌, ◌+◌, ◌<◌, ℕ, ◌≤◌, get_or, length, replicate}
use Rattle.std.proofs.Math.Option.{some}
use Rattle.base.specs.Search.{first_free}
use Rattle.base.specs.Update.{upd}
use Rattle.packing.specs.Fields.{get_field}
use Rattle.rules.specs.Rules.{put_entry}
use Rattle.rules.specs.State.{Entry, Files, SetRecord, State, Tables, file_count, largest_blocks, page_count, set_count}
use Rattle.rules.specs.Storage.{Memory, PageData}
use Rattle.tables.specs.Layout.{entry_word, head_widths, head_word, header_widths, header_word, set_widths, set_word, table_bytes}
use Rattle.tables.specs.Meaning.{kept_meant, pending_meant}
use Rattle.tables.specs.Packed.{entry_formed, unpack}
use Rattle.tables.specs.declared.entries.Kept.{Kept}
use Rattle.tables.specs.declared.entries.Pending.{Pending}

-- zero fields are zero, no kind is 3, the block is 0 unless stored
pub record PackedTables (t : List ℕ) : Type 0 where
  pub len : length t ≡ table_bytes
  pub header_ok : get_field header_widths (header_word t) 2 ≡ 0
  pub set_ok : (s : ℕ) → s < set_count → get_field set_widths (set_word t s) 6 ≡ 0
  pub head_ok : (f s : ℕ) → f < file_count → s < set_count → get_field head_widths (head_word t f s) 2 ≡ 0
  pub entry_ok : (f s p : ℕ) → f < file_count → s < set_count → p < page_count → entry_formed t (entry_word t f s p) ≡ true

-- the memory of tables and pages
abbrev pub memory_of : Tables → (ℕ → PageData) → Memory
memory_of tb pages = record { blocks = tb.blocks; next = tb.next; bits = tb.bits; pages = pages }

-- the files of number f
unfoldable pub put_files : ℕ → Files ℕ → Tables → Tables
put_files f x tb = record { blocks = tb.blocks; next = tb.next; bits = tb.bits; sets = tb.sets; files = upd tb.files f x }

-- the state and the size of the file in set s
unfoldable pub put_head : Files ℕ → ℕ → State → ℕ → Files ℕ
put_head files s state size = upd files s (record { state = state; size = size; map = (files s).map })

-- one entry of the map of file f in set s
unfoldable pub put_entry_in : ℕ → ℕ → ℕ → Entry ℕ → Tables → Tables
put_entry_in f s p e tb = put_files f (put_entry (tb.files f) s p e) tb

-- the state and the size of file f in set s
unfoldable pub put_head_in : ℕ → ℕ → State → ℕ → Tables → Tables
put_head_in f s state size tb = put_files f (put_head (tb.files f) s state size) tb

-- the record of set s
unfoldable pub put_set_in : ℕ → SetRecord → Tables → Tables
put_set_in s r tb = record { blocks = tb.blocks; next = tb.next; bits = tb.bits; sets = upd tb.sets s r; files = tb.files }

-- the bit of block b
unfoldable pub put_bit_in : ℕ → Bool → Tables → Tables
put_bit_in b v tb = record { blocks = tb.blocks; next = tb.next; bits = upd tb.bits b v; sets = tb.sets; files = tb.files }

-- the next start
unfoldable pub put_next_in : ℕ → Tables → Tables
put_next_in n tb = record { blocks = tb.blocks; next = n; bits = tb.bits; sets = tb.sets; files = tb.files }

-- the tables t become t', by op of what they hold
pub record Turns (t t' : List ℕ) (op : Tables → Tables) : Type 0 where
  pub view : unpack t' ≡ op (unpack t)
  pub packed : PackedTables t'

-- B is 1 to 4,096, next start is below B
pub record HeaderIn (tb : Tables) : Type 0 where
  pub at_least : 1 ≤ tb.blocks
  pub most : tb.blocks ≤ largest_blocks
  pub next_in : tb.next < tb.blocks

-- block b is used, and next start is the one after it
unfoldable pub took : ℕ → Tables → Tables
took b tb = put_next_in ((b + 1) % tb.blocks) (put_bit_in b true tb)

-- block b is the first free one from next start, going round, and has been taken
pub record Took (t t' : List ℕ) (b : ℕ) : Type 0 where
  pub first : first_free (unpack t).blocks (unpack t).bits (unpack t).next ≡ some b
  pub below : b < (unpack t).blocks
  pub unused : (unpack t).bits b ≡ false
  pub turns : Turns t t' (took b)

-- the blocks pending for 64 pages
unfoldable pub pending_of : List Pending → ℕ → Entry ℕ
pending_of l p = pending_meant (get_or l p (record { 0 = 65535 }))

unfoldable pub none_pending : List Pending
none_pending = replicate 64 (record { 0 = 65535 })

-- the entries that are kept for 64 pages
unfoldable pub entries_of : List Kept → ℕ → Entry ℕ
entries_of l p = kept_meant (get_or l p (record { 0 = 0 }))

unfoldable pub all_holes : List Kept
all_holes = replicate 64 (record { 0 = 16384 })
