-- What the calls that take no block and copy no page do to the tables. Document 01, "Changing calls", as `rules` states them on stores.
use Rattle.std.specs.Prelude.{Bool, cond, false, true, refl, ◌≡◌, ◌<◌, suc, zero, ℕ, ◌≤◌, eqb, ltb}
use Rattle.std.proofs.Common.{le-ltb, lt-ltb}
use Rattle.base.specs.Update.{upd}
use Rattle.rules.specs.Calls.{new_file}
use Rattle.rules.specs.Rules.{each, free_map, from, holes, marked_file}
use Rattle.rules.specs.Sets.{append_set, child_file, unlink_set, with_first_child, with_next_sibling}
use Rattle.rules.specs.State.{Entry, SetRecord, Tables, absent_file, file_count, hole, largest_blocks, no_set, set_count, stored, unmapped}
use Rattle.rules.specs.Storage.{PageData, real}
use Rattle.rules.specs.Terms.{default_term}
use Rattle.tables.specs.Views.{memory_of, put_bit_in, put_files, put_set_in}

-- freeing blocks does not look at the pages
abbrev pub no_pages : ℕ → PageData
no_pages b i = 0

-- other bits, other set records
abbrev pub with_bits : (ℕ → Bool) → Tables → Tables
with_bits bits tb = record { blocks = tb.blocks; next = tb.next; bits = bits; sets = tb.sets; files = tb.files }

abbrev pub with_sets : (ℕ → SetRecord) → Tables → Tables
with_sets sets tb = record { blocks = tb.blocks; next = tb.next; bits = tb.bits; sets = sets; files = tb.files }

-- file f of set s is absent
unfoldable pub erased_in : ℕ → ℕ → Tables → Tables
erased_in f s tb = put_files f (upd (tb.files f) s absent_file) tb

-- the block of an entry is free again
unfoldable pub freed_entry_in : Entry ℕ → Tables → Tables
freed_entry_in unmapped tb = tb
freed_entry_in hole tb = tb
freed_entry_in (stored b) tb = put_bit_in b false tb

-- the blocks of file f of set s are free again
unfoldable pub freed_in : ℕ → ℕ → Tables → Tables
freed_in f s tb = with_bits (free_map real (tb.files f s).map (memory_of tb no_pages)).bits tb

-- MARK: the blocks of file f of set s are free again, its size is 0 and its pages are all unmapped
unfoldable pub marked_in : ℕ → ℕ → Tables → Tables
marked_in f s tb = put_files f (upd (tb.files f) s marked_file) (freed_in f s tb)

-- the map of file f of set s is all holes
unfoldable pub holes_in : ℕ → ℕ → Tables → Tables
holes_in f s tb = put_files f (upd (tb.files f) s (record { state = (tb.files f s).state; size = (tb.files f s).size; map = holes })) tb

-- CREATE
unfoldable pub created_in : ℕ → ℕ → Tables → Tables
created_in f s tb = put_files f (upd (tb.files f) s new_file) tb

-- the header: block count and next start
unfoldable pub put_header_in : ℕ → ℕ → Tables → Tables
put_header_in b n tb = record { blocks = b; next = n; bits = tb.bits; sets = tb.sets; files = tb.files }

-- the last set of a sibling chain that goes on from x, with at most n sets more
pub last_of : (ℕ → SetRecord) → ℕ → ℕ → ℕ
last_of sets zero x = x
last_of sets (suc n) x = cond (ltb (sets x).next_sibling set_count) (last_of sets n (sets x).next_sibling) x

-- the record of a new set c, a child of set s
abbrev pub child_record : ℕ → Bool → (ℕ → SetRecord) → SetRecord
child_record s w sets = record { used = true; writeable = w; level = suc (sets s).level; parent = s; first_child = no_set; next_sibling = no_set; term = default_term }

unfoldable pub child_put_in : ℕ → ℕ → Bool → Tables → Tables
child_put_in s c w tb = put_set_in c (child_record s w tb.sets) tb

-- set c is the first child of set s; the sibling after set x
unfoldable pub first_child_in : ℕ → ℕ → Tables → Tables
first_child_in s c tb = put_set_in s (with_first_child (tb.sets s) c) tb

unfoldable pub next_sibling_in : ℕ → ℕ → Tables → Tables
next_sibling_in x c tb = put_set_in x (with_next_sibling (tb.sets x) c) tb

-- set c is the last child of set s
unfoldable pub appended_in : ℕ → ℕ → Bool → Tables → Tables
appended_in s c w tb = with_sets (append_set s c w tb.sets) tb

-- the files of set c are those of a child of set s
unfoldable pub child_files_in : ℕ → ℕ → Tables → Tables
child_files_in s c tb = record { blocks = tb.blocks; next = tb.next; bits = tb.bits; sets = tb.sets; files = λ f. upd (tb.files f) c (child_file (tb.files f s)) }

-- MAKE: set c, whose files were absent, is the last child of set s
unfoldable pub made_in : ℕ → ℕ → Bool → Tables → Tables
made_in s c w tb =
    record { blocks = tb.blocks; next = tb.next; bits = tb.bits; sets = append_set s c w tb.sets; files = λ f. upd (tb.files f) c (child_file (tb.files f s)) }

-- every file of set c is absent, their blocks are free
unfoldable pub cleared_in : ℕ → Tables → Tables
cleared_in c tb = record {
  blocks = tb.blocks;
  next = tb.next;
  bits = (each (λ f. free_map real (tb.files f c).map) (from 0 file_count) (memory_of tb no_pages)).bits;
  sets = tb.sets;
  files = λ f. upd (tb.files f) c absent_file;
}

-- the links of set x to set c lead to set next
unfoldable pub past_in : ℕ → ℕ → ℕ → Tables → Tables
past_in x c next tb =
    let r : SetRecord = tb.sets x in
    put_set_in x (with_next_sibling (with_first_child r (cond (eqb c r.first_child) next r.first_child)) (cond (eqb c r.next_sibling) next r.next_sibling)) tb

-- set c is unlinked
unfoldable pub unlinked_in : ℕ → Tables → Tables
unlinked_in c tb = with_sets (unlink_set c tb.sets) tb

-- REMOVE
unfoldable pub removed_in : ℕ → Tables → Tables
removed_in c tb = record {
  blocks = tb.blocks;
  next = tb.next;
  bits = (each (λ f. free_map real (tb.files f c).map) (from 0 file_count) (memory_of tb no_pages)).bits;
  sets = unlink_set c tb.sets;
  files = λ f. upd (tb.files f) c absent_file;
}

-- every stored block of file f of set s is one of the bitmap
abbrev pub BlocksIn : ℕ → ℕ → Tables → Type 0
BlocksIn f s tb = (p b : ℕ) → (tb.files f s).map p ≡ stored b → b < largest_blocks

-- the block of an entry is one of the bitmap
abbrev pub block_in : Entry ℕ → Type 0
block_in unmapped = Unit {0}
block_in hole = Unit {0}
block_in (stored b) = b < largest_blocks

-- ---- one set more of a chain, or none

pub last_next : (sets : ℕ → SetRecord) (n x : ℕ) → (sets x).next_sibling < set_count → last_of sets (suc n) x ≡ last_of sets n (sets x).next_sibling
unfolding last_of
last_next sets n x h = rw (lt-ltb (sets x).next_sibling set_count h)

pub last_here : (sets : ℕ → SetRecord) (n x : ℕ) → set_count ≤ (sets x).next_sibling → last_of sets (suc n) x ≡ x
unfolding last_of
last_here sets n x h = rw (le-ltb (sets x).next_sibling set_count h)

pub last_done : (sets : ℕ → SetRecord) (x : ℕ) → last_of sets 0 x ≡ x
unfolding last_of
last_done sets x = refl
