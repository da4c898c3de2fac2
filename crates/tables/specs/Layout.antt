-- The layout of the packed tables. Document 01, "Packed tables"; document 02, Ask 8.
use Rattle.std.specs.Prelude.{List, ◌∷◌, [], ◌*◌, ◌+◌, suc, zero, ℕ}
use Rattle.base.specs.Logic.{digit}
use Rattle.packing.specs.Bitmap.{is_one}
use Rattle.packing.specs.Fields.{get_field, join}
use Rattle.packing.specs.Words.{get_word}
use Rattle.rules.specs.State.{Entry, SetRecord, State, Term, absent, file_count, hole, marked, own, page_count, set_count, stored, unmapped, virgin}

-- "in this order": each part stands behind the one before it. Every place and width of a part, in bytes, stands here and
-- nowhere else in the definitions; those of document 01, which the converter reads, stand in `Convert`.
-- "header, 4 bytes"
abbrev pub header_at : ℕ
header_at = 0

abbrev pub header_bytes : ℕ
header_bytes = 4

-- "bitmap, 512 bytes"
abbrev pub bitmap_at : ℕ
bitmap_at = header_at + header_bytes

abbrev pub bitmap_bytes : ℕ
bitmap_bytes = 512

-- "8 set records, 3 bytes each", by which a set stands in the tree; "Each set record grows at its end by 4 bytes", its term
abbrev pub sets_at : ℕ
sets_at = bitmap_at + bitmap_bytes

abbrev pub tree_bytes : ℕ
tree_bytes = 3

abbrev pub term_bytes : ℕ
term_bytes = 4

abbrev pub set_bytes : ℕ
set_bytes = tree_bytes + term_bytes

abbrev pub set_at : ℕ → ℕ
set_at s = sets_at + s * set_bytes

abbrev pub term_at : ℕ → ℕ
term_at s = set_at s + tree_bytes

-- a file record: "state 2, size 16, zero 14", its head, "then 64 entries of kind 2 and block 14", its map
abbrev pub head_bytes : ℕ
head_bytes = 4

abbrev pub entry_bytes : ℕ
entry_bytes = 2

abbrev pub map_bytes : ℕ
map_bytes = page_count * entry_bytes

abbrev pub file_bytes : ℕ
file_bytes = head_bytes + map_bytes

-- the file records of a set
abbrev pub set_files_bytes : ℕ
set_files_bytes = file_count * file_bytes

-- "128 file records, 132 bytes each, at set × 16 + file"
abbrev pub files_at : ℕ
files_at = sets_at + set_count * set_bytes

abbrev pub file_at : ℕ → ℕ → ℕ
file_at f s = files_at + (s * file_count + f) * file_bytes

-- the maps stand as far apart as the records
abbrev pub maps_at : ℕ
maps_at = files_at + head_bytes

abbrev pub map_at : ℕ → ℕ → ℕ
map_at f s = maps_at + (s * file_count + f) * file_bytes

abbrev pub entry_at : ℕ → ℕ → ℕ → ℕ
entry_at f s p = map_at f s + p * entry_bytes

-- the file records of all sets
abbrev pub all_files_bytes : ℕ
all_files_bytes = set_count * set_files_bytes

-- "so the tables become 17,468 bytes"
abbrev pub table_bytes : ℕ
table_bytes = files_at + all_files_bytes

-- "block count B 13, next start 12, zero 7"
abbrev pub header_widths : List ℕ
header_widths = 13 ∷ 12 ∷ 7 ∷ []

-- "used 1, writeable 1, level 3, parent 4, first child 4, next sibling 4, zero 7"
abbrev pub set_widths : List ℕ
set_widths = 1 ∷ 1 ∷ 3 ∷ 4 ∷ 4 ∷ 4 ∷ 7 ∷ []

-- "first day 16 bits, end day 16 bits"
abbrev pub term_widths : List ℕ
term_widths = 16 ∷ 16 ∷ []

-- "state 2, size 16, zero 14"
abbrev pub head_widths : List ℕ
head_widths = 2 ∷ 16 ∷ 14 ∷ []

-- "entries of kind 2 and block 14"
abbrev pub entry_widths : List ℕ
entry_widths = 2 ∷ 14 ∷ []

-- The words, by place. The first argument of getWord is the number of the word's last byte: 1, 2, 3 for words of 16, 24, 32 bits.
abbrev pub header_word : List ℕ → ℕ
header_word t = get_word 3 t header_at

abbrev pub set_word : List ℕ → ℕ → ℕ
set_word t s = get_word 2 t (set_at s)

abbrev pub term_word : List ℕ → ℕ → ℕ
term_word t s = get_word 3 t (term_at s)

abbrev pub head_word : List ℕ → ℕ → ℕ → ℕ
head_word t f s = get_word 3 t (file_at f s)

abbrev pub entry_word : List ℕ → ℕ → ℕ → ℕ → ℕ
entry_word t f s p = get_word 1 t (entry_at f s p)

-- What the words mean.
-- "State: 0 absent, 1 own, 2 virgin (nothing copied yet, size included), 3 marked out of sync."
abbrev pub state_of : ℕ → State
state_of zero = absent
state_of (suc zero) = own
state_of (suc (suc zero)) = virgin
state_of (suc (suc (suc n))) = marked

abbrev pub state_number : State → ℕ
state_number absent = 0
state_number own = 1
state_number virgin = 2
state_number marked = 3

-- "Kind: 0 unmapped, 1 hole, 2 stored; 3 is bad.": here 3 is read as stored; `entry_formed` refuses it
abbrev pub entry_of : ℕ → ℕ → Entry ℕ
entry_of zero block = unmapped
entry_of (suc zero) block = hole
entry_of (suc (suc n)) block = stored block

abbrev pub kind_number : Entry ℕ → ℕ
kind_number unmapped = 0
kind_number hole = 1
kind_number (stored b) = 2

-- "The block is 0 unless stored."
abbrev pub block_number : Entry ℕ → ℕ
block_number unmapped = 0
block_number hole = 0
block_number (stored b) = b

unfoldable pub read_entry : ℕ → Entry ℕ
read_entry w = entry_of (get_field entry_widths w 0) (get_field entry_widths w 1)

unfoldable pub write_entry : Entry ℕ → ℕ
write_entry e = join entry_widths (kind_number e ∷ block_number e ∷ [])

unfoldable pub read_state : ℕ → State
read_state w = state_of (get_field head_widths w 0)

unfoldable pub read_size : ℕ → ℕ
read_size w = get_field head_widths w 1

unfoldable pub write_head : State → ℕ → ℕ
write_head l n = join head_widths (state_number l ∷ n ∷ 0 ∷ [])

unfoldable pub read_term : ℕ → Term
read_term w = record { first_day = get_field term_widths w 0; end_day = get_field term_widths w 1 }

unfoldable pub write_term : Term → ℕ
write_term x = join term_widths (x.first_day ∷ x.end_day ∷ [])

-- a set record of these two words, and its first word; its second is that of its term
unfoldable pub read_set : ℕ → ℕ → SetRecord
read_set w v = record {
  used = is_one (get_field set_widths w 0);
  writeable = is_one (get_field set_widths w 1);
  level = get_field set_widths w 2;
  parent = get_field set_widths w 3;
  first_child = get_field set_widths w 4;
  next_sibling = get_field set_widths w 5;
  term = read_term v;
}

unfoldable pub write_set : SetRecord → ℕ
write_set r = join set_widths (digit r.used ∷ digit r.writeable ∷ r.level ∷ r.parent ∷ r.first_child ∷ r.next_sibling ∷ 0 ∷ [])

unfoldable pub read_blocks : ℕ → ℕ
read_blocks w = get_field header_widths w 0

unfoldable pub read_next : ℕ → ℕ
read_next w = get_field header_widths w 1

unfoldable pub write_header : ℕ → ℕ → ℕ
write_header b n = join header_widths (b ∷ n ∷ 0 ∷ [])
