-- What an accepted read leaves in the buffer and gives as counts.
use Rattle.std.specs.Prelude.{List, ◌≡◌, ◌%◌, ◌*◌, ◌+◌, ◌/◌, ◌<◌, ℕ, ◌≤◌, length}
use Rattle.rules.specs.Calls.{read_count, read_into, read_looks}
use Rattle.rules.specs.Reading.{size_by_reading}
use Rattle.rules.specs.State.{Entry, hole, page_bytes, page_count, stored, tree_of, unmapped}
use Rattle.tables.specs.Calls.{pages_of, store_of}
use Rattle.tables.specs.Packed.{unpack}
use Rattle.tables.specs.Views.{entries_of}
use Rattle.tables.specs.declared.entries.Kept.{Kept}

-- file f of set s is read from byte off on; the buffer holds `before`, and then `after`
pub record ReadDone (t p : List ℕ) (s f off : ℕ) (before after : List ℕ) (bytes looks : ℕ) : Type 0 where
  -- "It fills that many bytes at the buffer's front and touches no others."
  pub filled : after ≡ read_into (store_of t p) s f off before
  -- "the smaller of the buffer's length and the bytes from the offset to the size, none at or past it"
  pub counted : bytes ≡ read_count (length before) off (size_by_reading (tree_of (unpack t).sets) ((unpack t).files f) s)
  -- the maps looked at, "For each page holding a byte read"
  pub looked : looks ≡ read_looks (tree_of (unpack t).sets) ((unpack t).files f) s off bytes

-- byte i of a page with an entry, of the pages p
abbrev pub byte_at : List ℕ → Entry ℕ → ℕ → ℕ
byte_at p unmapped i = 0
byte_at p hole i = 0
byte_at p (stored b) i = pages_of p b i

-- byte i of a file, where the entries of its pages are kept
unfoldable pub byte_kept : List Kept → List ℕ → ℕ → ℕ
byte_kept kept p i = byte_at p (entries_of kept (i / page_bytes)) (i % page_bytes)

-- the entries that are kept name blocks of the pages p
pub record EntriesIn (kept : List Kept) (p : List ℕ) : Type 0 where
  pub len : length kept ≡ page_count
  pub blocks : (q b : ℕ) → q < page_count → entries_of kept q ≡ stored b → b * page_bytes + page_bytes ≤ length p
