-- The ten calls on bytes: what their exported functions do. A write is stated for groups of any size; its two functions take 8 and 1.
use Rattle.std.specs.Prelude.{◌&&◌, Bool, cond, List, [], ◌%◌, ◌*◌, ◌+◌, ◌/◌, suc, zero, ℕ, eqb, leb, ltb, get_or, length}
use Rattle.base.specs.Tabulate.{tab}
use Rattle.rules.specs.Calls.{Result, Store, accepted, blank_memory, read_into, tables_of, view_of}
use Rattle.rules.specs.Numbers.{Answer, Call, Look, View, bytes_asked, create, delete, format, look_of, make, none_asked, number_of, read, refusal, remove, size_asked, tell_free, tell_size, truncate, write}
use Rattle.rules.specs.State.{Tables, largest_blocks, page_bytes}
use Rattle.rules.specs.Storage.{Memory, PageData, real}
use Rattle.tables.specs.Layout.{table_bytes}
use Rattle.tables.specs.Packed.{pack, unpack, well_formed}

-- the pages buffer by blocks and bytes, and back: "4,096 blocks of 512 bytes"
unfoldable pub pages_of : List ℕ → ℕ → PageData
pages_of p b i = cond (ltb i page_bytes) (get_or p (b * page_bytes + i) 0) 0

unfoldable pub pack_pages : ℕ → (ℕ → PageData) → List ℕ
pack_pages n pg = tab (n * page_bytes) (λ i. pg (i / page_bytes) (i % page_bytes))

-- the store in tables and pages
abbrev pub store_of : List ℕ → List ℕ → Store real
store_of t p =
    let tb : Tables = unpack t in
    record { memory = record { blocks = tb.blocks; next = tb.next; bits = tb.bits; pages = pages_of p }; sets = tb.sets; files = tb.files }

-- what a call leaves: its answer, the tables, the pages, and the buffer of a read
pub record Outcome : Type 0 where
  pub answer : Answer
  pub tables : List ℕ
  pub pages : List ℕ
  pub buffer : List ℕ

-- "in format, tables of wrong length or pages no multiple of 512 from 512 to 2,097,152 bytes"
unfoldable pub format_lengths : ℕ → ℕ → Bool
format_lengths tablesLength pagesLength =
    eqb tablesLength table_bytes && eqb (pagesLength % page_bytes) 0 && leb page_bytes pagesLength && leb pagesLength (largest_blocks * page_bytes)

abbrev pub view_on : List ℕ → List ℕ → View
view_on t p = view_of real (well_formed t (length p)) (format_lengths (length t) (length p)) (store_of t p)

-- what an accepted call that changes the store leaves
abbrev pub repacked : Result real → Outcome
repacked r = record {
  answer = r.answer;
  tables = pack (tables_of r.store);
  pages = pack_pages r.store.memory.blocks r.store.memory.pages;
  buffer = [];
}

-- a call that only looks
abbrev pub looked_at : Answer → List ℕ → List ℕ → List ℕ → Outcome
looked_at a t p buffer = record { answer = a; tables = t; pages = p; buffer = buffer }

-- the buffer that a call is given
abbrev pub buffer_in : Look → List ℕ
buffer_in (bytes_asked s f off buffer) = buffer
buffer_in (size_asked s f) = []
buffer_in none_asked = []

-- the memory that a format of these pages makes
abbrev pub fresh_of : List ℕ → Memory
fresh_of p = blank_memory (length p / page_bytes)

-- AN ACCEPTED CALL on bytes
unfoldable pub accepted_on : Call → List ℕ → List ℕ → Outcome
accepted_on (read s f off buffer) t p =
    looked_at (accepted real (fresh_of p) (read s f off buffer) (store_of t p)).answer t p (read_into (store_of t p) s f off buffer)
accepted_on (tell_size s f) t p = looked_at (accepted real (fresh_of p) (tell_size s f) (store_of t p)).answer t p []
accepted_on tell_free t p = looked_at (accepted real (fresh_of p) tell_free (store_of t p)).answer t p []
accepted_on format t p = repacked (accepted real (fresh_of p) format (store_of t p))
accepted_on (create s f) t p = repacked (accepted real (fresh_of p) (create s f) (store_of t p))
accepted_on (write g s f off bs) t p = repacked (accepted real (fresh_of p) (write g s f off bs) (store_of t p))
accepted_on (truncate s f n) t p = repacked (accepted real (fresh_of p) (truncate s f n) (store_of t p))
accepted_on (delete s f) t p = repacked (accepted real (fresh_of p) (delete s f) (store_of t p))
accepted_on (make s c w) t p = repacked (accepted real (fresh_of p) (make s c w) (store_of t p))
accepted_on (remove s) t p = repacked (accepted real (fresh_of p) (remove s) (store_of t p))

-- "returned (counts 0, nothing changed)"
unfoldable pub outcome_of : ℕ → Call → List ℕ → List ℕ → Outcome
outcome_of zero c t p = accepted_on c t p
outcome_of (suc n) c t p = looked_at (refusal (suc n)) t p (buffer_in (look_of c))

-- A CALL ON BYTES, of any contents and lengths
unfoldable pub call_on : Call → List ℕ → List ℕ → Outcome
call_on c t p = outcome_of (number_of (view_on t p) c) c t p
