-- The ten calls on a store, over any storage.
use Rattle.std.specs.Prelude.{Bool, false, true, ◌++◌, List, ◌∷◌, [], ◌%◌, ◌+◌, ◌-◌, ◌/◌, min, suc, zero, ℕ, drop, length}
use Rattle.base.specs.Tabulate.{tab}
use Rattle.base.specs.Update.{upd}
use Rattle.rules.specs.Numbers.{Answer, Call, View, create, delete, format, make, no_counts, number_of, read, refusal, remove, tell_free, tell_size, truncate, write}
use Rattle.rules.specs.Reading.{looks, resolve, size_by_reading}
use Rattle.rules.specs.Rules.{Work, delete_file, each, free_map, from, holes, own_need, page_of, sum_in, touched, truncate_file, truncate_need, write_file}
use Rattle.rules.specs.Sets.{append_set, child_file, root_alone, unlink_set}
use Rattle.rules.specs.State.{File, Files, SetRecord, Tables, Tree, absent_file, file_count, own, page_bytes, tree_of, unmapped}
use Rattle.rules.specs.Storage.{Memory, Storage, real}

pub record Store (S : Storage) : Type 0 where
  pub memory : S.Memory
  pub sets : ℕ → SetRecord
  pub files : ℕ → Files S.Block

pub record Result (S : Storage) : Type 0 where
  pub answer : Answer
  pub store : Store S

-- "Create leaves an own file, size 0, all holes."
abbrev pub new_file : {K : Type 0} → File K
new_file = record { state = own; size = 0; map = holes }

-- "the smaller of the buffer's length and the bytes from the offset to the size, none at or past it"
abbrev pub read_count : ℕ → ℕ → ℕ → ℕ
read_count n off size = min n (size - off)

-- Document 02, Ask 3: how many maps are looked at where n bytes are read from off on: the sum over "each page holding a byte read"
unfoldable pub read_looks : {K : Type 0} → Tree → Files K → ℕ → ℕ → ℕ → ℕ
read_looks t files s off n = sum_in (touched off n) (looks t files s)

module _ (S : Storage) where
  abbrev pub tree_in : Store S → Tree
  tree_in st = tree_of st.sets

  -- "Format makes set 0 alone": m is a memory with every block free
  unfoldable pub formatted : S.Memory → Store S
  formatted m = record { memory = m; sets = root_alone; files = λ f s. absent_file }

  unfoldable pub created : ℕ → ℕ → Store S → Store S
  created s f st = record { memory = st.memory; sets = st.sets; files = upd st.files f (upd (st.files f) s new_file) }

  unfoldable pub made : ℕ → ℕ → Bool → Store S → Store S
  made s c w st = record { memory = st.memory; sets = append_set s c w st.sets; files = λ f. upd (st.files f) c (child_file (st.files f s)) }

  -- "Removing frees its blocks and unlinks it."
  unfoldable pub removed : ℕ → Store S → Store S
  removed c st = record {
    memory = each (λ f. free_map S (st.files f c).map) (from 0 file_count) st.memory;
    sets = unlink_set c st.sets;
    files = λ f. upd (st.files f) c absent_file;
  }

  -- the files of one number are worked on, and put back
  abbrev pub begin : Store S → ℕ → Work S
  begin st f = record { memory = st.memory; files = st.files f; pending = λ p. unmapped; taken = 0; copies = 0; marks = 0 }

  abbrev pub finish : Store S → ℕ → Work S → Store S
  finish st f w = record { memory = w.memory; sets = st.sets; files = upd st.files f w.files }

  -- "Write, truncate, delete: own blocks taken, copies, files newly marked."
  unfoldable pub worked : Store S → ℕ → Work S → Result S
  worked st f w = record { answer = record { number = 0; first = w.taken; second = w.copies; third = w.marks }; store = finish st f w }

  -- "Others: zeros."
  abbrev pub done : Store S → Result S
  done st = record { answer = no_counts; store = st }

  -- "Read: bytes, maps looked at, 0.": n bytes are read from off on
  abbrev pub read_of : ℕ → ℕ → ℕ → ℕ → Store S → Result S
  read_of s f off n st = record { answer = record { number = 0; first = n; second = read_looks (tree_in st) (st.files f) s off n; third = 0 }; store = st }

  -- "Size and free: that number, 0, 0."
  abbrev pub told : ℕ → Store S → Result S
  told n st = record { answer = record { number = 0; first = n; second = 0; third = 0 }; store = st }

  -- AN ACCEPTED CALL. fresh is the memory that a format makes
  unfoldable pub accepted : S.Memory → Call → Store S → Result S
  accepted fresh format st = done (formatted fresh)
  accepted fresh (create s f) st = done (created s f st)
  accepted fresh (write g s f off []) st = done st
  accepted fresh (write g s f off (x ∷ bs)) st = worked st f (write_file S (tree_in st) g s off (x ∷ bs) (begin st f))
  accepted fresh (read s f off buffer) st = read_of s f off (read_count (length buffer) off (size_by_reading (tree_in st) (st.files f) s)) st
  accepted fresh (truncate s f n) st = worked st f (truncate_file S (tree_in st) s n (begin st f))
  accepted fresh (delete s f) st = worked st f (delete_file S (tree_in st) s (begin st f))
  accepted fresh (make s c w) st = done (made s c w st)
  accepted fresh (remove s) st = done (removed s st)
  accepted fresh (tell_size s f) st = told (size_by_reading (tree_in st) (st.files f) s) st
  accepted fresh tell_free st = told (S.free st.memory) st

  -- what the table of numbers sees of the store
  abbrev pub view_of : Bool → Bool → Store S → View
  view_of formed formats st = record {
    formed = formed;
    formats = formats;
    tree = tree_in st;
    state = λ f s. (st.files f s).state;
    free = S.free st.memory;
    write_need = λ s f off n. own_need S s (touched off n) (st.files f);
    truncate_need = λ s f n. truncate_need S (tree_in st) s n (st.files f);
  }

  -- "returned (counts 0, nothing changed)"
  unfoldable pub result_of : ℕ → S.Memory → Call → Store S → Result S
  result_of zero fresh c st = accepted fresh c st
  result_of (suc n) fresh c st = record { answer = refusal (suc n); store = st }

  -- A CALL ON A STORE whose tables are well formed
  unfoldable pub step : S.Memory → Call → Store S → Result S
  step fresh c st = result_of (number_of (view_of true true st) c) fresh c st

-- the memory after a format of n blocks: "next start 0, every page zero"
abbrev pub blank_memory : ℕ → Memory
blank_memory n = record { blocks = n; next = 0; bits = λ b. false; pages = λ b i. 0 }

-- the tables of a store
abbrev pub tables_of : Store real → Tables
tables_of st = record { blocks = st.memory.blocks; next = st.memory.next; bits = st.memory.bits; sets = st.sets; files = st.files }

-- byte i of file f in set s by reading
unfoldable pub byte_by_reading : Store real → ℕ → ℕ → ℕ → ℕ
byte_by_reading st s f i = page_of real st.memory (resolve (tree_in real st) (st.files f) s (i / page_bytes)) (i % page_bytes)

-- "It fills that many bytes at the buffer's front and touches no others."
unfoldable pub read_into : Store real → ℕ → ℕ → ℕ → List ℕ → List ℕ
read_into st s f off buffer =
    let n : ℕ = read_count (length buffer) off (size_by_reading (tree_in real st) (st.files f) s) in
    tab n (λ i. byte_by_reading st s f (off + i)) ++ drop n buffer
