-- For the contracts of the code: two blocks exchanged in place, entries, bits and pages alike.
use Rattle.std.specs.Prelude.{Bool, cond, false, true, List, refl, ◌≡◌, ◌%◌, ◌*◌, ◌+◌, ◌/◌, ◌<◌, suc, zero, ℕ, ◌≤◌, eqb, get_or, length, set}
use Rattle.std.specs.Int.Bits.{bit_and}
use Rattle.compaction.specs.Compact.{entry_in, file_at, page_at, place_count, set_at}
use Rattle.rules.proofs.Blocks.RealStore.{BlocksOk}
use Rattle.rules.proofs.Storages.MapBlocks.{map_files}
use Rattle.rules.specs.Calls.{Store}
use Rattle.rules.specs.State.{Entry, State, Tables, absent, file_count, largest_blocks, marked, own, page_bytes, stored, virgin}
use Rattle.rules.specs.Storage.{real}
use Rattle.masks.specs.Network.{words_at}
use Rattle.tables.specs.Calls.{store_of}
use Rattle.tables.specs.Layout.{map_at}
use Rattle.tables.specs.Packed.{unpack}
use Rattle.tables.specs.Views.{PackedTables, put_entry_in}

-- two numbers change places
unfoldable pub swapped : ℕ → ℕ → ℕ → ℕ
swapped a b x = cond (eqb a x) b (cond (eqb b x) a x)

-- r' is r with the blocks a and b exchanged: in entries, in bits, and as to the pages of named blocks
pub record Exchanged (a b : ℕ) (r r' : Store real) : Type 0 where
  pub sets : r'.sets ≡ r.sets
  pub blocks : r'.memory.blocks ≡ r.memory.blocks
  pub next : r'.memory.next < r.memory.blocks
  pub bits : (x : ℕ) → r'.memory.bits x ≡ r.memory.bits (swapped a b x)
  pub files : (f : ℕ) → r'.files f ≡ map_files (swapped a b) (r.files f)
  pub pages : (f s p x : ℕ) → (r.files f s).map p ≡ stored x → r'.memory.pages (swapped a b x) ≡ r.memory.pages x

-- a file of this state may have stored entries
abbrev pub may_hold : State → Bool
may_hold absent = false
may_hold own = true
may_hold virgin = false
may_hold marked = true

-- no other file has
abbrev pub StoredHeld : List ℕ → Type 0
StoredHeld t = (f s q b : ℕ) → ((unpack t).files f s).map q ≡ stored b → may_hold ((unpack t).files f s).state ≡ true

-- n bytes from x on and from y on change places
pub traded : List ℕ → ℕ → ℕ → ℕ → List ℕ
traded l x y zero = l
traded l x y (suc n) = set (set (traded l x y n) (x + n) (get_or l (y + n) 0)) (y + n) (get_or l (x + n) 0)

-- tables and pages whose blocks are in order
pub record Lent (t p : List ℕ) : Type 0 where
  pub packed : PackedTables t
  pub most : (unpack t).blocks ≤ largest_blocks
  pub pages : length p ≡ (unpack t).blocks * page_bytes
  pub ok : BlocksOk (store_of t p)
  pub held : StoredHeld t

-- t and p become t' and p', which have blocks a and b exchanged
pub record Swap (a b : ℕ) (t p t' p' : List ℕ) : Type 0 where
  pub packed : PackedTables t'
  pub exchanged : Exchanged a b (store_of t p) (store_of t' p')

-- the entry at place n
unfoldable pub put_in : ℕ → Entry ℕ → Tables → Tables
put_in n e tb = put_entry_in (file_at n) (set_at n) (page_at n) e tb

-- the bits by which four entries are stored: the highest of the first byte of each
unfoldable pub four_stored : List ℕ → ℕ → ℕ → ℕ
four_stored t r g = bit_and (words_at t (map_at (r % file_count) (r / file_count)) g) 0x0080008000800080

-- an entry at place n or later names block k
pub record Owned (t : List ℕ) (k n : ℕ) : Type 0 where
  pub place : ℕ
  pub later : n ≤ place
  pub low : place < place_count
  pub names : entry_in (unpack t).files place ≡ stored k

-- laws of the recursion
pub traded_none : (l : List ℕ) (x y : ℕ) → traded l x y 0 ≡ l
unfolding traded
traded_none l x y = refl

pub traded_more : (l : List ℕ) (x y n : ℕ) → traded l x y (suc n) ≡ set (set (traded l x y n) (x + n) (get_or l (y + n) 0)) (y + n) (get_or l (x + n) 0)
unfolding traded
traded_more l x y n = refl
