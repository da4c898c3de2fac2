-- For the contracts of the code, not for a reader of document 01: steps that set or use the blocks pending for pages, which stand in an array.
use Rattle.std.specs.Prelude.{cond, not, List, ◌≡◌, ◌+◌, ◌<◌, ℕ, length}
use Rattle.base.specs.Update.{upd}
use Rattle.rules.specs.Rules.{Work, enter_as, page_of, reserve}
use Rattle.rules.specs.State.{Entry, Tree, hole, is_stored, stored, tree_of, unmapped}
use Rattle.rules.specs.Storage.{PageData, overlay, real}
use Rattle.tables.specs.Calls.{pages_of}
use Rattle.tables.specs.Meaning.{pending_meant}
use Rattle.tables.specs.Packed.{unpack}
use Rattle.tables.specs.Views.{PackedTables, Took, pending_of}
use Rattle.tables.specs.declared.entries.Pending.{Pending}
use Rattle.copying.specs.Work.{Ready, Sound, one_taken, rest, work}
use Rattle.copying.specs.declared.giving.Counts.{Counts}

-- every block pending is one of the first n
pub record PendingIn (l : List Pending) (n : ℕ) : Type 0 where
  pub len : length l ≡ 64
  pub below : (p b : ℕ) → pending_of l p ≡ stored b → b < n

-- block b is taken
pub record TakenOwn (t t' : List ℕ) (k : Counts) (b : ℕ) (k' : Counts) : Type 0 where
  pub took_it : Took t t' b
  pub counts : k' ≡ one_taken k

-- the tables t become t' and the blocks pending l become l' by op, whatever the pages; the next step can be taken
pub record Reserves (t t' : List ℕ) (l l' : List Pending) (f : ℕ) (k k' : Counts) (op : Work real → Work real) : Type 0 where
  pub same : rest (unpack t') f ≡ rest (unpack t) f
  pub does : (pg : ℕ → PageData) → work (unpack t') pg f (pending_of l') k' ≡ op (work (unpack t) pg f (pending_of l) k)
  pub packed : PackedTables t'
  pub sound : Sound (unpack t') f k'
  pub pending : PendingIn l' (unpack t).blocks

-- page p of set s will have block b: with that pending it is reserved, and a block is spent where the page was not stored
pub record Reserved (t t' : List ℕ) (f s p : ℕ) (k : Counts) (b : ℕ) (k' : Counts) : Type 0 where
  pub below : b < (unpack t).blocks
  pub reserves : (l l' : List Pending) → PendingIn l (unpack t).blocks → pending_of l' ≡ upd (pending_of l) p (stored b) → length l' ≡ 64
      → Reserves t t' l l' f k k' (reserve real (tree_of (unpack t).sets) s p)
  pub spent : k'.left + cond (not (is_stored (((unpack t).files f s).map p))) 1 0 ≡ k.left

-- the bytes of a resolved page
unfoldable pub bytes_of : (ℕ → PageData) → Entry ℕ → PageData
bytes_of pg unmapped = λ i. 0
bytes_of pg hole = λ i. 0
bytes_of pg (stored a) = pg a

-- block b has bytes that are, once n bytes from off on are laid over page p, those of the page, which resolved to e; no other block is changed
pub record Carried (pg pg' : ℕ → PageData) (b p off n : ℕ) (e : Entry ℕ) : Type 0 where
  pub bytes : PageData
  pub pages : pg' ≡ upd pg b bytes
  pub laid : (bs : List ℕ) → length bs ≡ n → overlay off bs p bytes ≡ overlay off bs p (bytes_of pg e)

-- block b enters for page p of set s, which resolved to e, its bytes changed by g
abbrev pub enters_as : Tree → Entry ℕ → ℕ → ℕ → ℕ → (PageData → PageData) → Work real → Work real
enters_as tree e b s p g w = enter_as real tree (stored b) s p (g (page_of real w.memory e)) w

-- a step with the blocks pending h
pub record StepAt (h : ℕ → Entry ℕ) (t p t' p' : List ℕ) (f : ℕ) (k : Counts) (op : Work real → Work real) : Type 0 where
  pub same : rest (unpack t') f ≡ rest (unpack t) f
  pub does : work (unpack t') (pages_of p') f h k ≡ op (work (unpack t) (pages_of p) f h k)
  pub ready : Ready t' p' f k

-- the same, whatever the blocks pending are, where `own` is that of page q
abbrev pub StepWith : Pending → ℕ → List ℕ → List ℕ → List ℕ → List ℕ → ℕ → Counts → (Work real → Work real) → Type 0
StepWith own q t p t' p' f k op = (h : ℕ → Entry ℕ) → h q ≡ pending_meant own → StepAt h t p t' p' f k op

-- the block that `own` names is one of the first n
abbrev pub OwnIn : Pending → ℕ → Type 0
OwnIn own n = (b : ℕ) → pending_meant own ≡ stored b → b < n
