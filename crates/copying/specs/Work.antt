-- For the contracts of the code, not for a reader of document 01: the rules' work on the files of one number, read off tables, pages and the counts of the code; what every step of a call needs and keeps; what a step must show.
use Rattle.std.specs.Prelude.{Bool, cond, false, not, true, List, Option, None, Some, ◌≡◌, ◌*◌, ◌+◌, ◌-◌, ◌<◌, ℕ, ◌≤◌, length}
use Rattle.base.specs.Count.{count}
use Rattle.base.specs.Update.{upd}
use Rattle.rules.proofs.Steps.OneStep.{TreeOk}
use Rattle.rules.specs.Reading.{needs, resolve}
use Rattle.rules.specs.Rules.{Giving, Work, copied, each, extra, give_all, hand_over, handed, settle, supply}
use Rattle.rules.specs.State.{Entry, Files, SetRecord, Tables, Tree, absent_file, chain, live, stored, tree_of}
use Rattle.rules.specs.Storage.{Memory, PageData, real}
use Rattle.tables.specs.Calls.{pages_of}
use Rattle.tables.specs.Packed.{unpack}
use Rattle.tables.specs.Views.{HeaderIn, PackedTables, entries_of, memory_of}
use Rattle.tables.specs.declared.entries.Kept.{Kept}
use Rattle.copying.specs.declared.giving.Counts.{Counts}
use Rattle.copying.specs.declared.giving.How.{How}
use Rattle.copying.specs.declared.giving.How.TheVariants.{Copied, Extra, Handed}

-- the work on files x of one number, with the blocks pending h
abbrev pub work_of : Memory → Files ℕ → (ℕ → Entry ℕ) → Counts → Work real
work_of m x h k = record { memory = m; files = x; pending = h; taken = k.taken; copies = k.copies; marks = k.marks }

-- the work on the files of number f
abbrev pub work : Tables → (ℕ → PageData) → ℕ → (ℕ → Entry ℕ) → Counts → Work real
work tb pg f h k = work_of (memory_of tb pg) (tb.files f) h k

-- the counts that a call begins with, where n blocks are free
abbrev pub counts_new : ℕ → Counts
counts_new n = record { taken = 0; copies = 0; marks = 0; left = n }

-- the counts after a block is taken
abbrev pub one_taken : Counts → Counts
one_taken k = record { taken = k.taken + 1; copies = k.copies; marks = k.marks; left = k.left - 1 }

-- what no step on the files of number f changes: the block count, the sets, the files of other numbers
pub record Rest : Type 0 where
  pub blocks : ℕ
  pub sets : ℕ → SetRecord
  pub others : ℕ → Files ℕ

abbrev pub rest : Tables → ℕ → Rest
rest tb f = record { blocks = tb.blocks; sets = tb.sets; others = upd tb.files f (λ s. absent_file) }

-- What a step needs of the state: header and blocks in range, no bit set from B on, the count of free blocks right, no count that can grow too large (each
-- marking adds one mark or more and leaves 4,096 free blocks at most), and sets that are a tree.
pub record Sound (tb : Tables) (f : ℕ) (k : Counts) : Type 0 where
  pub header : HeaderIn tb
  pub named : (s p b : ℕ) → (tb.files f s).map p ≡ stored b → b < tb.blocks
  pub bits_past : (b : ℕ) → tb.blocks ≤ b → tb.bits b ≡ false
  pub left_is : k.left ≡ count tb.blocks (λ b. not (tb.bits b))
  pub room : k.taken + k.copies + k.left ≤ 4096 * (k.marks + 1)
  pub alive : k.marks + count 8 (λ s. live (tb.files f s).state) ≤ 8
  pub tree : TreeOk (tree_of tb.sets)

-- and of tables and pages
pub record Ready (t p : List ℕ) (f : ℕ) (k : Counts) : Type 0 where
  pub packed : PackedTables t
  pub sound : Sound (unpack t) f k
  pub size : length p ≡ (unpack t).blocks * 512
  pub file : f < 16

-- from one state to the next by op, whatever is pending
pub record Does (tb : Tables) (pg : ℕ → PageData) (tb' : Tables) (pg' : ℕ → PageData) (f : ℕ) (k k' : Counts) (op : Work real → Work real) : Type 0 where
  pub same : rest tb' f ≡ rest tb f
  pub does : (h : ℕ → Entry ℕ) → work tb' pg' f h k' ≡ op (work tb pg f h k)

-- tables t and pages p become t' and p' by op, and the next step can be taken
pub record Step (t p t' p' : List ℕ) (f : ℕ) (k k' : Counts) (op : Work real → Work real) : Type 0 where
  pub step : Does (unpack t) (pages_of p) (unpack t') (pages_of p') f k k' op
  pub ready : Ready t' p' f k'

-- in a loop: op of the whole is what is done, which made t and p of t₀ and p₀, and then todo
pub record Going (t₀ p₀ t p : List ℕ) (f : ℕ) (k₀ k : Counts) (op todo : Work real → Work real) : Type 0 where
  pub same : rest (unpack t) f ≡ rest (unpack t₀) f
  pub ready : Ready t p f k
  pub whole : (h : ℕ → Entry ℕ) → op (work (unpack t₀) (pages_of p₀) f h k₀) ≡ todo (work (unpack t) (pages_of p) f h k)

-- a step that changes the tables alone: whatever the pages and the counts
abbrev pub Alone : List ℕ → List ℕ → ℕ → (Work real → Work real) → Type 0
Alone t t' f op = (p : List ℕ) (k : Counts) → Ready t p f k → Step t p t' p f k k op

-- a change of the files alone, as a change of the work
abbrev pub on_files : (Files ℕ → Files ℕ) → Work real → Work real
on_files g w = record { memory = w.memory; files = g w.files; pending = w.pending; taken = w.taken; copies = w.copies; marks = w.marks }

-- step 2, for the children of set s
abbrev pub settle_children : (ℕ → SetRecord) → ℕ → Work real → Work real
settle_children sets s = each (settle real (tree_of sets)) ((tree_of sets).children s)

-- child c's turn for page q, which resolves to e; must: it is a needed copy
abbrev pub give_as : Tree → Bool → Entry ℕ → ℕ → ℕ → Work real → Work real
give_as t must e q c w = cond (needs w.files c q) (supply real t must e c q w) w

-- the turns of set c and the sets behind it in its chain, n at most
abbrev pub give_chain : (ℕ → SetRecord) → Bool → Entry ℕ → ℕ → ℕ → ℕ → Work real → Work real
give_chain sets must e q n c = each (give_as (tree_of sets) must e q) (chain sets n c)

-- set s is in use, and c is its first child, or none
pub record FirstChild (sets : ℕ → SetRecord) (s c : ℕ) : Type 0 where
  pub used : (sets s).used ≡ true
  pub first : c ≡ (sets s).first_child

-- page q of set s is taken over by the heir, where there is one
abbrev pub hand_if : Tree → ℕ → ℕ → Option ℕ → Work real → Work real
hand_if t s q None w = w
hand_if t s q (Some c) w = hand_over real t s q c w

-- how the code gives pages
abbrev pub giving_of : How → Giving
giving_of Copied = copied
giving_of Handed = handed
giving_of Extra = extra

-- is a page so given dropped whole, and so handed over where the file's own map stores it
abbrev pub handed_by : How → Bool
handed_by Copied = false
handed_by Handed = true
handed_by Extra = false

-- is it a touched one
abbrev pub touched_by : How → Bool
touched_by Copied = true
touched_by Handed = true
touched_by Extra = false

-- step 4: the pages ps of set s are copied, then the pages ds handed over
abbrev pub give_both : (ℕ → SetRecord) → ℕ → List ℕ → List ℕ → Work real → Work real
give_both sets s ps ds w = give_all real (tree_of sets) handed s ds (give_all real (tree_of sets) copied s ps w)

-- step 4 of a write, and after it: the pages ps of set s are copied, then the extra pages es, each copy only if a block is free
abbrev pub give_groups : (ℕ → SetRecord) → ℕ → List ℕ → List ℕ → Work real → Work real
give_groups sets s ps es w = give_all real (tree_of sets) extra s es (give_all real (tree_of sets) copied s ps w)

-- what page q of file f resolves to in set s
abbrev pub shown : List ℕ → ℕ → ℕ → ℕ → Entry ℕ
shown t f s q = resolve (tree_of (unpack t).sets) ((unpack t).files f) s q

-- what pages q, q + 1 and on of set s resolve to, n of them, is kept
abbrev pub ShownKept : List Kept → List ℕ → ℕ → ℕ → ℕ → ℕ → Type 0
ShownKept l t f s q n = (x : ℕ) → q ≤ x → x < q + n → entries_of l x ≡ shown t f s x
