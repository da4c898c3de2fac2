-- The rules of "Changing calls" (document 01), with "Delete hands its blocks to the copy", "Eight pages at a time" and "Marked files give their room back" (document 02,
-- Asks 2, 5 and 10), once, over any storage.
use Rattle.std.specs.Prelude.{◌&&◌, Bool, cond, false, not, true, ◌++◌, List, ◌∷◌, [], ◌%◌, ◌*◌, ◌+◌, ◌-◌, ◌/◌, max, min, suc, zero, ℕ, eqb, ltb, length}
use Rattle.base.specs.Count.{count}
use Rattle.base.specs.Update.{upd}
use Rattle.rules.specs.Reading.{needs, reaches, resolve, size_by_reading}
use Rattle.rules.specs.State.{Entry, File, Files, State, Tree, absent, absent_file, hole, is_stored, live, marked, own, page_bytes, page_count, set_count, stored, unmapped, virgin}
use Rattle.rules.specs.Storage.{Storage}

-- do f at each of a list in turn
unfoldable pub each : {A W : Type 0} → (A → W → W) → List A → W → W
each f [] w = w
each f (x ∷ xs) w = each f xs (f x w)

-- how many of a list pass
unfoldable pub count_in : List ℕ → (ℕ → Bool) → ℕ
count_in [] f = 0
count_in (x ∷ xs) f = cond (f x) 1 0 + count_in xs f

-- the sum of f over a list
unfoldable pub sum_in : List ℕ → (ℕ → ℕ) → ℕ
sum_in [] f = 0
sum_in (x ∷ xs) f = f x + sum_in xs f

-- the numbers from a on, n of them
unfoldable pub from : ℕ → ℕ → List ℕ
from a zero = []
from a (suc n) = a ∷ from (suc a) n

-- the pages that hold n bytes from offset off on: of a write "the pages that hold its bytes", of a read "each page holding a byte read"
unfoldable pub touched : ℕ → ℕ → List ℕ
touched off zero = []
touched off (suc n) = from (off / page_bytes) (suc ((off + n) / page_bytes - off / page_bytes))

-- Truncate to n of a file of z bytes, n below z.
-- "touched pages run from t divided by 512, rounded down, to the old last page": these are partPages and then droppedPages
unfoldable pub cut_pages : ℕ → ℕ → List ℕ
cut_pages n z = from (n / page_bytes) (suc ((z - 1) / page_bytes - n / page_bytes))

-- the page of n, where it stays stored; it resolves to e: "if t is no multiple of 512 and its page resolves to stored"
unfoldable pub kept_pages : {K : Type 0} → ℕ → Entry K → List ℕ
kept_pages n e = cond (not (eqb (n % page_bytes) 0) && is_stored e) (n / page_bytes ∷ []) []

-- the page of n, where n is no multiple of 512: "the part page of a truncate"
unfoldable pub part_pages : ℕ → List ℕ
part_pages n = cond (eqb (n % page_bytes) 0) [] (n / page_bytes ∷ [])

-- "any group size from 1 to 64". Any number is taken: 0 counts as 1; more than 64 comes to the same as 64, since a write ends at 32,768 at most.
abbrev pub group_size : ℕ → ℕ
group_size g = max 1 g

-- "aligned groups": the first page of the group of page p
abbrev pub group_first : ℕ → ℕ → ℕ
group_first g p = p / group_size g * group_size g

-- the page behind the group of page p; "the last group ending at page 63"
abbrev pub group_end : ℕ → ℕ → ℕ
group_end g p = min page_count (group_first g p + group_size g)

-- "the other pages of each touched group ..., ascending", of a write of n bytes from offset off on. The touched pages follow one another, from a to b: the
-- others are those before a in its group and those behind b in its group.
unfoldable pub extra_pages : ℕ → ℕ → ℕ → List ℕ
extra_pages g off zero = []
extra_pages g off (suc n) =
    let a : ℕ = off / page_bytes in
    let b : ℕ = (off + n) / page_bytes in
    from (group_first g a) (a - group_first g a) ++ from (suc b) (group_end g b - suc b)

-- "All other touched pages become holes in this map"
unfoldable pub dropped_pages : ℕ → ℕ → List ℕ
dropped_pages n z = cond (eqb (n % page_bytes) 0) (cut_pages n z) (from (suc (n / page_bytes)) ((z - 1) / page_bytes - n / page_bytes))

module _ {K : Type 0} where
  -- one entry of the map of the file in set c
  unfoldable pub put_entry : Files K → ℕ → ℕ → Entry K → Files K
  put_entry files c p e = upd files c (record { state = (files c).state; size = (files c).size; map = upd (files c).map p e })

  -- step 2 for one set: a virgin file "becomes own with the size it had by reading"
  unfoldable pub settle_as : State → Tree → Files K → ℕ → Files K
  settle_as absent t files c = files
  settle_as own t files c = files
  settle_as virgin t files c = upd files c (record { state = own; size = size_by_reading t files c; map = (files c).map })
  settle_as marked t files c = files

  unfoldable pub settle_file : Tree → ℕ → Files K → Files K
  settle_file t c files = settle_as (files c).state t files c

  -- what marking leaves of a file: "size 0 and all entries unmapped"
  abbrev pub marked_file : File K
  marked_file = record { state = marked; size = 0; map = λ p. unmapped }

  -- marking the file of set c, "and so on down", "for dependents too"
  unfoldable pub mark_down : Tree → Files K → ℕ → Files K
  mark_down t files c s = cond (reaches t files c s) marked_file (files s)

  -- 64 holes
  unfoldable pub holes : ℕ → Entry K
  holes p = cond (ltb p page_count) hole unmapped

-- How a page is given to the children that need it. copied: each gets a copy. handed, where the call drops the page whole: if it is stored in the
-- file's own map, the first of them takes it over and the others get copies. extra: each gets a copy if a block is free,
-- else the page stays unmapped there.
pub data Giving : Type 0 where
  copied handed extra : Giving

-- What a call works on: the memory, the files of its number, the blocks pending for pages of the writer from step 3 until they enter its map in step 5, the counts.
pub record Work (S : Storage) : Type 0 where
  pub memory : S.Memory
  pub files : Files S.Block
  pub pending : ℕ → Entry S.Block
  pub taken : ℕ
  pub copies : ℕ
  pub marks : ℕ

module _ (S : Storage) where
  -- the bytes of an entry that shows itself
  unfoldable pub page_of : S.Memory → Entry S.Block → S.Page
  page_of m unmapped = S.zeros
  page_of m hole = S.zeros
  page_of m (stored b) = S.get m b

  -- Step 1. "Own need is the touched pages not stored in this file's map."
  unfoldable pub own_need : ℕ → List ℕ → Files S.Block → ℕ
  own_need s ps files = count_in ps (λ p. not (is_stored ((files s).map p)))

  -- the block of an entry is free again
  unfoldable pub free_entry : Entry S.Block → S.Memory → S.Memory
  free_entry unmapped m = m
  free_entry hole m = m
  free_entry (stored b) m = S.release m b

  -- "frees the file's blocks"
  unfoldable pub free_map : (ℕ → Entry S.Block) → S.Memory → S.Memory
  free_map map m = each (λ p. free_entry (map p)) (from 0 page_count) m

module _ (S : Storage) (t : Tree) where
  abbrev pub with_files : Work S → Files S.Block → Work S
  with_files w fs = record { memory = w.memory; files = fs; pending = w.pending; taken = w.taken; copies = w.copies; marks = w.marks }

  -- Step 2. "A virgin file, and each virgin child, becomes own with the size it had by reading."
  unfoldable pub settle : ℕ → Work S → Work S
  settle c w = with_files w (settle_file t c w.files)

  -- Step 3, for one page. "Own blocks are taken, pages ascending; they enter the map in step 5."
  unfoldable pub take_own : ℕ → Work S → Work S
  take_own p w =
      let r : S.Block × S.Memory = S.take w.memory in
      record { memory = r.1; files = w.files; pending = upd w.pending p (stored r.0); taken = suc w.taken; copies = w.copies; marks = w.marks }

  unfoldable pub reserve_as : Entry S.Block → ℕ → Work S → Work S
  reserve_as unmapped p w = take_own p w
  reserve_as hole p w = take_own p w
  reserve_as (stored b) p w =
      record { memory = w.memory; files = w.files; pending = upd w.pending p (stored b); taken = w.taken; copies = w.copies; marks = w.marks }

  unfoldable pub reserve : ℕ → ℕ → Work S → Work S
  reserve s p w = reserve_as ((w.files s).map p) p w

  -- the blocks of the files of those sets that pass are free again
  unfoldable pub free_sets : (ℕ → Bool) → Files S.Block → S.Memory → S.Memory
  free_sets passes files m = each (λ x n. cond (passes x) (free_map S (files x).map n) n) (from 0 set_count) m

  -- Step 4, for one page and one child that needs it.
  -- "with none free, the child's file is marked"; the third count has those down the tree too. "Marking now frees its stored blocks at that moment, any handed over
  -- earlier in the same call among them, ... for dependents too": all that the files marked still have in their maps. So "A later copy in the same call may take
  -- these blocks".
  unfoldable pub mark : ℕ → Work S → Work S
  mark c w =
      record {
        memory = free_sets (reaches t w.files c) w.files w.memory;
        files = mark_down t w.files c;
        pending = w.pending;
        taken = w.taken;
        copies = w.copies;
        marks = w.marks + count set_count (reaches t w.files c);
      }

  -- "One resolving to stored is copied to a block taken"
  unfoldable pub copy : S.Block → ℕ → ℕ → Work S → Work S
  copy b c p w =
      let r : S.Block × S.Memory = S.take w.memory in
      let q : S.Block × S.Memory = S.put r.1 r.0 (S.get r.1 b) in
      record { memory = q.1; files = put_entry w.files c p (stored q.0); pending = w.pending; taken = w.taken; copies = suc w.copies; marks = w.marks }

  -- "a page resolving to a hole becomes a hole there". must: the page is touched, so that a copy of it is a needed copy; else it is an extra page, and "an
  -- extra page finding no free block stays unmapped, marks nothing and is not a needed copy". "An extra copy made counts in the second count", as any.
  unfoldable pub supply : Bool → Entry S.Block → ℕ → ℕ → Work S → Work S
  supply must unmapped c p w = w
  supply must hole c p w = with_files w (put_entry w.files c p hole)
  supply must (stored b) c p w = cond (eqb (S.free w.memory) 0) (cond must (mark c w) w) (copy b c p w)

  unfoldable pub give : Bool → ℕ → ℕ → ℕ → Work S → Work S
  give must s p c w = cond (needs w.files c p) (supply must (resolve t w.files s p) c p w) w

  -- "takes over the block itself": page p, stored in the map of set s, moves to the map of set c. "A block handed over counts as no copy, and the
  -- delete or truncate itself does not free it": in set s the page is a hole from now on.
  unfoldable pub hand_over : ℕ → ℕ → ℕ → Work S → Work S
  hand_over s p c w = with_files w (put_entry (put_entry w.files c p ((w.files s).map p)) s p hole)

  -- "the first child that needs it takes over the block itself. Other children needing it still get copies". The others have their turns before the
  -- block moves: that changes nothing, since neither c nor s depends on another child (the tally has the order of the sentence, and agrees).
  unfoldable pub hand : ℕ → ℕ → List ℕ → Work S → Work S
  hand s p [] w = w
  hand s p (c ∷ cs) w = cond (needs w.files c p) (hand_over s p c (each (give true s p) cs w)) (hand s p cs w)

  -- "for each child in order of making that needs it"; and "When delete, or truncate dropping a whole page, reaches a page stored in the file's own
  -- map", it is handed over. "Pages that the file only reads through its parent are copied as before, and so is the part page of a truncate."
  -- The other pages of a touched group are gone through "with the same copying".
  unfoldable pub give_page : Giving → ℕ → ℕ → Work S → Work S
  give_page copied s p w = each (give true s p) (t.children s) w
  give_page handed s p w = cond (is_stored ((w.files s).map p)) (hand s p (t.children s) w) (each (give true s p) (t.children s) w)
  give_page extra s p w = each (give false s p) (t.children s) w

  -- "For each touched page ascending", and so for each extra page. The part page of a truncate, which is copied, is the lowest.
  unfoldable pub give_all : Giving → ℕ → List ℕ → Work S → Work S
  give_all how s ps w = each (give_page how s) ps w

  -- Step 5, for one page. "Old bytes are carried to own pages, new bytes laid over": lay makes the new page of the old one.
  unfoldable pub enter_as : Entry S.Block → ℕ → ℕ → S.Page → Work S → Work S
  enter_as unmapped s p v w = w
  enter_as hole s p v w = w
  enter_as (stored b) s p v w =
      let q : S.Block × S.Memory = S.put w.memory b v in
      record { memory = q.1; files = put_entry w.files s p (stored q.0); pending = w.pending; taken = w.taken; copies = w.copies; marks = w.marks }

  unfoldable pub enter : ℕ → (ℕ → S.Page → S.Page) → ℕ → Work S → Work S
  enter s lay p w = enter_as (w.pending p) s p (lay p (page_of S w.memory (resolve t w.files s p))) w

  unfoldable pub resize : ℕ → ℕ → Work S → Work S
  resize s n w = with_files w (upd w.files s (record { state = own; size = n; map = (w.files s).map }))

  -- "become holes in this map, their blocks free"; a page handed over is a hole already
  unfoldable pub drop_page : ℕ → ℕ → Work S → Work S
  drop_page s p w =
      record { memory = free_entry S ((w.files s).map p) w.memory; files = put_entry w.files s p hole; pending = w.pending; taken = w.taken; copies = w.copies; marks = w.marks }

  -- A change of the file in set s, steps 2 to 5: of the touched pages, ps are copied to the children; ds, which are dropped whole, are handed over where
  -- the file's own map stores them; "After step 4 for the touched pages" the extra pages es have their turns; of ps, rs get new bytes by lay; ds become
  -- holes; the size is changed by resized.
  unfoldable pub change : ℕ → List ℕ → List ℕ → List ℕ → List ℕ → (ℕ → S.Page → S.Page) → (ℕ → ℕ) → Work S → Work S
  change s ps rs ds es lay resized w =
      let w₁ : Work S = each settle (s ∷ t.children s) w in
      let w₂ : Work S = each (reserve s) rs w₁ in
      let w₃ : Work S = give_all extra s es (give_all handed s ds (give_all copied s ps w₂)) in
      let w₄ : Work S = each (enter s lay) rs w₃ in
      let w₅ : Work S = each (drop_page s) ds w₄ in
      resize s (resized (w₅.files s).size) w₅

  -- Write of one byte or more, "by aligned groups" of g pages: "size raised to the write's end if larger".
  unfoldable pub write_file : ℕ → ℕ → ℕ → List ℕ → Work S → Work S
  write_file g s off bs w =
      let ps : List ℕ = touched off (length bs) in
      change s ps ps [] (extra_pages g off (length bs)) (S.over off bs) (λ n. max n (off + length bs)) w

  -- "At t equal to the size, nothing changes. Above it, step 2 and the new size only." Below it, the page of t "is zeroed from t on".
  unfoldable pub truncate_as : Bool → Bool → ℕ → ℕ → ℕ → Work S → Work S
  truncate_as true above s n z w = w
  truncate_as false true s n z w = change s [] [] [] [] (λ p v. v) (λ m. n) w
  truncate_as false false s n z w =
      change s (part_pages n) (kept_pages n (resolve t w.files s (n / page_bytes))) (dropped_pages n z) [] (λ p. S.cut (n % page_bytes)) (λ m. n) w

  unfoldable pub truncate_file : ℕ → ℕ → Work S → Work S
  truncate_file s n w = let z : ℕ = size_by_reading t w.files s in truncate_as (eqb n z) (ltb z n) s n z w

  -- "Own need is 1 if t is no multiple of 512 and its page resolves to stored but is not stored in this map, else 0."
  unfoldable pub truncate_need : ℕ → ℕ → Files S.Block → ℕ
  truncate_need s n files =
      cond (ltb n (size_by_reading t files s)) (own_need S s (kept_pages n (resolve t files s (n / page_bytes))) files) 0

  -- "frees the file's blocks", those still in its map, "leaves it absent"
  unfoldable pub erase_file : ℕ → Work S → Work S
  erase_file s w =
      record { memory = free_map S (w.files s).map w.memory; files = upd w.files s absent_file; pending = w.pending; taken = w.taken; copies = w.copies; marks = w.marks }

  -- "Delete does step 2 for the children and step 4 for all 64 pages, frees the file's blocks, leaves it absent. A marked file is only freed and made absent."
  -- In step 4 every page is dropped whole (Ask 2).
  unfoldable pub delete_as : Bool → ℕ → Work S → Work S
  delete_as true s w = erase_file s (give_all handed s (from 0 page_count) (each settle (t.children s) w))
  delete_as false s w = erase_file s w

  unfoldable pub delete_file : ℕ → Work S → Work S
  delete_file s w = delete_as (live (w.files s).state) s w
