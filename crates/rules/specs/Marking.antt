-- WHY A FILE BECOMES MARKED, judged at the turn of each needed copy. Document 01, "Marking" and "Demand 3"; document 02, Asks 2, 5 and 10.
-- Of the tally this reads the turn of a child (`child_turn`) and, for the pages before, the turns at a page (`at_page`): a page that a child needs
-- becomes a hole there, is taken over, or is copied to a free block; with none free the child's file is marked, and the blocks that it and its dependents held are free.
use Rattle.std.specs.Prelude.{◌&&◌, Bool, cond, false, not, true, ◌≡◌, ◌-◌, ◌<◌, ℕ, length}
use mathlib.Core.List.{◌++◌, List, Memᴰ, ◌∷◌, []}
use Rattle.rules.specs.Numbers.{Call, delete, make, truncate, write}
use Rattle.rules.specs.State.{Tree, is_marked, is_stored, live, page_count, stored, unmapped}
use Rattle.rules.specs.Tally.{Tally, TallyFiles, Turn, at_page, child_turn, each_child, each_page, holds_byte, kind_at, part_page, tally_needs, tally_size, tally_truncate_need, tally_write_need, truncate_touches}

-- "Marking a file marks every own or virgin file of its number in a child set that has any unmapped page, and so on down":
-- the file of set y is the one of set c, or it still depends on it
pub data MarkedDown (t : Tree) (fs : TallyFiles) (y : ℕ) : ℕ → Type 0 where
  mark_itself : {c : ℕ} → c ≡ y → MarkedDown t fs y c
  mark_below : {c : ℕ} (d p : ℕ) → Memᴰ d (t.children c) → live (fs d).state ≡ true → p < page_count → (fs d).map p ≡ unmapped → MarkedDown t fs y d → MarkedDown t fs y c

-- "A needed copy is step 4's, of a needed page resolving to stored; it finds none free if, at its turn, no block is free":
-- page p of the file in set s, for child c, where x is what its turn finds
pub record FindsNone (t : Tree) (s p c : ℕ) (x : Turn) : Type 0 where
  -- the child's file is own or virgin, and p is unmapped there
  pub alive : live (x.files c).state ≡ true
  pub needed : (x.files c).map p ≡ unmapped
  -- page p of set s resolves to stored
  pub copied : kind_at t x.files s p ≡ stored tt
  pub none : x.free ≡ 0

-- what the first turn of step 4 finds in a call that changes file f: the writer's own need is taken. Step 2 is left out: a turn looks
-- at which files are own or virgin, at maps and at the free blocks, and step 2 only makes virgin files own and gives them their size.
abbrev pub own_taken : Tally → ℕ → ℕ → Turn
own_taken ta f need = record { files = ta.files f; free = ta.free - need; copies = 0; marks = 0 }

-- the children behind the first that needs page p; none if no child needs it
unfoldable pub behind : ℕ → Turn → List ℕ → List ℕ
behind p x [] = []
behind p x (c ∷ cs) = cond (tally_needs x.files c p) cs (behind p x cs)

-- the children that have a turn at page p, where x is what the first turn there finds: all; but where the page is handed over, those behind the first
-- that needs it, who takes it over
unfoldable pub in_turn : Tree → ℕ → Bool → ℕ → Turn → List ℕ
in_turn t s hands p x = cond (hands && is_stored ((x.files s).map p)) (behind p x (t.children s)) (t.children s)

-- what the turn of a child at page p finds, where the first finds x: "that call's earlier copies being taken", at the pages below p, and at page p for
-- the children before it, and the blocks that earlier markings freed being free. (A page taken over takes no block, and is stored for the others as it was.)
unfoldable pub turn_before : Tree → ℕ → (ℕ → Bool) → (ℕ → Bool) → Turn → ℕ → List ℕ → Turn
turn_before t s touches hands x p earlier = each_child (child_turn t s p) earlier (each_page (at_page t s touches hands) p x)

-- A TURN that is a needed copy which finds none free, of a child of set s at a touched page; the file of set y is the child's, or still depends on it
pub record MarkingTurn (t : Tree) (s : ℕ) (touches hands : ℕ → Bool) (x : Turn) (y : ℕ) : Type 0 where
  pub page : ℕ
  pub child : ℕ
  pub earlier : List ℕ
  pub later : List ℕ
  pub under : page < page_count
  pub touched : touches page ≡ true
  pub order : in_turn t s (hands page) page (turn_before t s touches hands x page []) ≡ earlier ++ (child ∷ later)
  pub fails : FindsNone t s page child (turn_before t s touches hands x page earlier)
  pub reached : MarkedDown t (turn_before t s touches hands x page earlier).files y child

-- WHY FILE f OF SET y BECOMES MARKED in an accepted call c, where ta is the tally before it: a turn at a touched page (an extra page "marks nothing") of a
-- write, of a truncate to below the size, or of a delete of an own or virgin file; or its set is made from one where it is marked. No other call marks a file.
pub data BecomesMarked (ta : Tally) (c : Call) (f y : ℕ) : Type 0 where
  in_write : (g s off : ℕ) (bs : List ℕ) → c ≡ write g s f off bs
      → MarkingTurn ta.tree s (holds_byte off (length bs)) (λ p. false) (own_taken ta f (tally_write_need (ta.files f) s off (length bs))) y → BecomesMarked ta c f y
  in_truncate : (s n : ℕ) → c ≡ truncate s f n → n < tally_size ta.tree (ta.files f) s
      → MarkingTurn ta.tree s (truncate_touches n (tally_size ta.tree (ta.files f) s)) (λ p. not (part_page n p)) (own_taken ta f (tally_truncate_need ta.tree (ta.files f) s n)) y
      → BecomesMarked ta c f y
  in_delete : (s : ℕ) → c ≡ delete s f → live (ta.files f s).state ≡ true → MarkingTurn ta.tree s (λ p. true) (λ p. true) (own_taken ta f 0) y → BecomesMarked ta c f y
  in_make : (s : ℕ) (w : Bool) → c ≡ make s y w → is_marked (ta.files f s).state ≡ true → BecomesMarked ta c f y
