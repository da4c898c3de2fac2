-- The tally: "the same calls under the rules above with sets, states, sizes, kinds and a count of free blocks (B at format), but no block numbers or bytes".
-- Document 01, "Demand 3", and document 02, Asks 2, 3, 5 and 10. It is stated on its own, in its own words, and shares no rule with the store but the table of
-- numbers: a rule of the store that marked, copied or counted too much or too little would show.
use Rattle.std.specs.Prelude.{◌&&◌, Bool, cond, false, not, true, ◌||◌, List, ◌∷◌, [], ◌%◌, ◌+◌, ◌-◌, ◌/◌, max, min, suc, zero, ℕ, eqb, leb, ltb, length}
use Rattle.base.specs.Count.{count, sum}
use Rattle.base.specs.Update.{upd}
use Rattle.rules.specs.Numbers.{Answer, Call, View, create, delete, format, make, no_counts, number_of, read, refusal, remove, tell_free, tell_size, truncate, write}
use Rattle.rules.specs.Plain.{Plain, plain_call}
use Rattle.rules.specs.State.{Entry, File, Tree, absent, file_count, hole, is_stored, is_unmapped, is_virgin, live, marked, own, page_bytes, page_count, set_count, stored, unmapped, virgin}
use Rattle.rules.specs.Trees.{add_child, root_tree, take_away}

-- "kinds": an entry without its block
abbrev pub Kind : Type 0
Kind = Entry (Unit {0})

abbrev pub TallyFile : Type 0
TallyFile = File (Unit {0})

-- the files of one number, by set
abbrev pub TallyFiles : Type 0
TallyFiles = ℕ → TallyFile

pub record Tally : Type 0 where
  pub tree : Tree
  pub files : ℕ → TallyFiles
  pub free : ℕ

unfoldable pub tally_format : ℕ → Tally
tally_format blocks = record { tree = root_tree; files = λ f s. record { state = absent; size = 0; map = λ p. unmapped }; free = blocks }

-- do f at pages 0, 1, .., n - 1 in turn
unfoldable pub each_page : {W : Type 0} → (ℕ → W → W) → ℕ → W → W
each_page f zero w = w
each_page f (suc n) w = f n (each_page f n w)

-- does one of a list pass
unfoldable pub any_of : List ℕ → (ℕ → Bool) → Bool
any_of [] f = false
any_of (x ∷ xs) f = f x || any_of xs f

-- do f at each child in order of making
unfoldable pub each_child : {W : Type 0} → (ℕ → W → W) → List ℕ → W → W
each_child f [] w = w
each_child f (c ∷ cs) w = each_child f cs (f c w)

-- the kind of an entry, or what the parent set has for the page
abbrev pub kind_over : Kind → Kind → Kind
kind_over unmapped above = above
kind_over hole above = hole
kind_over (stored b) above = stored tt

-- what step 4 and the extra pages go through: the files of one number, the free blocks, the copies made and the files marked so far in this call
pub record Turn : Type 0 where
  pub files : TallyFiles
  pub free : ℕ
  pub copies : ℕ
  pub marks : ℕ

-- the blocks of a file
unfoldable pub stored_pages : TallyFile → ℕ
stored_pages x = count page_count (λ p. is_stored (x.map p))

-- "A child needs page p when its file is own or virgin and p is unmapped there."
abbrev pub tally_needs : TallyFiles → ℕ → ℕ → Bool
tally_needs fs c p = live (fs c).state && is_unmapped ((fs c).map p)

module _ (t : Tree) where
  -- the kind that page p has in set s, n levels deep
  unfoldable pub kind_in : TallyFiles → ℕ → ℕ → ℕ → Kind
  kind_in fs p zero s = kind_over ((fs s).map p) hole
  kind_in fs p (suc n) s = kind_over ((fs s).map p) (kind_in fs p n (t.parent s))

  unfoldable pub kind_at : TallyFiles → ℕ → ℕ → Kind
  kind_at fs s p = kind_in fs p (t.level s) s

  -- is the map d parents up from set s looked at for page p: the own map (d is 0) always, another if the page is unmapped in the d maps before it, "ending at
  -- the first that is not unmapped"
  unfoldable pub gone_to : TallyFiles → ℕ → ℕ → ℕ → Bool
  gone_to fs p zero s = true
  gone_to fs p (suc d) s = is_unmapped ((fs s).map p) && gone_to fs p d (t.parent s)

  -- of the file's own map and the parents' maps up to set 0, how many are looked at: "one for the file's own map and one for each parent map gone to"
  unfoldable pub tally_looks : TallyFiles → ℕ → ℕ → ℕ
  tally_looks fs s p = count (suc (t.level s)) (λ d. gone_to fs p d s)

  -- the size of the file in set s, n levels deep: a virgin file has the size of the parent's
  unfoldable pub size_in : TallyFiles → ℕ → ℕ → ℕ
  size_in fs zero s = (fs s).size
  size_in fs (suc n) s = cond (is_virgin (fs s).state) (size_in fs n (t.parent s)) (fs s).size

  unfoldable pub tally_size : TallyFiles → ℕ → ℕ
  tally_size fs s = size_in fs (t.level s) s

  -- is one of the first n pages unmapped
  unfoldable pub any_unmapped : ℕ → (ℕ → Kind) → Bool
  any_unmapped zero m = false
  any_unmapped (suc n) m = is_unmapped (m n) || any_unmapped n m

  -- an own or virgin file with an unmapped page depends on the parent set's file
  unfoldable pub depends_above : TallyFile → Bool
  depends_above x = live x.state && any_unmapped page_count x.map

  -- is set x reached from set c by going down, n levels at most, to children whose files depend on the file above them
  unfoldable pub reached_down : TallyFiles → ℕ → ℕ → ℕ → Bool
  reached_down fs zero c x = eqb c x
  reached_down fs (suc n) c x = eqb c x || any_of (t.children c) (λ d. depends_above (fs d) && reached_down fs n d x)

  abbrev pub marked_with : TallyFiles → ℕ → ℕ → Bool
  marked_with fs c x = reached_down fs set_count c x

  -- the files with those marked that are reached from set c: marking "leaves size 0 and all entries unmapped, for dependents too"
  unfoldable pub tally_mark : TallyFiles → ℕ → TallyFiles
  tally_mark fs c x = cond (marked_with fs c x) (record { state = marked; size = 0; map = λ p. unmapped }) (fs x)

  -- the blocks that those held, which come free: "Marking now frees its stored blocks at that moment"
  unfoldable pub mark_frees : TallyFiles → ℕ → ℕ
  mark_frees fs c = sum set_count (λ x. cond (marked_with fs c x) (stored_pages (fs x)) 0)

  -- step 2: a virgin file becomes own with its size
  unfoldable pub tally_settle : ℕ → TallyFiles → TallyFiles
  tally_settle c fs = cond (is_virgin (fs c).state) (upd fs c (record { state = own; size = tally_size fs c; map = (fs c).map })) fs

  unfoldable pub tally_kind : ℕ → ℕ → Kind → TallyFiles → TallyFiles
  tally_kind c p k fs = upd fs c (record { state = (fs c).state; size = (fs c).size; map = upd (fs c).map p k })

  -- A NEEDED COPY, of page p for child c: it finds none free if, at its turn, no block is free. The blocks that marking frees are free from then on: "A later copy in
  -- the same call may take these blocks, so 'no free block' is judged at each copy's turn."
  unfoldable pub needed_copy : ℕ → ℕ → Turn → Turn
  needed_copy p c x =
      cond (eqb x.free 0)
      (record { files = tally_mark x.files c; free = mark_frees x.files c; copies = x.copies; marks = x.marks + count set_count (marked_with x.files c) })
      (record { files = tally_kind c p (stored tt) x.files; free = x.free - 1; copies = x.copies + 1; marks = x.marks })

  -- page p of child c, where page p of the file that is changed is of kind k
  unfoldable pub child_page : Kind → ℕ → ℕ → Turn → Turn
  child_page unmapped p c x = x
  child_page hole p c x = record { files = tally_kind c p hole x.files; free = x.free; copies = x.copies; marks = x.marks }
  child_page (stored b) p c x = needed_copy p c x

  -- one child's turn: does it need page p?
  unfoldable pub child_turn : ℕ → ℕ → ℕ → Turn → Turn
  child_turn s p c x = cond (tally_needs x.files c p) (child_page (kind_at x.files s p) p c x) x

  -- a child's turn at an extra page: as at a touched page, "with the same copying. An extra copy made counts in the second count"; but where a copy would
  -- find no free block nothing happens: the page "stays unmapped, marks nothing and is not a needed copy"
  unfoldable pub extra_turn : ℕ → ℕ → ℕ → Turn → Turn
  extra_turn s p c x = cond (is_stored (kind_at x.files s p) && eqb x.free 0) x (child_turn s p c x)

  -- page p, stored in the map of set s, is taken over by child c: "A block handed over counts as no copy", and no block is taken
  unfoldable pub taken_over : ℕ → ℕ → ℕ → Turn → Turn
  taken_over s p c x = record { files = tally_kind s p hole (tally_kind c p (stored tt) x.files); free = x.free; copies = x.copies; marks = x.marks }

  -- the turn of another child at a page that is taken over
  unfoldable pub copy_turn : ℕ → ℕ → Turn → Turn
  copy_turn p c x = cond (tally_needs x.files c p) (needed_copy p c x) x

  -- "the first child that needs it takes over the block itself. Other children needing it still get copies."
  unfoldable pub hand_turns : ℕ → ℕ → List ℕ → Turn → Turn
  hand_turns s p [] x = x
  hand_turns s p (c ∷ cs) x = cond (tally_needs x.files c p) (each_child (copy_turn p) cs (taken_over s p c x)) (hand_turns s p cs x)

  -- the turns at page p of the file in set s. hands: the call drops the page whole; then, "stored in the file's own map", it is handed over
  unfoldable pub page_turns : ℕ → Bool → ℕ → Turn → Turn
  page_turns s hands p x = cond (hands && is_stored ((x.files s).map p)) (hand_turns s p (t.children s) x) (each_child (child_turn s p) (t.children s) x)

  -- the same, if the call touches the page
  abbrev pub at_page : ℕ → (ℕ → Bool) → (ℕ → Bool) → ℕ → Turn → Turn
  at_page s touches hands p x = cond (touches p) (page_turns s (hands p) p x) x

  -- step 4 for the touched pages below 64, of the file in set s; hands tells which are dropped whole
  unfoldable pub tally_give : ℕ → (ℕ → Bool) → (ℕ → Bool) → Turn → Turn
  tally_give s touches hands x = each_page (at_page s touches hands) page_count x

  -- "After step 4 for the touched pages, the other pages ... are gone through, ascending, children in order of making": the turns at the extra pages below
  -- 64, of the file in set s
  unfoldable pub tally_extra : ℕ → (ℕ → Bool) → Turn → Turn
  tally_extra s extras x = each_page (λ p y. cond (extras p) (each_child (extra_turn s p) (t.children s) y) y) page_count x

-- does page p hold one of the n bytes from off on: of a write "the pages that hold its bytes", of a read "each page holding a byte read"
unfoldable pub holds_byte : ℕ → ℕ → ℕ → Bool
holds_byte off n p = not (eqb n 0) && leb (off / page_bytes) p && leb p ((off + n - 1) / page_bytes)

-- does one of the pages below n pass
unfoldable pub any_page : ℕ → (ℕ → Bool) → Bool
any_page zero f = false
any_page (suc n) f = f n || any_page n f

-- "the other pages of each touched group": is page p not touched by a write of n bytes from off on, but in the same group of g pages (0 counts as 1) as a
-- page that is
unfoldable pub is_extra : ℕ → ℕ → ℕ → ℕ → Bool
is_extra g off n p = not (holds_byte off n p) && any_page page_count (λ q. holds_byte off n q && eqb (p / max 1 g) (q / max 1 g))

-- does a truncate from z to n bytes touch page p
unfoldable pub truncate_touches : ℕ → ℕ → ℕ → Bool
truncate_touches n z p = leb (n / page_bytes) p && leb p ((z - 1) / page_bytes)

-- the page in which a truncate to n ends, where n is no multiple of 512
unfoldable pub part_page : ℕ → ℕ → Bool
part_page n p = not (eqb (n % page_bytes) 0) && eqb p (n / page_bytes)

unfoldable pub tally_write_need : TallyFiles → ℕ → ℕ → ℕ → ℕ
tally_write_need fs s off n = count page_count (λ p. holds_byte off n p && not (is_stored ((fs s).map p)))

unfoldable pub tally_truncate_need : Tree → TallyFiles → ℕ → ℕ → ℕ
tally_truncate_need t fs s n =
    cond (ltb n (tally_size t fs s) && not (eqb (n % page_bytes) 0) && is_stored (kind_at t fs s (n / page_bytes)) && not (is_stored ((fs s).map (n / page_bytes)))) 1 0

pub record TallyResult : Type 0 where
  pub answer : Answer
  pub tally : Tally

-- Steps 2 to 4 of a call that changes the file in set s: virgin files of the sets cs become own, taken blocks are taken, then the children have their turns.
unfoldable pub tally_turns : Tally → ℕ → ℕ → List ℕ → ℕ → (ℕ → Bool) → (ℕ → Bool) → Turn
tally_turns ta f s cs taken touches hands =
    tally_give ta.tree s touches hands (record { files = each_child (tally_settle ta.tree) cs (ta.files f); free = ta.free - taken; copies = 0; marks = 0 })

-- what the call leaves: the file in set s is y, and released blocks are free again
unfoldable pub tally_leaves : Tally → ℕ → ℕ → ℕ → Turn → TallyFile → ℕ → TallyResult
tally_leaves ta f s taken x y released = record {
  answer = record { number = 0; first = taken; second = x.copies; third = x.marks };
  tally = record { tree = ta.tree; files = upd ta.files f (upd x.files s y); free = x.free + released };
}

-- a write of n bytes, n at least 1, by groups of g pages
unfoldable pub tally_write : ℕ → ℕ → ℕ → ℕ → ℕ → Tally → TallyResult
tally_write g s f off n ta =
    let taken : ℕ = tally_write_need (ta.files f) s off n in
    let x₄ : Turn = tally_turns ta f s (s ∷ ta.tree.children s) taken (holds_byte off n) (λ p. false) in
    let x : Turn = tally_extra ta.tree s (is_extra g off n) x₄ in
    tally_leaves ta f s taken x
    (record { state = own; size = max (x.files s).size (off + n); map = λ p. cond (ltb p page_count && holds_byte off n p) (stored tt) ((x.files s).map p) })
    0

-- the kinds of a file of z bytes after a truncate to n: k is the kind of the page in which it ends
unfoldable pub cut_kinds : ℕ → ℕ → Kind → (ℕ → Kind) → ℕ → Kind
cut_kinds n z k m p =
    cond (ltb p page_count && truncate_touches n z p) (cond (part_page n p) (cond (is_stored k) (stored tt) (m p)) hole) (m p)

-- released are the blocks of pages dropped that are still in the map after the turns; one handed over is there no more
unfoldable pub tally_cut : ℕ → ℕ → ℕ → ℕ → Tally → TallyResult
tally_cut s f n z ta =
    let taken : ℕ = tally_truncate_need ta.tree (ta.files f) s n in
    let x : Turn = tally_turns ta f s (s ∷ ta.tree.children s) taken (truncate_touches n z) (λ p. not (part_page n p)) in
    tally_leaves ta f s taken x
    (record { state = own; size = n; map = cut_kinds n z (kind_at ta.tree (ta.files f) s (n / page_bytes)) (x.files s).map })
    (count page_count (λ p. truncate_touches n z p && not (part_page n p) && is_stored ((x.files s).map p)))

-- "At t equal to the size, nothing changes. Above it, step 2 and the new size only."
unfoldable pub tally_grow : ℕ → ℕ → ℕ → Tally → TallyResult
tally_grow s f n ta =
    let x : Turn = tally_turns ta f s (s ∷ ta.tree.children s) 0 (λ p. false) (λ p. false) in
    tally_leaves ta f s 0 x (record { state = own; size = n; map = (x.files s).map }) 0

unfoldable pub tally_truncate : ℕ → ℕ → ℕ → Tally → TallyResult
tally_truncate s f n ta =
    let z : ℕ = tally_size ta.tree (ta.files f) s in
    cond (eqb n z) (record { answer = no_counts; tally = ta }) (cond (ltb z n) (tally_grow s f n ta) (tally_cut s f n z ta))

-- released are all blocks still in the map after the turns; the children of a marked file have no turns
unfoldable pub tally_delete : ℕ → ℕ → Tally → TallyResult
tally_delete s f ta =
    let x : Turn = tally_turns ta f s (cond (live (ta.files f s).state) (ta.tree.children s) []) 0 (λ p. live (ta.files f s).state) (λ p. true) in
    tally_leaves ta f s 0 x (record { state = absent; size = 0; map = λ p. unmapped }) (stored_pages (x.files s))

-- a file of a set that is made: "own and virgin files become virgin in it, marked ones marked"
unfoldable pub tally_child : TallyFile → TallyFile
tally_child x = record { state = cond (live x.state) virgin x.state; size = 0; map = λ p. unmapped }

unfoldable pub tally_told : ℕ → Tally → TallyResult
tally_told n ta = record { answer = record { number = 0; first = n; second = 0; third = 0 }; tally = ta }

-- n bytes are read from off on: "For each page holding a byte read", the maps looked at
unfoldable pub tally_read : ℕ → ℕ → ℕ → ℕ → Tally → TallyResult
tally_read s f off n ta = record {
  answer = record { number = 0; first = n; second = sum page_count (λ p. cond (holds_byte off n p) (tally_looks ta.tree (ta.files f) s p) 0); third = 0 };
  tally = ta;
}

-- AN ACCEPTED CALL, on a store of B blocks
unfoldable pub tally_call : ℕ → Call → Tally → TallyResult
tally_call blocks format ta = tally_told 0 (tally_format blocks)
tally_call blocks (create s f) ta =
    tally_told 0
    (record {
      tree = ta.tree;
      free = ta.free;
      files = upd ta.files f (upd (ta.files f) s (record { state = own; size = 0; map = λ p. cond (ltb p page_count) hole unmapped }));
    })
tally_call blocks (write g s f off []) ta = tally_told 0 ta
tally_call blocks (write g s f off (x ∷ bs)) ta = tally_write g s f off (length (x ∷ bs)) ta
tally_call blocks (read s f off buffer) ta = tally_read s f off (min (length buffer) (tally_size ta.tree (ta.files f) s - off)) ta
tally_call blocks (truncate s f n) ta = tally_truncate s f n ta
tally_call blocks (delete s f) ta = tally_delete s f ta
tally_call blocks (make s c w) ta =
    tally_told 0 (record { tree = add_child ta.tree s c w; files = λ f. upd (ta.files f) c (tally_child (ta.files f s)); free = ta.free })
tally_call blocks (remove s) ta =
    tally_told 0
    (record {
      tree = take_away ta.tree s;
      files = λ f. upd (ta.files f) s (record { state = absent; size = 0; map = λ p. unmapped });
      free = ta.free + sum file_count (λ f. stored_pages (ta.files f s));
    })
tally_call blocks (tell_size s f) ta = tally_told (tally_size ta.tree (ta.files f) s) ta
tally_call blocks tell_free ta = tally_told ta.free ta

-- "the table of numbers, judged on it [the plain store] and the tally": sets by the plain store, files and blocks by the tally
abbrev pub judged : Plain → Tally → View
judged pl ta = record {
  formed = true;
  formats = true;
  tree = pl.tree;
  state = λ f s. (ta.files f s).state;
  free = ta.free;
  write_need = λ s f off n. tally_write_need (ta.files f) s off n;
  truncate_need = λ s f n. tally_truncate_need ta.tree (ta.files f) s n;
}

-- plain store and tally together, fed the calls' arguments alone
pub record Both : Type 0 where
  pub answer : Answer
  pub plain : Plain
  pub tally : Tally

unfoldable pub both_as : ℕ → ℕ → Call → Plain → Tally → Both
both_as zero blocks c pl ta = let r : TallyResult = tally_call blocks c ta in record { answer = r.answer; plain = plain_call c pl; tally = r.tally }
both_as (suc n) blocks c pl ta = record { answer = refusal (suc n); plain = pl; tally = ta }

unfoldable pub both_step : ℕ → Call → Plain → Tally → Both
both_step blocks c pl ta = both_as (number_of (judged pl ta) c) blocks c pl ta
