-- The turns of step 4 look at entries, at which files are own or virgin and at the free blocks alone. So step 2, which makes virgin files own, changes nothing in
-- who becomes marked. Assumes nothing.
use mathlib.Core.Bool.{◌&&◌, Bool, cond, not, ◌||◌}
use mathlib.Core.List.{List, ◌∷◌, []}
use mathlib.Core.Path.{ap, ap₂, fun_ext, refl, sym, ◌∙◌, ◌≡◌}
use Prim.Native.Nat.{◌-◌, suc, zero, ℕ}
use lib.Dec.{eqb}
use Rattle.base.specs.Count.{count, sum}
use Rattle.base.specs.Logic.{test?}
use Rattle.base.specs.Update.{upd, upd_keeps, upd_map}
use Rattle.rules.specs.Marking.{FindsNone, MarkedDown, MarkingTurn, behind, in_turn, mark_below, mark_itself, turn_before}
use Rattle.rules.specs.State.{State, Tree, absent, hole, is_stored, is_unmapped, is_virgin, live, marked, own, page_count, set_count, stored, unmapped, virgin}
use Rattle.rules.specs.Tally.{Kind, TallyFile, TallyFiles, any_of, any_unmapped, at_page, child_page, child_turn, copy_turn, depends_above, each_child, each_page, hand_turns, kind_at, kind_in, kind_over, mark_frees, marked_with, needed_copy, page_turns, reached_down, stored_pages, taken_over, tally_kind, tally_mark, tally_needs, tally_settle, tally_size, Turn}

-- the same entries, and own or virgin in the same sets
pub record Alike (fs gs : TallyFiles) : Type 0 where
  pub maps : (c : ℕ) → (fs c).map ≡ (gs c).map
  pub lives : (c : ℕ) → live (fs c).state ≡ live (gs c).state

pub alike_back : {fs gs : TallyFiles} → Alike fs gs → Alike gs fs
alike_back h = record { maps = λ c. sym (h.maps c); lives = λ c. sym (h.lives c) }

pub record AlikeTurn (x y : Turn) : Type 0 where
  pub files : Alike x.files y.files
  pub free : x.free ≡ y.free

module _ (t : Tree) (fs gs : TallyFiles) (h : Alike fs gs) where
  kind_in_law : (p n s : ℕ) → kind_in t fs p n s ≡ kind_in t gs p n s
  unfolding kind_in
  kind_in_law p zero s = ap (λ (m : ℕ → Kind). kind_over (m p) hole) (h.maps s)
  kind_in_law p (suc n) s = ap₂ (λ (m : ℕ → Kind) (k : Kind). kind_over (m p) k) (h.maps s) (kind_in_law p n (t.parent s))

  kind_same : (s p : ℕ) → kind_at t fs s p ≡ kind_at t gs s p
  unfolding kind_at
  kind_same s p = kind_in_law p (t.level s) s

  reached_same : (n c x : ℕ) → reached_down t fs n c x ≡ reached_down t gs n c x
  unfolding reached_down depends_above
  reached_same zero c x = refl
  reached_same (suc n) c x =
      ap (λ (g : ℕ → Bool). eqb c x || any_of (t.children c) g)
      (fun_ext (λ d. ap₂ (λ a b. a && b) (ap₂ (λ (b : Bool) (m : ℕ → Kind). b && any_unmapped t page_count m) (h.lives d) (h.maps d)) (reached_same n d x)))

  down_same : (y c : ℕ) → MarkedDown t fs y c → MarkedDown t gs y c
  down_same y c (mark_itself e) = mark_itself e
  down_same y c (mark_below d p m a l u r) =
      mark_below d p m (sym (h.lives d) ∙ a) l (ap (λ (z : ℕ → Kind). z p) (sym (h.maps d)) ∙ u) (down_same y d r)

-- marking, and one entry put
mark_map : (t : Tree) (fs : TallyFiles) (c x : ℕ) → (tally_mark t fs c x).map ≡ cond (marked_with t fs c x) (λ p. unmapped) (fs x).map
unfolding tally_mark
mark_map t fs c x = test? (marked_with t fs c x) (λ e. rw e) (λ e. rw e)

mark_live : (t : Tree) (fs : TallyFiles) (c x : ℕ) → live (tally_mark t fs c x).state ≡ (not (marked_with t fs c x) && live (fs x).state)
unfolding tally_mark
mark_live t fs c x = test? (marked_with t fs c x) (λ e. rw e) (λ e. rw e)

module _ (t : Tree) (fs gs : TallyFiles) (h : Alike fs gs) where
  mark_alike : (c : ℕ) → Alike (tally_mark t fs c) (tally_mark t gs c)
  mark_alike c = record {
    maps = λ x. mark_map t fs c x ∙ ap₂ (λ (b : Bool) (m : ℕ → Kind). cond b (λ p. unmapped) m) (reached_same t fs gs h set_count c x) (h.maps x) ∙ sym (mark_map t gs c x);
    lives = λ x. mark_live t fs c x ∙ ap₂ (λ a b. not a && b) (reached_same t fs gs h set_count c x) (h.lives x) ∙ sym (mark_live t gs c x);
  }

  -- marking frees as many blocks
  frees_same : (c : ℕ) → mark_frees t fs c ≡ mark_frees t gs c
  unfolding mark_frees stored_pages
  frees_same c =
      ap (λ (g : ℕ → ℕ). sum set_count g)
      (fun_ext (λ x. ap₂ (λ (b : Bool) (m : ℕ → Kind). cond b (count page_count (λ p. is_stored (m p))) 0) (reached_same t fs gs h set_count c x) (h.maps x)))

  put_alike : (c p : ℕ) (k : Kind) → Alike (tally_kind t c p k fs) (tally_kind t c p k gs)
  unfolding tally_kind
  put_alike c p k = record {
    maps = λ x. map_put fs x ∙ ap₂ (λ (m : ℕ → ℕ → Kind) (n : ℕ → Kind). upd m c (upd n p k) x) (fun_ext h.maps) (h.maps c) ∙ sym (map_put gs x);
    lives = λ x. live_put fs x ∙ h.lives x ∙ sym (live_put gs x);
  }
    where
      map_put : (fs : TallyFiles) (x : ℕ) → (upd fs c (record { state = (fs c).state; size = (fs c).size; map = upd (fs c).map p k }) x).map ≡ upd (λ x. (fs x).map) c (upd (fs c).map p k) x
      map_put fs x = upd_map (λ _ (z : TallyFile). z.map) fs c _ x

      live_put : (fs : TallyFiles) (x : ℕ) → live (upd fs c (record { state = (fs c).state; size = (fs c).size; map = upd (fs c).map p k }) x).state ≡ live (fs x).state
      live_put fs x = upd_keeps (λ (z : TallyFile). live z.state) fs c _ refl x

-- the turns
module _ (t : Tree) (s : ℕ) where
  copy_alike : (p c : ℕ) (x y : Turn) → AlikeTurn x y → AlikeTurn (needed_copy t p c x) (needed_copy t p c y)
  unfolding needed_copy
  copy_alike p c x y h =
      test? (eqb x.free 0)
      (λ e. rw (e, ap (λ n. eqb n 0) (sym h.free) ∙ e) (record { files = mark_alike t x.files y.files h.files c; free = frees_same t x.files y.files h.files c }))
      (λ e. rw (e, ap (λ n. eqb n 0) (sym h.free) ∙ e) (record { files = put_alike t x.files y.files h.files c p (stored tt); free = ap (λ n. n - 1) h.free }))

  page_alike : (k : Kind) (p c : ℕ) (x y : Turn) → AlikeTurn x y → AlikeTurn (child_page t k p c x) (child_page t k p c y)
  unfolding child_page
  page_alike unmapped p c x y h = h
  page_alike hole p c x y h = record { files = put_alike t x.files y.files h.files c p hole; free = h.free }
  page_alike (stored b) p c x y h = copy_alike p c x y h

  -- who needs a page
  needs_same : (p c : ℕ) (x y : Turn) → AlikeTurn x y → tally_needs x.files c p ≡ tally_needs y.files c p
  needs_same p c x y h = ap₂ (λ (b : Bool) (m : ℕ → Kind). b && is_unmapped (m p)) (h.files.lives c) (h.files.maps c)

  turn_alike : (p c : ℕ) (x y : Turn) → AlikeTurn x y → AlikeTurn (child_turn t s p c x) (child_turn t s p c y)
  unfolding child_turn
  turn_alike p c x y h =
      let e = needs_same p c x y h in
      let k = kind_same t x.files y.files h.files s p in
      test? (tally_needs x.files c p)
      (λ d. rw (d, sym e ∙ d, k) (page_alike (kind_at t y.files s p) p c x y h))
      (λ d. rw (d, sym e ∙ d) h)

  -- the copy for another child, at a page that is taken over
  other_alike : (p c : ℕ) (x y : Turn) → AlikeTurn x y → AlikeTurn (copy_turn t p c x) (copy_turn t p c y)
  unfolding copy_turn
  other_alike p c x y h =
      let e = needs_same p c x y h in
      test? (tally_needs x.files c p) (λ d. rw (d, sym e ∙ d) (copy_alike p c x y h)) (λ d. rw (d, sym e ∙ d) h)

  -- at each child
  each_alike : (f : ℕ → Turn → Turn) → ((c : ℕ) (x y : Turn) → AlikeTurn x y → AlikeTurn (f c x) (f c y)) → (cs : List ℕ) (x y : Turn) → AlikeTurn x y → AlikeTurn (each_child f cs x) (each_child f cs y)
  unfolding each_child
  each_alike f k [] x y h = h
  each_alike f k (c ∷ cs) x y h = each_alike f k cs _ _ (k c x y h)

  children_alike : (p : ℕ) (cs : List ℕ) (x y : Turn) → AlikeTurn x y → AlikeTurn (each_child (child_turn t s p) cs x) (each_child (child_turn t s p) cs y)
  children_alike p = each_alike (child_turn t s p) (turn_alike p)

  over_alike : (p c : ℕ) (x y : Turn) → AlikeTurn x y → AlikeTurn (taken_over t s p c x) (taken_over t s p c y)
  unfolding taken_over
  over_alike p c x y h = record { files = put_alike t _ _ (put_alike t x.files y.files h.files c p (stored tt)) s p hole; free = h.free }

  hand_alike : (p : ℕ) (cs : List ℕ) (x y : Turn) → AlikeTurn x y → AlikeTurn (hand_turns t s p cs x) (hand_turns t s p cs y)
  unfolding hand_turns
  hand_alike p [] x y h = h
  hand_alike p (c ∷ cs) x y h =
      let e = needs_same p c x y h in
      test? (tally_needs x.files c p)
      (λ d. rw (d, sym e ∙ d) (each_alike (copy_turn t p) (other_alike p) cs _ _ (over_alike p c x y h)))
      (λ d. rw (d, sym e ∙ d) (hand_alike p cs x y h))

  stored_same : (hands : Bool) (p : ℕ) (x y : Turn) → AlikeTurn x y → (hands && is_stored ((x.files s).map p)) ≡ (hands && is_stored ((y.files s).map p))
  stored_same hands p x y h = ap (λ (m : ℕ → Kind). hands && is_stored (m p)) (h.files.maps s)

  handed_alike : (hands : Bool) (p : ℕ) (x y : Turn) → AlikeTurn x y → AlikeTurn (page_turns t s hands p x) (page_turns t s hands p y)
  unfolding page_turns
  handed_alike hands p x y h =
      let e = stored_same hands p x y h in
      test? (hands && is_stored ((x.files s).map p))
      (λ d. rw (d, sym e ∙ d) (hand_alike p (t.children s) x y h))
      (λ d. rw (d, sym e ∙ d) (children_alike p (t.children s) x y h))

  pages_alike : (touches hands : ℕ → Bool) (n : ℕ) (x y : Turn) → AlikeTurn x y → AlikeTurn (each_page (at_page t s touches hands) n x) (each_page (at_page t s touches hands) n y)
  unfolding each_page
  pages_alike touches hands zero x y h = h
  pages_alike touches hands (suc n) x y h =
      let k = pages_alike touches hands n x y h in
      test? (touches n) (λ e. rw e (handed_alike (hands n) n _ _ k)) (λ e. rw e k)

  before_alike : (touches hands : ℕ → Bool) (x y : Turn) → AlikeTurn x y → (p : ℕ) (cs : List ℕ) → AlikeTurn (turn_before t s touches hands x p cs) (turn_before t s touches hands y p cs)
  unfolding turn_before
  before_alike touches hands x y h p cs = children_alike p cs _ _ (pages_alike touches hands p x y h)

  -- who has a turn
  behind_same : (p : ℕ) (cs : List ℕ) (x y : Turn) → AlikeTurn x y → behind p x cs ≡ behind p y cs
  unfolding behind
  behind_same p [] x y h = refl
  behind_same p (c ∷ cs) x y h = ap₂ (λ (b : Bool) (l : List ℕ). cond b cs l) (needs_same p c x y h) (behind_same p cs x y h)

  turn_same : (hands : Bool) (p : ℕ) (x y : Turn) → AlikeTurn x y → in_turn t s hands p x ≡ in_turn t s hands p y
  unfolding in_turn
  turn_same hands p x y h = ap₂ (λ (b : Bool) (l : List ℕ). cond b l (t.children s)) (stored_same hands p x y h) (behind_same p (t.children s) x y h)

  none_alike : (p c : ℕ) (x y : Turn) → AlikeTurn x y → FindsNone t s p c x → FindsNone t s p c y
  none_alike p c x y h r = record {
    alive = sym (h.files.lives c) ∙ r.alive;
    needed = ap (λ (m : ℕ → Kind). m p) (sym (h.files.maps c)) ∙ r.needed;
    copied = sym (kind_same t x.files y.files h.files s p) ∙ r.copied;
    none = sym h.free ∙ r.none;
  }

  -- A MARKING TURN of the one run is one of the other
  pub marking_alike : (touches hands : ℕ → Bool) (x y : Turn) → AlikeTurn x y → (z : ℕ) → MarkingTurn t s touches hands x z → MarkingTurn t s touches hands y z
  marking_alike touches hands x y h z r =
      let k = before_alike touches hands x y h r.page r.earlier in
      record {
        page = r.page;
        child = r.child;
        earlier = r.earlier;
        later = r.later;
        under = r.under;
        touched = r.touched;
        order = sym (turn_same (hands r.page) r.page _ _ (before_alike touches hands x y h r.page [])) ∙ r.order;
        fails = none_alike r.page r.child _ _ k r.fails;
        reached = down_same t _ _ k.files z r.child r.reached;
      }

-- STEP 2
settle_one : (t : Tree) (c : ℕ) (fs : TallyFiles) → Alike (tally_settle t c fs) fs
unfolding tally_settle
settle_one t c fs = go (fs c).state refl
  where
    go : (l : State) → (fs c).state ≡ l → Alike (cond (is_virgin l) (upd fs c (record { state = own; size = tally_size t fs c; map = (fs c).map })) fs) fs
    go absent e = record { maps = λ x. refl; lives = λ x. refl }
    go own e = record { maps = λ x. refl; lives = λ x. refl }
    go virgin e = record {
      maps = upd_keeps (λ (z : TallyFile). z.map) fs c _ refl;
      lives = upd_keeps (λ (z : TallyFile). live z.state) fs c _ (sym (ap live e));
    }
    go marked e = record { maps = λ x. refl; lives = λ x. refl }

pub settle_alike : (t : Tree) (cs : List ℕ) (fs : TallyFiles) → Alike (each_child (tally_settle t) cs fs) fs
unfolding each_child
settle_alike t [] fs = record { maps = λ x. refl; lives = λ x. refl }
settle_alike t (c ∷ cs) fs =
    let a = settle_alike t cs (tally_settle t c fs) in
    let b = settle_one t c fs in
    record { maps = λ x. a.maps x ∙ b.maps x; lives = λ x. a.lives x ∙ b.lives x }
