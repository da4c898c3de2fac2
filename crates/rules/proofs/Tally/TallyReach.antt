-- The tally's readings are the store's without blocks: the kind of a page, the maps looked at for it, the size of a file, who depends on the file above;
-- and the files that are marked with a file, found by going down through the children, are those that the store finds by going up the parents. Assumes nothing.
use mathlib.Core.Bool.{◌&&◌, Bool, cond, true, true≢false, ◌||◌}
use mathlib.Core.List.{List, Memᴰ, ◌∷◌, []}
use mathlib.Core.Path.{ap, ap₂, fun_ext, refl, subst, sym, ◌∙◌, ◌≡◌}
use Prim.Native.Nat.{◌<◌, suc, zero, ℕ, ◌≤◌}
use native.Mathlib.Omega.{arith}
use lib.Dec.{eqb, lit<}
use borrow.Author.Tests.{eq-eqb, eqb-true, ne_eqb}
use Rattle.base.specs.Count.{count, count_front, count_none, count_same}
use Rattle.base.specs.Logic.{and_both, and_left, and_right, or_right, pick, same_test, same?, test?}
use Rattle.rules.proofs.Steps.OneStep.{FilesOk, TreeOk}
use Rattle.rules.proofs.Steps.Reached.{reaches_self}
use Rattle.rules.specs.Reading.{dependent, depends_on, looks, looks_up, reaches, resolve, shown_entry, shown_size, size_by_reading, some_unmapped, walk}
use Rattle.rules.specs.Rules.{mark_down, marked_file}
use Rattle.rules.specs.State.{Files, State, Tree, absent, hole, is_unmapped, is_virgin, live, marked, own, set_count, stored, unmapped, virgin}
use Rattle.rules.specs.Tally.{Kind, TallyFile, TallyFiles, any_of, any_unmapped, depends_above, gone_to, kind_at, kind_in, kind_over, marked_with, reached_down, size_in, tally_looks, tally_mark, tally_size}

-- no virgin file stands at level 0
abbrev pub NoVirginRoot : {K : Type 0} → Tree → Files K → Type 0
NoVirginRoot t files = (s : ℕ) → (files s).state ≡ virgin → t.level s ≡ 0 → ⊥

pub no_virgin_root : {K : Type 0} (t : Tree) (files : Files K) → TreeOk t → FilesOk t files → NoVirginRoot t files
no_virgin_root t files ok k s v z =
    let m : Memᴰ s (t.children (t.parent s)) = k.listed s 0 (lit< tt) (ap live v) (k.bare s 0 (lit< tt) v) in
    omega (arith, ok.kid_lvl (t.parent s) s m)

over_pick : (e r : Kind) → kind_over e r ≡ pick (shown_entry e) r
over_pick unmapped r = refl
over_pick hole r = refl
over_pick (stored b) r = refl

module _ (t : Tree) (fs : TallyFiles) where
  -- kinds
  kind_walk : (p n s : ℕ) → kind_in t fs p n s ≡ walk t.parent (λ (x : TallyFile). shown_entry (x.map p)) hole n fs s
  unfolding kind_in walk
  kind_walk p zero s = over_pick ((fs s).map p) hole
  kind_walk p (suc n) s = rw (kind_walk p n (t.parent s)) (over_pick ((fs s).map p) _)

  pub kind_resolve : (s p : ℕ) → kind_at t fs s p ≡ resolve t fs s p
  unfolding kind_at resolve
  kind_resolve s p = kind_walk p (t.level s) s

  -- maps looked at: those gone to are the first ones, up to the first that is not unmapped
  looks_walk : (p n s : ℕ) → count (suc n) (λ d. gone_to t fs p d s) ≡ looks_up t.parent p n fs s
  unfolding gone_to looks_up
  looks_walk p zero s = omega (arith, count_front 0 (λ d. gone_to t fs p d s), count_none 0 (λ d. gone_to t fs p (suc d) s) (λ d l. absurd (omega arith)))
  looks_walk p (suc n) s =
      let above : count (suc n) (λ d. gone_to t fs p (suc d) s) ≡ cond (is_unmapped ((fs s).map p)) (looks_up t.parent p n fs (t.parent s)) 0 =
      test? (is_unmapped ((fs s).map p)) (λ e. rw e (looks_walk p n (t.parent s))) (λ e. rw e (count_none (suc n) _ (λ d l. refl))) in
      omega (arith, count_front (suc n) (λ d. gone_to t fs p d s), above)

  pub looks_reading : (s p : ℕ) → tally_looks t fs s p ≡ looks t fs s p
  unfolding tally_looks looks
  looks_reading s p = looks_walk p (t.level s) s

  -- sizes
  size_walk : TreeOk t → NoVirginRoot t fs → (n s : ℕ) → t.level s ≡ n →
      size_in t fs n s ≡ walk t.parent (λ (x : TallyFile). shown_size x.state x.size) 0 n fs s
  unfolding size_in walk
  size_walk ok nv zero s e = go (fs s).state refl
    where
      go : (l : State) → (fs s).state ≡ l → (fs s).size ≡ pick (shown_size l (fs s).size) 0
      go absent q = refl
      go own q = refl
      go virgin q = absurd (nv s q e)
      go marked q = refl
  size_walk ok nv (suc n) s e = rw (size_walk ok nv n (t.parent s) (ok.lower s n e)) (go (fs s).state _)
    where
      go : (l : State) (r : ℕ) → cond (is_virgin l) r (fs s).size ≡ pick (shown_size l (fs s).size) r
      go absent r = refl
      go own r = refl
      go virgin r = refl
      go marked r = refl

  pub size_reading : TreeOk t → NoVirginRoot t fs → (s : ℕ) → tally_size t fs s ≡ size_by_reading t fs s
  unfolding tally_size size_by_reading
  size_reading ok nv s = size_walk ok nv (t.level s) s refl

  -- dependence
  any_unmapped_law : (n : ℕ) (m : ℕ → Kind) → any_unmapped t n m ≡ some_unmapped n m
  unfolding any_unmapped some_unmapped
  any_unmapped_law zero m = refl
  any_unmapped_law (suc n) m = rw (any_unmapped_law n m)

  pub depends_above_law : (x : TallyFile) → depends_above t x ≡ dependent x
  unfolding depends_above dependent
  depends_above_law x = rw (any_unmapped_law 64 x.map)

-- a test that some member of a list passes
any_of_law : (xs : List ℕ) (f : ℕ → Bool) (x : ℕ) → Memᴰ x xs → f x ≡ true → any_of xs f ≡ true
unfolding any_of
any_of_law [] f x m h = elim m [ ]
any_of_law (y ∷ ys) f x (mathlib.Core.List.Memᴰ.head e) h = rw (← e, h)
any_of_law (y ∷ ys) f x (mathlib.Core.List.Memᴰ.tail m) h = or_right (f y) _ (any_of_law ys f x m h)

pub any_some : (xs : List ℕ) (f : ℕ → Bool) → any_of xs f ≡ true → (x : ℕ) × Memᴰ x xs × (f x ≡ true)
unfolding any_of
any_some [] f h = absurd (true≢false (sym h))
any_some (y ∷ ys) f h =
    test? (f y) (λ e. (y, mathlib.Core.List.Memᴰ.head refl, e))
    (λ e. let r = any_some ys f (rw e at h) in (r.0, mathlib.Core.List.Memᴰ.tail r.1, r.2))

-- tests that agree on the members
pub any_same : (xs : List ℕ) (f g : ℕ → Bool) → ((x : ℕ) → Memᴰ x xs → f x ≡ g x) → any_of xs f ≡ any_of xs g
unfolding any_of
any_same [] f g h = refl
any_same (y ∷ ys) f g h = ap₂ (λ a b. a || b) (h y (mathlib.Core.List.Memᴰ.head refl)) (any_same ys f g (λ x m. h x (mathlib.Core.List.Memᴰ.tail m)))

module _ (t : Tree) (ok : TreeOk t) (fs : TallyFiles) where
  -- UP: who depends on a child that depends on the file above it depends on that
  pub one_up : (c d : ℕ) → Memᴰ d (t.children c) → dependent (fs d) ≡ true → (n x : ℕ) → t.level x ≡ n → depends_on t fs d n x ≡ true → depends_on t fs c n x ≡ true
  unfolding depends_on
  one_up c d m r zero x e h =
      let q : t.level d ≡ t.level x = ap t.level (eqb-true d x h) in
      absurd (omega (arith, ok.kid_lvl c d m))
  one_up c d m r (suc n) x e h =
      or_right (eqb c x) _
      (test? (eqb d x)
      (λ q. subst (λ y. (dependent (fs y) && depends_on t fs c n (t.parent y)) ≡ true) (eqb-true d x q)
      (rw (r, ok.kid_par c d m) (reaches_self t fs c n)))
      (λ q. let h' : (dependent (fs x) && depends_on t fs d n (t.parent x)) ≡ true = rw q at h in
      and_both (dependent (fs x)) _ (and_left _ _ h') (one_up c d m r n (t.parent x) (ok.lower x n e) (and_right (dependent (fs x)) _ h'))))

  down_up : (n c x : ℕ) → reached_down t fs n c x ≡ true → reaches t fs c x ≡ true
  unfolding reached_down reaches
  down_up zero c x h = subst (λ y. depends_on t fs c (t.level y) y ≡ true) (eqb-true c x h) (reaches_self t fs c (t.level c))
  down_up (suc n) c x h =
      test? (eqb c x)
      (λ q. subst (λ y. depends_on t fs c (t.level y) y ≡ true) (eqb-true c x q) (reaches_self t fs c (t.level c)))
      (λ q. let r = any_some (t.children c) _ (rw q at h) in
      one_up c r.0 r.1 (sym (depends_above_law t fs (fs r.0)) ∙ and_left _ _ r.2) (t.level x) x refl
      (down_up n r.0 x (and_right (depends_above t (fs r.0)) _ r.2)))

  -- DOWN: from a set that is reached on to a child that depends on it
  self_down : (n c : ℕ) → reached_down t fs n c c ≡ true
  unfolding reached_down
  self_down zero c = eq-eqb c c refl
  self_down (suc n) c = rw (eq-eqb c c refl)

  step_down : (n c d y : ℕ) → Memᴰ d (t.children c) → depends_above t (fs d) ≡ true → reached_down t fs n d y ≡ true → reached_down t fs (suc n) c y ≡ true
  unfolding reached_down
  step_down n c d y m r h = or_right (eqb c y) _ (any_of_law (t.children c) _ d m (and_both _ _ r h))

  one_down : (n c x y : ℕ) → Memᴰ y (t.children x) → depends_above t (fs y) ≡ true → reached_down t fs n c x ≡ true → reached_down t fs (suc n) c y ≡ true
  unfolding reached_down
  one_down zero c x y m r h = step_down zero c y y (subst (λ z. Memᴰ y (t.children z)) (sym (eqb-true c x h)) m) r (self_down zero y)
  one_down (suc n) c x y m r h =
      test? (eqb c x)
      (λ q. step_down (suc n) c y y (subst (λ z. Memᴰ y (t.children z)) (sym (eqb-true c x q)) m) r (self_down (suc n) y))
      (λ q. let g = any_some (t.children c) _ (rw q at h) in
      step_down (suc n) c g.0 y g.1 (and_left _ _ g.2) (one_down n g.0 x y m r (and_right (depends_above t (fs g.0)) _ g.2)))

  up_down : (m n c x : ℕ) → t.level x ≡ m → m ≤ n → depends_on t fs c m x ≡ true → reached_down t fs n c x ≡ true
  unfolding depends_on
  up_down zero n c x e l h = subst (λ y. reached_down t fs n c y ≡ true) (eqb-true c x h) (self_down n c)
  up_down (suc m) zero c x e l h = absurd (omega arith)
  up_down (suc m) (suc n) c x e l h =
      test? (eqb c x)
      (λ q. subst (λ y. reached_down t fs (suc n) c y ≡ true) (eqb-true c x q) (self_down (suc n) c))
      (λ q. let g : (dependent (fs x) && depends_on t fs c m (t.parent x)) ≡ true = rw q at h in
      one_down n c (t.parent x) x (ok.child x m e) (depends_above_law t fs (fs x) ∙ and_left _ _ g)
      (up_down m n c (t.parent x) (ok.lower x m e) (omega arith) (and_right (dependent (fs x)) _ g)))

  -- who is marked with the file of set c stands below it
  pub reached_below : (n c x : ℕ) → (c ≡ x → ⊥) → reached_down t fs n c x ≡ true → t.level c < t.level x
  unfolding reached_down
  reached_below zero c x apart h = absurd (apart (eqb-true c x h))
  reached_below (suc n) c x apart h =
      let g = any_some (t.children c) _ (rw (ne_eqb c x apart) at h) in
      let l = ok.kid_lvl c g.0 g.1 in
      same? g.0 x
      (λ e. let e' : t.level g.0 ≡ t.level x = ap t.level e in omega arith)
      (λ e. let d = reached_below n g.0 x e (and_right (depends_above t (fs g.0)) _ g.2) in omega arith)

  -- GOING DOWN IS GOING UP: who is marked with the file of set c
  pub marked_reaches : (c x : ℕ) → t.level x ≤ set_count → marked_with t fs c x ≡ reaches t fs c x
  unfolding reaches
  marked_reaches c x l = same_test _ _ (down_up set_count c x) (up_down (t.level x) set_count c x refl l)

  module _ (shallow : (x : ℕ) → t.level x ≤ set_count) where
    -- the files after a marking, and the number of files marked
    pub mark_down_law : (c : ℕ) → tally_mark t fs c ≡ mark_down t fs c
    unfolding tally_mark mark_down
    mark_down_law c = fun_ext (λ x. ap (λ v. cond v marked_file (fs x)) (marked_reaches c x (shallow x)))

    pub mark_count : (c : ℕ) → count set_count (marked_with t fs c) ≡ count set_count (reaches t fs c)
    mark_count c = count_same set_count (reaches t fs c) (marked_with t fs c) (λ x l. marked_reaches c x (shallow x))
