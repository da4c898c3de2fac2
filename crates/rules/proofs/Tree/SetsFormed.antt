-- The tests of well formed tables on sets say what SetsOk says, in both directions. Assumes nothing.
use mathlib.Core.Bool.{◌&&◌, Bool, false, not, true, true≢false, ◌||◌}
use mathlib.Core.List.{List, Memᴰ, ◌∷◌, []}
use mathlib.Core.Logic.{inl, inr, ◌⊎◌, ⊎_elim}
use mathlib.Core.Path.{ap, refl, subst, sym, ◌∙◌, ◌≡◌}
use Prim.Native.Nat.{◌<◌, suc, zero, ℕ, ◌≤◌}
use native.Mathlib.Omega.{arith}
use lib.Dec.{eqb, leb, ltb}
use lib.ListN.{length}
use borrow.Author.Tests.{eq-eqb, eqb-false, eqb-true, le-leb, le-ltb, leb-true, lt-ltb, ltb-false, ltb-true, ne_eqb, not-true}
use Rattle.base.specs.Logic.{and_both, and_left, and_right, or_right, same?, test?}
use Rattle.rules.proofs.Tree.Chains.{Follows, children_length, children_used, count_mem}
use Rattle.rules.proofs.Tree.SetsOk.{SetsOk, first_used, next_used, out_below, parent_below, set_level, set_once, used_below}
use Rattle.rules.proofs.Formed.Tests.{all_4, and_4, and_5, and_7, not_of, not_then, or_of, or_then, sets_at, sets_of}
use Rattle.rules.specs.Rules.{count_in}
use Rattle.rules.specs.State.{SetRecord, Tables, chain, children_of, unused_set}
use Rattle.rules.specs.WellFormed.{all_in, all_sets, chain_ends, chain_formed, link_formed, place_formed, root_formed, term_formed, terms_formed, tree_formed, zero_set}

-- every set of a list
in_at : (xs : List ℕ) (f : ℕ → Bool) → all_in xs f ≡ true → (x : ℕ) → Memᴰ x xs → f x ≡ true
unfolding all_in
in_at [] f h x m = elim m [ ]
in_at (y ∷ ys) f h x m =
    ⊎_elim (λ e. ap f e ∙ and_left (f y) (all_in ys f) h) (λ k. in_at ys f (and_right (f y) (all_in ys f) h) x k) (mathlib.Core.List.Memᴰ.cases_cons m)

in_of : (xs : List ℕ) (f : ℕ → Bool) → ((x : ℕ) → Memᴰ x xs → f x ≡ true) → all_in xs f ≡ true
unfolding all_in
in_of [] f h = refl
in_of (y ∷ ys) f h = and_both (f y) (all_in ys f) (h y (mathlib.Core.List.Memᴰ.head refl)) (in_of ys f (λ x m. h x (mathlib.Core.List.Memᴰ.tail m)))

-- the record of a set that is all zero
zero_set_law : (r : SetRecord) → r.used ≡ false → zero_set r ≡ true → r ≡ unused_set
zero_set_law r u h =
    let z = and_7 (not r.writeable) (eqb r.level 0) (eqb r.parent 0) (eqb r.first_child 0) (eqb r.next_sibling 0)
    (eqb r.term.first_day 0) (eqb r.term.end_day 0) h in
    λ i. record {
      used = u i;
      writeable = not-true r.writeable z.0 i;
      level = eqb-true r.level 0 z.1 i;
      parent = eqb-true r.parent 0 z.2 i;
      first_child = eqb-true r.first_child 0 z.3 i;
      next_sibling = eqb-true r.next_sibling 0 z.4 i;
      term = record { first_day = eqb-true r.term.first_day 0 z.5 i; end_day = eqb-true r.term.end_day 0 z.6 i };
    }

-- FROM THE TESTS
module _ (tb : Tables) where
  -- what a used set passes
  record Chained (s : ℕ) : Type 0 where
    first_link : link_formed tb (tb.sets s).first_child ≡ true
    next_link : link_formed tb (tb.sets s).next_sibling ≡ true
    ends : chain_ends tb 8 (tb.sets s).first_child ≡ true
    parents : (c : ℕ) → Memᴰ c (children_of tb.sets s) → (tb.sets c).parent ≡ s

  chained : (s : ℕ) → chain_formed tb s ≡ true → Chained s
  unfolding chain_formed
  chained s h =
      let r = and_4 (link_formed tb (tb.sets s).first_child) (link_formed tb (tb.sets s).next_sibling) (chain_ends tb 8 (tb.sets s).first_child) _ h in
      record {
        first_link = r.0;
        next_link = r.1;
        ends = r.2;
        parents = λ c m. eqb-true (tb.sets c).parent s (in_at (children_of tb.sets s) (λ c. eqb (tb.sets c).parent s) r.3 c m);
      }

  record Placed (c : ℕ) : Type 0 where
    listed : Memᴰ c (children_of tb.sets (tb.sets c).parent)
    rises : (tb.sets c).level ≡ suc (tb.sets (tb.sets c).parent).level
    most : (tb.sets c).level ≤ 5

  placed : (c : ℕ) → place_formed tb c ≡ true → Placed c
  unfolding place_formed
  placed c h =
      let s : ℕ = (tb.sets c).parent in
      let r = and_4 (ltb s 8) (eqb (count_in (children_of tb.sets s) (λ x. eqb c x)) 1) (eqb (tb.sets c).level (suc (tb.sets s).level)) (leb (tb.sets c).level 5) h in
      record { listed = count_mem c (children_of tb.sets s) (eqb-true _ 1 r.1); rises = eqb-true (tb.sets c).level _ r.2; most = leb-true (tb.sets c).level 5 r.3 }

  -- a link is none or a used set
  link_used : (k : ℕ) → link_formed tb k ≡ true → (k ≡ 8) ⊎ ((k < 8) × ((tb.sets k).used ≡ true))
  link_used k h =
      test? (eqb k 8) (λ e. inl (eqb-true k 8 e))
      (λ e. let r = or_then (eqb k 8) (ltb k 8 && (tb.sets k).used) h e in inr (ltb-true k 8 (and_left (ltb k 8) (tb.sets k).used r), and_right (ltb k 8) (tb.sets k).used r))

  module _ (next : (s : ℕ) → (tb.sets s).used ≡ true → link_formed tb (tb.sets s).next_sibling ≡ true) where
    ends_follows : (n k : ℕ) → link_formed tb k ≡ true → chain_ends tb n k ≡ true → Follows tb.sets (chain tb.sets n k) k
    unfolding chain chain_ends
    ends_follows zero k h e = ⊎_elim (λ q. q) (λ q. absurd (true≢false (sym (lt-ltb k 8 q.0) ∙ not-true (ltb k 8) e))) (link_used k h)
    ends_follows (suc n) k h e =
        ⊎_elim
        (λ q. rw (le-ltb k 8 (omega arith)) q)
        (λ q. let b = lt-ltb k 8 q.0 in
        let e' : chain_ends tb n (tb.sets k).next_sibling ≡ true = rw b at e in
        rw b (refl, q.0, ends_follows n (tb.sets k).next_sibling (next k q.1) e'))
        (link_used k h)

    chain_used : (n k : ℕ) → link_formed tb k ≡ true → (c : ℕ) → Memᴰ c (chain tb.sets n k) → (tb.sets c).used ≡ true
    unfolding chain
    chain_used zero k h c m = elim m [ ]
    chain_used (suc n) k h c m =
        ⊎_elim
        (λ q. let m' : Memᴰ c [] = rw (le-ltb k 8 (omega arith)) at m in elim m' [ ])
        (λ q. let m' : Memᴰ c (k ∷ chain tb.sets n (tb.sets k).next_sibling) = rw (lt-ltb k 8 q.0) at m in
        ⊎_elim (λ e. subst (λ x. (tb.sets x).used ≡ true) (sym e) q.1) (λ j. chain_used n (tb.sets k).next_sibling (next k q.1) c j) (mathlib.Core.List.Memᴰ.cases_cons m'))
        (link_used k h)

  module _ (out : (s : ℕ) → 8 ≤ s → tb.sets s ≡ unused_set) (formed : tree_formed tb ≡ true) (zeros : all_sets (λ s. (tb.sets s).used || zero_set (tb.sets s)) ≡ true)
      (terms : terms_formed tb ≡ true) where
    root_says : root_formed tb ≡ true
    unfolding tree_formed
    root_says = and_left (root_formed tb) _ formed

    root_is : ((tb.sets 0).used ≡ true) × ((tb.sets 0).writeable ≡ true) × ((tb.sets 0).level ≡ 0) × ((tb.sets 0).parent ≡ 8) × ((tb.sets 0).next_sibling ≡ 8)
    unfolding root_formed
    root_is =
        let r = and_5 (tb.sets 0).used (tb.sets 0).writeable (eqb (tb.sets 0).level 0) (eqb (tb.sets 0).parent 8) (eqb (tb.sets 0).next_sibling 8) root_says in
        (r.0, r.1, eqb-true _ 0 r.2, eqb-true _ 8 r.3, eqb-true _ 8 r.4)

    below : (s : ℕ) → (tb.sets s).used ≡ true → s < 8
    below = out_below tb.sets out

    passes : (s : ℕ) → (tb.sets s).used ≡ true → (chain_formed tb s && (eqb s 0 || place_formed tb s)) ≡ true
    unfolding tree_formed
    passes s u = not_then (tb.sets s).used _ (sets_at (λ s. not (tb.sets s).used || (chain_formed tb s && (eqb s 0 || place_formed tb s))) (and_right (root_formed tb) _ formed) s (below s u)) u

    chain_at : (s : ℕ) → (tb.sets s).used ≡ true → Chained s
    chain_at s u = chained s (and_left (chain_formed tb s) _ (passes s u))

    place_at : (s : ℕ) → (tb.sets s).used ≡ true → (s ≡ 0 → ⊥) → Placed s
    place_at s u n = placed s (or_then (eqb s 0) (place_formed tb s) (and_right (chain_formed tb s) _ (passes s u)) (ne_eqb s 0 n))

    blank_at : (s : ℕ) → (tb.sets s).used ≡ false → tb.sets s ≡ unused_set
    blank_at s u =
        test? (ltb s 8)
        (λ e. zero_set_law (tb.sets s) u (or_then (tb.sets s).used (zero_set (tb.sets s)) (sets_at (λ s. (tb.sets s).used || zero_set (tb.sets s)) zeros s (ltb-true s 8 e)) u))
        (λ e. out s (ltb-false s 8 e))

    link_at : (s : ℕ) → (tb.sets s).used ≡ true → link_formed tb (tb.sets s).next_sibling ≡ true
    link_at s u = (chain_at s u).next_link

    child_used : (s c : ℕ) → Memᴰ c (children_of tb.sets s) → (tb.sets c).used ≡ true
    unfolding children_of
    child_used s c m = let u = children_used tb.sets s c m in chain_used link_at 8 (tb.sets s).first_child (chain_at s u).first_link c (rw u at m)

    child_parent : (s c : ℕ) → Memᴰ c (children_of tb.sets s) → (tb.sets c).parent ≡ s
    child_parent s c m = (chain_at s (children_used tb.sets s c m)).parents c m

    child_place : (s c : ℕ) → Memᴰ c (children_of tb.sets s) → Placed c
    child_place s c m =
        let u = children_used tb.sets s c m in
        place_at c (child_used s c m) (λ e. let b = below s u in let q = root_is.3 in let p : (tb.sets 0).parent ≡ s = ap (λ x. (tb.sets x).parent) (sym e) ∙ child_parent s c m in omega arith)

    level_place : (s n : ℕ) → (tb.sets s).level ≡ suc n → Placed s
    level_place s n e =
        let u : (tb.sets s).used ≡ true = test? (tb.sets s).used (λ u. u) (λ u. let z = ap (λ (r : SetRecord). r.level) (blank_at s u) in absurd (omega arith)) in
        place_at s u (λ q. let z = root_is.2 in let p : (tb.sets s).level ≡ (tb.sets 0).level = ap (λ x. (tb.sets x).level) q in omega arith)

    pub sets_formed_law : SetsOk tb.sets
    unfolding children_of terms_formed
    sets_formed_law = record {
      root_used = root_is.0;
      root_writeable = root_is.1;
      root_level = root_is.2;
      root_parent = root_is.3;
      root_sibling = root_is.4;
      out = out;
      blank = blank_at;
      follows = λ s u. rw u (ends_follows link_at 8 (tb.sets s).first_child (chain_at s u).first_link (chain_at s u).ends);
      deep = λ s u n. let e = (place_at s u n).rises in omega arith;
      highest = λ s. test? (tb.sets s).used
          (λ u. same? s 0 (λ e. let z = root_is.2 in let p : (tb.sets s).level ≡ (tb.sets 0).level = ap (λ x. (tb.sets x).level) e in omega arith) (λ n. (place_at s u n).most))
          (λ u. let z = ap (λ (r : SetRecord). r.level) (blank_at s u) in omega arith);
      tree = record {
        lower = λ s n e. let p = (level_place s n e).rises in omega arith;
        kid_par = child_parent;
        kid_lvl = λ s c m. (child_place s c m).rises ∙ ap (λ x. suc (tb.sets x).level) (child_parent s c m);
        kid_used = child_used;
        above = λ s n e. children_used tb.sets (tb.sets s).parent s (level_place s n e).listed;
        child = λ s n e. (level_place s n e).listed;
      };
      terms = λ s u. not_then (tb.sets s).used _ (sets_at (λ s. not (tb.sets s).used || term_formed (tb.sets s).term) terms s (below s u)) u;
    }

  -- TO THE TESTS
  module _ (ok : SetsOk tb.sets) where
    used_link : (k : ℕ) → (k ≡ 8) ⊎ ((tb.sets k).used ≡ true) → link_formed tb k ≡ true
    used_link k (inl e) = rw e
    used_link k (inr u) = or_right (eqb k 8) _ (rw (lt-ltb k 8 (used_below tb.sets ok k u), u))

    follows_ends : (xs : List ℕ) (n k : ℕ) → length xs ≤ n → Follows tb.sets xs k → chain_ends tb n k ≡ true
    unfolding chain_ends
    follows_ends [] zero k l f = rw f
    follows_ends [] (suc n) k l f = rw f
    follows_ends (x ∷ xs) zero k l f = absurd (omega arith)
    follows_ends (x ∷ xs) (suc n) k l f = rw (f.0, lt-ltb x 8 f.1) (follows_ends xs n (tb.sets x).next_sibling (omega arith) f.2)

    chain_formed_law : (s : ℕ) → (tb.sets s).used ≡ true → chain_formed tb s ≡ true
    unfolding chain_formed
    chain_formed_law s u =
        let f = ok.follows s u in
        all_4 (link_formed tb (tb.sets s).first_child) (link_formed tb (tb.sets s).next_sibling) (chain_ends tb 8 (tb.sets s).first_child) _
        (used_link (tb.sets s).first_child (first_used tb.sets ok s u))
        (used_link (tb.sets s).next_sibling (next_used tb.sets ok s u))
        (follows_ends (children_of tb.sets s) 8 (tb.sets s).first_child (children_length tb.sets s) f)
        (in_of (children_of tb.sets s) (λ c. eqb (tb.sets c).parent s) (λ c m. eq-eqb (tb.sets c).parent s (ok.tree.kid_par s c m)))

    place_formed_law : (c : ℕ) → (tb.sets c).used ≡ true → (c ≡ 0 → ⊥) → place_formed tb c ≡ true
    unfolding place_formed
    place_formed_law c u n =
        let s : ℕ = (tb.sets c).parent in
        all_4 (ltb s 8) (eqb (count_in (children_of tb.sets s) (λ x. eqb c x)) 1) (eqb (tb.sets c).level (suc (tb.sets s).level)) (leb (tb.sets c).level 5)
        (lt-ltb s 8 (parent_below tb.sets ok c u n))
        (eq-eqb _ 1 (set_once tb.sets ok c u n))
        (eq-eqb (tb.sets c).level _ (set_level tb.sets ok c u n))
        (le-leb (tb.sets c).level 5 (ok.highest c))

    pub tree_formed_law : tree_formed tb ≡ true
    unfolding tree_formed root_formed
    tree_formed_law =
        and_both (root_formed tb) _
        (rw (ok.root_used, ok.root_writeable, ok.root_level, ok.root_parent, ok.root_sibling))
        (sets_of (λ s. not (tb.sets s).used || (chain_formed tb s && (eqb s 0 || place_formed tb s)))
        (λ s l. not_of (tb.sets s).used _ (λ u. and_both (chain_formed tb s) _ (chain_formed_law s u) (or_of (eqb s 0) (place_formed tb s) (λ e. place_formed_law s u (eqb-false s 0 e))))))

    pub zero_sets_formed : all_sets (λ s. (tb.sets s).used || zero_set (tb.sets s)) ≡ true
    zero_sets_formed = sets_of (λ s. (tb.sets s).used || zero_set (tb.sets s)) (λ s l. or_of (tb.sets s).used (zero_set (tb.sets s)) (λ u. rw (ok.blank s u)))

    pub terms_formed_law : terms_formed tb ≡ true
    unfolding terms_formed
    terms_formed_law = sets_of (λ s. not (tb.sets s).used || term_formed (tb.sets s).term) (λ s l. not_of (tb.sets s).used _ (ok.terms s))
