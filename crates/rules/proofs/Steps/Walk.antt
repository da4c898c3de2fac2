-- Walks up the parents: what changes none of them, what they see after a change, and the most maps that they look at. Assumes nothing.
use mathlib.Core.Bool.{true}
use mathlib.Core.List.{List, ◌∷◌, []}
use mathlib.Core.Option.{Option, none, some}
use mathlib.Core.Path.{ap, refl, subst, ◌∙◌, ◌≡◌}
use Prim.Native.Nat.{◌*◌, suc, zero, ℕ, ◌≤◌}
use native.Mathlib.Omega.{arith}
use Rattle.base.specs.Logic.{pick, same?, test?}
use Rattle.rules.specs.Calls.{read_looks}
use Rattle.rules.specs.Reading.{looks, looks_up, walk}
use Rattle.rules.specs.Rules.{count_in, sum_in, touched}
use Rattle.rules.specs.State.{Files, Tree, is_unmapped}

pick_eq : {Y : Type 0} (o : Option Y) (a b : Y) → (o ≡ none → a ≡ b) → pick o a ≡ pick o b
pick_eq none a b h = h refl
pick_eq (some v) a b h = refl

module _ {X Y : Type 0} (par : ℕ → ℕ) (look : X → Option Y) (d : Y) (col col' : ℕ → X) where
  -- A region of sets that is closed under going up where nothing is shown: what is walked there depends on the region only.
  module _ (Q : ℕ → Type 0) (same : (s : ℕ) → Q s → look (col' s) ≡ look (col s)) (up : (s : ℕ) → Q s → look (col s) ≡ none → Q (par s)) where
    pub walk_frame : (n s : ℕ) → Q s → walk par look d n col' s ≡ walk par look d n col s
    unfolding walk
    walk_frame zero s q = rw (same s q)
    walk_frame (suc n) s q = rw (same s q) (pick_eq (look (col s)) _ _ (λ e. walk_frame n (par s) (up s q e)))

  -- At one set c, where nothing was shown, what was walked there is entered: every walk gives what it gave.
  module _ (lvl : ℕ → ℕ) (lower : (s n : ℕ) → lvl s ≡ suc n → lvl (par s) ≡ n) (c m : ℕ) (at : lvl c ≡ suc m)
      (before : look (col c) ≡ none) (after : look (col' c) ≡ some (walk par look d m col (par c)))
      (others : (s : ℕ) → (c ≡ s → ⊥) → look (col' s) ≡ look (col s)) where
    walk_fill_at : (n : ℕ) → lvl c ≡ n → walk par look d n col' c ≡ walk par look d n col c
    unfolding walk
    walk_fill_at zero e = absurd (omega arith)
    walk_fill_at (suc n) e =
        let k : n ≡ m = omega arith in
        rw (k, after, before)

    pub walk_fill : (n s : ℕ) → lvl s ≡ n → walk par look d n col' s ≡ walk par look d n col s
    unfolding walk
    walk_fill zero s e = same? c s (λ q. subst (λ x. walk par look d zero col' x ≡ walk par look d zero col x) q (walk_fill_at zero (ap lvl q ∙ e))) (λ q. rw (others s q))
    walk_fill (suc n) s e =
        same? c s
        (λ q. subst (λ x. walk par look d (suc n) col' x ≡ walk par look d (suc n) col x) q (walk_fill_at (suc n) (ap lvl q ∙ e)))
        (λ q. rw (others s q) (pick_eq (look (col s)) _ _ (λ _. walk_fill n (par s) (lower s n e))))

-- The same with other parents: in the region, a set that shows nothing has the same parent in both.
module _ {X Y : Type 0} (par par' : ℕ → ℕ) (look : X → Option Y) (d : Y) (col col' : ℕ → X) (Q : ℕ → Type 0) (same : (s : ℕ) → Q s → look (col' s) ≡ look (col s))
    (links : (s : ℕ) → Q s → par' s ≡ par s) (up : (s : ℕ) → Q s → look (col s) ≡ none → Q (par s)) where
  pub walk_move : (n s : ℕ) → Q s → walk par' look d n col' s ≡ walk par look d n col s
  unfolding walk
  walk_move zero s q = rw (same s q)
  walk_move (suc n) s q = rw (same s q, links s q) (pick_eq (look (col s)) _ _ (λ e. walk_move n (par s) (up s q e)))

-- HOW MANY MAPS are looked at: for a page at most one more than there are parents
pub looks_up_most : {K : Type 0} (parent : ℕ → ℕ) (p n : ℕ) (files : Files K) (s : ℕ) → looks_up parent p n files s ≤ suc n
unfolding looks_up
looks_up_most parent p zero files s = omega arith
looks_up_most parent p (suc n) files s =
    let up = looks_up_most parent p n files (parent s) in
    test? (is_unmapped ((files s).map p)) (λ e. rw e (omega arith)) (λ e. rw e (omega arith))

-- a sum over a list, where no term is over b
sum_in_most : (xs : List ℕ) (b : ℕ) (g : ℕ → ℕ) → ((x : ℕ) → g x ≤ b) → sum_in xs g ≤ count_in xs (λ x. true) * b
unfolding sum_in count_in
sum_in_most [] b g h = omega arith
sum_in_most (x ∷ xs) b g h = let a = h x in let c = sum_in_most xs b g h in omega arith

-- LAW: "It also gives the maps looked at, at most pages read × (level + 1)."
pub read_looks_most : {K : Type 0} (t : Tree) (files : Files K) (s off n : ℕ) → read_looks t files s off n ≤ count_in (touched off n) (λ p. true) * suc (t.level s)
unfolding read_looks looks
read_looks_most t files s off n = sum_in_most (touched off n) (suc (t.level s)) (looks t files s) (λ p. looks_up_most t.parent p (t.level s) files s)
