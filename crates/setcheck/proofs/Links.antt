-- A chain of sets, followed set by set. Assumes nothing.
use mathlib.Core.Bool.{◌&&◌, Bool, cond, false, true}
use mathlib.Core.List.{[], ◌∷◌}
use mathlib.Core.Path.{sym, ◌∙◌, ◌≡◌}
use Prim.Native.Nat.{◌+◌, ◌-◌, ◌<◌, suc, zero, ℕ, ◌≤◌}
use native.Mathlib.Omega.{arith}
use lib.Dec.{eqb, leb, ltb}
use borrow.Author.Tests.{eq-eqb, le-leb, le-ltb, lt-leb, lt-ltb, ltb-false, ltb-true, ne_eqb}
use Rattle.base.specs.Logic.{test?}
use Rattle.rules.proofs.Tree.Chains.{chain_more, chain_past, chain_zero}
use Rattle.rules.specs.Rules.{count_in}
use Rattle.rules.specs.State.{SetRecord, Tables, chain}
use Rattle.rules.specs.WellFormed.{all_in, chain_ends}

-- ---- does a chain end
module _ (tb : Tables) where
  pub ends_over : (n k : ℕ) → 8 ≤ k → true ≡ chain_ends tb n k
  unfolding chain_ends
  ends_over zero k h = rw (le-ltb k 8 h)
  ends_over (suc n) k h = rw (le-ltb k 8 h)

  pub ends_more : (n m k x : ℕ) → n ≡ suc m → k < 8 → x ≡ (tb.sets k).next_sibling → chain_ends tb n k ≡ chain_ends tb m x
  unfolding chain_ends
  ends_more n m k x h l e = rw (h, lt-ltb k 8 l, ← e)

  pub ends_last : (n k : ℕ) → n ≡ 0 → leb 8 k ≡ chain_ends tb n k
  unfolding chain_ends
  ends_last zero k e = test? (ltb k 8) (λ h. rw h (lt-leb 8 k (ltb-true k 8 h))) (λ h. rw h (le-leb 8 k (ltb-false k 8 h)))
  ends_last (suc n) k e = absurd (omega arith)

-- ---- a chain, set by set
module _ (sets : ℕ → SetRecord) where
  chain_next : (n m k : ℕ) → n ≡ suc m → k < 8 → chain sets n k ≡ k ∷ chain sets m (sets k).next_sibling
  chain_next n m k h l = let z : n - 1 ≡ m = omega arith in rw (← z) (chain_more sets n k (omega arith) l)

  -- do all have the parent s
  module _ (s : ℕ) where
    abbrev below : ℕ → ℕ → Bool
    below n k = all_in (chain sets n k) (λ c. eqb (sets c).parent s)

    below_empty : (n k : ℕ) → chain sets n k ≡ [] → true ≡ below n k
    unfolding all_in
    below_empty n k e = rw e

    below_cons : (n m k : ℕ) → n ≡ suc m → k < 8 → below n k ≡ (eqb (sets k).parent s && below m (sets k).next_sibling)
    unfolding all_in
    below_cons n m k h l = rw (chain_next n m k h l)

    pub below_over : (b : Bool) (n k : ℕ) → 8 ≤ k → b ≡ below n k → true ≡ b
    below_over b n k h e = below_empty n k (chain_past sets n k h) ∙ sym e

    pub below_done : (b : Bool) (n k : ℕ) → n ≡ 0 → b ≡ below n k → true ≡ b
    below_done b n k h e = below_empty n k (chain_zero sets n k h) ∙ sym e

    module _ (b : Bool) (n m k : ℕ) (r : SetRecord) (h : n ≡ suc m) (l : k < 8) (i : b ≡ below n k) (e : r ≡ sets k) where
      pub below_other : (r.parent ≡ s → ⊥) → false ≡ b
      below_other z =
          let q : below n k ≡ false = rw (below_cons n m k h l, ← e, ne_eqb r.parent s z) in
          sym (i ∙ q)

      pub below_more : r.parent ≡ s → b ≡ below m r.next_sibling
      below_more z =
          let q : below n k ≡ below m r.next_sibling = rw (below_cons n m k h l, ← e, eq-eqb r.parent s z) in
          i ∙ q

  -- how often c stands in it
  module _ (c : ℕ) where
    abbrev times : ℕ → ℕ → ℕ
    times n k = count_in (chain sets n k) (λ x. eqb c x)

    times_empty : (n k : ℕ) → chain sets n k ≡ [] → times n k ≡ 0
    unfolding count_in
    times_empty n k e = rw e

    times_cons : (n m k : ℕ) → n ≡ suc m → k < 8 → times n k ≡ cond (eqb c k) 1 0 + times m (sets k).next_sibling
    unfolding count_in
    times_cons n m k h l = rw (chain_next n m k h l)

    pub times_over : (a m n k : ℕ) → 8 ≤ k → a ≡ m + times n k → m ≡ a
    times_over a m n k h e = omega (arith, times_empty n k (chain_past sets n k h))

    pub times_done : (a m n k : ℕ) → n ≡ 0 → a ≡ m + times n k → m ≡ a
    times_done a m n k h e = omega (arith, times_empty n k (chain_zero sets n k h))

    pub times_more : (a m n o k d x : ℕ) → n ≡ suc o → k < 8 → a ≡ m + times n k → d ≡ cond (eqb c k) 1 0 → x ≡ (sets k).next_sibling
        → a ≡ m + d + times o x
    times_more a m n o k d x h l i e q =
        let z : times n k ≡ d + times o x = rw (times_cons n o k h l, e, q) in
        omega arith
