-- Which files depend on the file of a set, and what marking it and them does. Assumes nothing.
use mathlib.Core.Bool.{Bool, cond, false, true, true≢false}
use mathlib.Core.Logic.{inl, inr, ◌⊎◌, ⊎_elim}
use mathlib.Core.Path.{ap, refl, subst, sym, ◌∙◌, ◌≡◌}
use Prim.Native.Nat.{◌<◌, suc, zero, ℕ}
use native.Mathlib.Omega.{arith}
use lib.Dec.{eqb}
use borrow.Author.Tests.{eq-eqb, eqb-true}
use Rattle.base.specs.Logic.{and_left, or_right, or_right_false, same?, test?}
use Rattle.rules.proofs.Steps.States.{live_present, unmapped_is}
use Rattle.rules.specs.Reading.{dependent, depends_on, reaches, some_unmapped}
use Rattle.rules.specs.Rules.{mark_down, marked_file}
use Rattle.rules.specs.State.{Entry, File, Files, Tree, is_absent, is_unmapped, live, marked, unmapped}

module _ {K : Type 0} where
  -- an unmapped entry among the first n
  pub some_unmapped_law : (m : ℕ → Entry K) (n : ℕ) → some_unmapped n m ≡ true → (p : ℕ) × (p < n) × (m p ≡ unmapped)
  unfolding some_unmapped
  some_unmapped_law m zero h = absurd (true≢false (sym h))
  some_unmapped_law m (suc n) h =
      test? (is_unmapped (m n)) (λ e. (n, omega arith, unmapped_is (m n) e))
      (λ e. let r = some_unmapped_law m n (rw e at h) in (r.0, omega (arith, r.1), r.2))

  pub unmapped_some : (m : ℕ → Entry K) (p n : ℕ) → p < n → m p ≡ unmapped → some_unmapped n m ≡ true
  unfolding some_unmapped
  unmapped_some m p zero l u = absurd (omega arith)
  unmapped_some m p (suc n) l u = same? p n (λ e. rw (← e, u)) (λ d. or_right (is_unmapped (m n)) _ (unmapped_some m p n (omega arith) u))

  module _ (t : Tree) (files : Files K) (c : ℕ) where
    -- WHO IS REACHED from the file of set c: itself, and files that depend on the file above them
    pub reaches_self : (n : ℕ) → depends_on t files c n c ≡ true
    unfolding depends_on
    reaches_self zero = eq-eqb c c refl
    reaches_self (suc n) = rw (eq-eqb c c refl)

    pub reached_by : (n x : ℕ) → depends_on t files c n x ≡ true → (c ≡ x) ⊎ (dependent (files x) ≡ true)
    unfolding depends_on
    reached_by zero x h = inl (eqb-true c x h)
    reached_by (suc n) x h = test? (eqb c x) (λ e. inl (eqb-true c x e)) (λ e. inr (and_left (dependent (files x)) _ (rw e at h)))

    pub reaches_up : (x : ℕ) → t.level x ≡ suc (t.level (t.parent x)) → dependent (files x) ≡ true → reaches t files c x ≡ false → reaches t files c (t.parent x) ≡ false
    unfolding reaches depends_on
    reaches_up x e r h = let f = or_right_false (eqb c x) _ (rw e at h) in rw r at f

    -- only own and virgin files
    pub reached_live : live (files c).state ≡ true → (x : ℕ) → reaches t files c x ≡ true → live (files x).state ≡ true
    unfolding reaches dependent
    reached_live al x h = ⊎_elim (λ e. subst (λ y. live (files y).state ≡ true) e al) (λ d. and_left (live (files x).state) _ d) (reached_by (t.level x) x h)

    -- MARKED are those who are reached
    pub marked_by : (x : ℕ) (b : Bool) → reaches t files c x ≡ b → mark_down t files c x ≡ cond b marked_file (files x)
    unfolding mark_down
    marked_by x b h = ap (λ v. cond v marked_file (files x)) h

    -- no file comes or goes
    pub mark_presence : live (files c).state ≡ true → (x : ℕ) → is_absent (mark_down t files c x).state ≡ is_absent (files x).state
    mark_presence al x =
        test? (reaches t files c x)
        (λ e. ap (λ (y : File K). is_absent y.state) (marked_by x true e) ∙ sym (live_present (files x).state (reached_live al x e)))
        (λ e. ap (λ (y : File K). is_absent y.state) (marked_by x false e))

    -- who is own or virgin afterwards was not reached, and is as before
    pub mark_missed : (x : ℕ) → live (mark_down t files c x).state ≡ true → reaches t files c x ≡ false
    mark_missed x a = test? (reaches t files c x) (λ e. let z : (mark_down t files c x).state ≡ marked = ap (λ (y : File K). y.state) (marked_by x true e) in cc) (λ e. e)

    pub mark_same : (x : ℕ) → live (mark_down t files c x).state ≡ true → mark_down t files c x ≡ files x
    mark_same x a = marked_by x false (mark_missed x a)
