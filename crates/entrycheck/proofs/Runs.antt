-- Blocks in a row: how often they are named, and what a pass over them counts. Assumes nothing.
use mathlib.Core.Bool.{◌&&◌, Bool, false, not, true}
use mathlib.Core.Path.{ap, sym, ◌∙◌, ◌≡◌}
use Prim.Native.Nat.{◌+◌, ◌<◌, suc, zero, ℕ, ◌≤◌}
use native.Mathlib.Omega.{arith}
use lib.Dec.{eqb, ltb}
use borrow.Author.Tests.{eq-eqb, le-ltb, lt-ltb, ltb-false, ltb-true, ne_eqb}
use Rattle.base.specs.Count.{all, sum}
use Rattle.base.specs.Logic.{digit, same?, test?}
use Rattle.entrycheck.proofs.Counts.{Counts, block_counts, through_counts}
use Rattle.entrycheck.specs.Seeing.{Pass, see_named, through}
use Rattle.rules.specs.State.{stored}

-- is c one of b, .., b + n - 1
unfoldable pub in_run : ℕ → ℕ → ℕ → Bool
in_run b n c = not (ltb c b) && ltb c (b + n)

module _ (b n c : ℕ) where
  pub in_run_law : b ≤ c → c < b + n → in_run b n c ≡ true
  unfolding in_run
  in_run_law h k = rw (le-ltb c b h, lt-ltb c (b + n) k)

  below_run : c < b → in_run b n c ≡ false
  unfolding in_run
  below_run h = rw (lt-ltb c b h)

  pub above_run : b + n ≤ c → in_run b n c ≡ false
  unfolding in_run
  above_run h = rw (le-ltb c b (omega arith), le-ltb c (b + n) h)

  -- by cases, with the facts
  pub run? : {P : Type 0} → (b ≤ c → c < b + n → P) → ((b ≤ c → c < b + n → ⊥) → P) → P
  run? y o =
      test? (ltb c b)
      (λ e. let l = ltb-true c b e in o (λ h k. omega arith))
      (λ e. let l = ltb-false c b e in
      test? (ltb c (b + n))
      (λ d. y l (ltb-true c (b + n) d))
      (λ d. let g = ltb-false c (b + n) d in o (λ h k. omega arith)))

  pub not_in_run : (b ≤ c → c < b + n → ⊥) → in_run b n c ≡ false
  not_in_run h = test? (ltb c b) (λ e. below_run (ltb-true c b e)) (λ e. let l = ltb-false c b e in test? (ltb c (b + n)) (λ d. absurd (h l (ltb-true c (b + n) d))) (λ d. above_run (ltb-false c (b + n) d)))

-- LAW: a run names each of its blocks once
pub run_sum : (b n c : ℕ) → sum n (λ j. digit (eqb c (b + j))) ≡ digit (in_run b n c)
unfolding sum
run_sum b zero c = ap digit (sym (not_in_run b zero c (λ h k. omega arith)))
run_sum b (suc n) c =
    same? c (b + n)
    (λ e. let i : in_run b (suc n) c ≡ true = in_run_law b (suc n) c (omega arith) (omega arith) in
    let o : in_run b n c ≡ false = above_run b n c (omega arith) in
    let r = run_sum b n c in
    rw (eq-eqb c (b + n) e, i) (let q : sum n (λ j. digit (eqb c (b + j))) ≡ 0 = r ∙ ap digit o in omega arith))
    (λ e. rw (ne_eqb c (b + n) e) (let r = run_sum b n c in
    let q : digit (in_run b n c) ≡ digit (in_run b (suc n) c) =
    run? b n c (λ h k. ap digit (in_run_law b n c h k ∙ sym (in_run_law b (suc n) c h (omega arith)))) (λ h. ap digit (not_in_run b n c h ∙ sym (not_in_run b (suc n) c (λ x y. h x (omega arith))))) in
    omega arith))

-- the pass over the blocks b, .., b + n - 1
abbrev pub run_pass : ℕ → ℕ → ℕ → Pass
run_pass limit b n = through n (λ j. see_named limit (stored (b + j)))

-- LAW: what it counts
pub run_counts : (limit b n : ℕ) → Counts limit (run_pass limit b n) (all n (λ j. ltb (b + j) limit)) (λ c. sum n (λ j. digit (eqb c (b + j))))
run_counts limit b n = through_counts limit (λ j. see_named limit (stored (b + j))) (λ j. ltb (b + j) limit) (λ j c. digit (eqb c (b + j))) n (λ j l. block_counts limit (stored (b + j)))
