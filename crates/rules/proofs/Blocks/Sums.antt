-- Sums of numbers below a bound, and sums over three numbers: one term, two terms, and terms that are not zero. Assumes nothing.
use mathlib.Core.Bool.{Bool, cond}
use mathlib.Core.Path.{ap, ap₂, refl, sym, ◌∙◌, ◌≡◌}
use Prim.Native.Nat.{◌*◌, ◌+◌, ◌<◌, suc, zero, ℕ, ◌≤◌}
use native.Mathlib.Nat.{zero-add}
use native.Mathlib.Omega.{arith}
use Rattle.base.specs.Count.{count, sum}
use Rattle.base.specs.Logic.{same?}

pub sum_zero : (n : ℕ) (g : ℕ → ℕ) → ((x : ℕ) → x < n → g x ≡ 0) → sum n g ≡ 0
unfolding sum
sum_zero zero g h = refl
sum_zero (suc n) g h = let a = h n (omega arith) in let b = sum_zero n g (λ x l. h x (omega arith)) in omega arith

pub sum_same : (n : ℕ) (g g' : ℕ → ℕ) → ((x : ℕ) → x < n → g x ≡ g' x) → sum n g ≡ sum n g'
unfolding sum
sum_same zero g g' h = refl
sum_same (suc n) g g' h = let a = h n (omega arith) in let b = sum_same n g g' (λ x l. h x (omega arith)) in omega arith

-- a sum of sums
pub sum_plus : (n : ℕ) (g h : ℕ → ℕ) → sum n (λ x. g x + h x) ≡ sum n g + sum n h
unfolding sum
sum_plus zero g h = refl
sum_plus (suc n) g h = let a = sum_plus n g h in omega arith

-- a sum in two parts
sum_split : (k n : ℕ) (g : ℕ → ℕ) → sum (k + n) g ≡ sum n g + sum k (λ j. g (n + j))
unfolding sum
sum_split zero n g = let e = ap (λ m. sum m g) (zero-add n) in omega arith
sum_split (suc k) n g =
    let q : suc k + n ≡ suc (k + n) = omega arith in
    let c : k + n ≡ n + k = omega arith in
    let e = ap (λ m. sum m g) q in
    let d = ap g c in
    omega (arith, sum_split k n g)

sum_more : (n : ℕ) (g : ℕ → ℕ) → sum (suc n) g ≡ g n + sum n g
unfolding sum
sum_more n g = refl

-- LAW: a sum in rows of k
pub sum_rows : (k a : ℕ) (g : ℕ → ℕ) → sum (a * k) g ≡ sum a (λ s. sum k (λ f. g (s * k + f)))
unfolding sum
sum_rows k zero g = let q : 0 * k ≡ 0 = omega arith in ap (λ m. sum m g) q
sum_rows k (suc a) g = last (sum_rows k a g)
  where
    last : sum (a * k) g ≡ sum a (λ s. sum k (λ f. g (s * k + f))) → sum (suc a * k) g ≡ sum (suc a) (λ s. sum k (λ f. g (s * k + f)))
    last h =
        let q : suc a * k ≡ k + a * k = omega arith in
        let e = ap (λ m. sum m g) q in
        let d = sum_split k (a * k) g in
        let b = sum_more a (λ s. sum k (λ f. g (s * k + f))) in
        omega arith

-- a term is at most the sum
sum_term : (n : ℕ) (g : ℕ → ℕ) (i : ℕ) → i < n → g i ≤ sum n g
unfolding sum
sum_term zero g i l = absurd (omega arith)
sum_term (suc n) g i l = same? i n (λ e. let z : g i ≡ g n = ap g e in omega arith) (λ e. let z = sum_term n g i (omega arith) in omega arith)

-- two terms together are
sum_two : (n : ℕ) (g : ℕ → ℕ) (i j : ℕ) → i < n → j < n → (i ≡ j → ⊥) → g i + g j ≤ sum n g
unfolding sum
sum_two zero g i j l k d = absurd (omega arith)
sum_two (suc n) g i j l k d =
    same? i n
    (λ e. let z : g i ≡ g n = ap g e in let y = sum_term n g j (same? j n (λ e'. absurd (d (e ∙ sym e'))) (λ e'. omega arith)) in omega arith)
    (λ e. same? j n
    (λ e'. let z : g j ≡ g n = ap g e' in let y = sum_term n g i (omega arith) in omega arith)
    (λ e'. let z = sum_two n g i j (omega arith) (omega arith) d in omega arith))

-- all terms but one are zero
sum_one : (n : ℕ) (g : ℕ → ℕ) (i : ℕ) → i < n → ((x : ℕ) → x < n → (i ≡ x → ⊥) → g x ≡ 0) → sum n g ≡ g i
unfolding sum
sum_one zero g i l h = absurd (omega arith)
sum_one (suc n) g i l h =
    same? i n
    (λ e. let z : g i ≡ g n = ap g e in let y = sum_zero n g (λ x k. h x (omega arith) (λ q. absurd (omega arith))) in omega arith)
    (λ e. let z = h n (omega arith) e in let y = sum_one n g i (omega arith) (λ x k. h x (omega arith)) in omega arith)

-- a term that is not zero
sum_some : (n : ℕ) (g : ℕ → ℕ) → 0 < sum n g → (i : ℕ) × (i < n) × (0 < g i)
unfolding sum
sum_some zero g l = absurd (omega arith)
sum_some (suc n) g l =
    same? (g n) 0
    (λ e. let r = sum_some n g (omega arith) in (r.0, omega (arith, r.1), r.2))
    (λ e. (n, omega arith, omega arith))

-- no term is over b
pub sum_most : (n b : ℕ) (g : ℕ → ℕ) → ((x : ℕ) → g x ≤ b) → sum n g ≤ n * b
unfolding sum
sum_most zero b g h = omega arith
sum_most (suc n) b g h = let a = h n in let c = sum_most n b g h in omega arith

-- a count is a sum of ones
pub count_sum : (n : ℕ) (f : ℕ → Bool) → count n f ≡ sum n (λ x. cond (f x) 1 0)
unfolding sum count
count_sum zero f = refl
count_sum (suc n) f = rw (count_sum n f)

-- SUMS OVER PLACES i < a, j < b, k < c
abbrev pub sum3 : ℕ → ℕ → ℕ → (ℕ → ℕ → ℕ → ℕ) → ℕ
sum3 a b c g = sum a (λ i. sum b (λ j. sum c (λ k. g i j k)))

module _ (a b c : ℕ) (g : ℕ → ℕ → ℕ → ℕ) where
  pub sum3_zero : ((i j k : ℕ) → i < a → j < b → k < c → g i j k ≡ 0) → sum3 a b c g ≡ 0
  sum3_zero h = sum_zero a _ (λ i l. sum_zero b _ (λ j l'. sum_zero c _ (λ k l''. h i j k l l' l'')))

  pub sum3_one : (i j k : ℕ) → i < a → j < b → k < c → ((i' j' k' : ℕ) → i' < a → j' < b → k' < c → (i ≡ i' → j ≡ j' → k ≡ k' → ⊥) → g i' j' k' ≡ 0) → sum3 a b c g ≡ g i j k
  sum3_one i j k l l' l'' h =
      sum_one a _ i l (λ i' m n. sum_zero b _ (λ j' m'. sum_zero c _ (λ k' m''. h i' j' k' m m' m'' (λ e _ _. n e))))
      ∙ sum_one b _ j l' (λ j' m' n. sum_zero c _ (λ k' m''. h i j' k' l m' m'' (λ _ e _. n e)))
      ∙ sum_one c _ k l'' (λ k' m'' n. h i j k' l l' m'' (λ _ _ e. n e))

  pub sum3_term : (i j k : ℕ) → i < a → j < b → k < c → g i j k ≤ sum3 a b c g
  sum3_term i j k l l' l'' =
      let x = sum_term c (λ k. g i j k) k l'' in
      let y = sum_term b (λ j. sum c (λ k. g i j k)) j l' in
      let z = sum_term a (λ i. sum b (λ j. sum c (λ k. g i j k))) i l in
      omega arith

  pub sum3_two : (i j k i' j' k' : ℕ) → i < a → j < b → k < c → i' < a → j' < b → k' < c → (i ≡ i' → j ≡ j' → k ≡ k' → ⊥) → g i j k + g i' j' k' ≤ sum3 a b c g
  sum3_two i j k i' j' k' l l' l'' m m' m'' n =
      let G : ℕ → ℕ = λ i. sum b (λ j. sum c (λ k. g i j k)) in
      let H : ℕ → ℕ → ℕ = λ i j. sum c (λ k. g i j k) in
      let x : g i j k ≤ H i j = sum_term c (λ k. g i j k) k l'' in
      let y : H i j ≤ G i = sum_term b (H i) j l' in
      let x' : g i' j' k' ≤ H i' j' = sum_term c (λ k. g i' j' k) k' m'' in
      let y' : H i' j' ≤ G i' = sum_term b (H i') j' m' in
      let z : G i ≤ sum a G = sum_term a G i l in
      same? i i'
      (λ e. same? j j'
      (λ d. same? k k'
      (λ q. absurd (n e d q))
      (λ q. let u : g i' j' k' ≡ g i j k' = cc (ap₂ (λ s t. g s t k') e d) in let w : g i j k + g i j k' ≤ H i j = sum_two c (g i j) k k' l'' m'' q in omega arith))
      (λ d. let u : H i' j' ≡ H i j' = ap (λ s. H s j') (sym e) in let w : H i j + H i j' ≤ G i = sum_two b (H i) j j' l' m' d in omega arith))
      (λ e. let w : G i + G i' ≤ sum a G = sum_two a G i i' l m e in omega arith)

  pub sum3_some : 0 < sum3 a b c g → (i : ℕ) × (j : ℕ) × (k : ℕ) × (i < a) × (j < b) × (k < c) × (0 < g i j k)
  sum3_some h =
      let x = sum_some a _ h in
      let y = sum_some b _ x.2 in
      let z = sum_some c _ y.2 in
      (x.0, y.0, z.0, x.1, y.1, z.1, z.2)
