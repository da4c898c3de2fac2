-- The rank of a number that passes a test: how many pass before it. And as many pass one test as another where names lead from the ones to the others. Assumes nothing.
use mathlib.Core.Bool.{Bool, false, true, true≢false}
use mathlib.Core.Path.{ap, sym, ◌∙◌, ◌≡◌}
use Prim.Native.Nat.{◌<◌, suc, zero, ℕ}
use native.Mathlib.Omega.{arith}
use lib.Dec.{ltb}
use borrow.Author.Tests.{ltb-false, ltb-true}
use Rattle.base.specs.Count.{count, count_mono, count_none, count_upd_false}
use Rattle.base.specs.Logic.{same?, test?}
use Rattle.base.specs.Update.{upd, upd_other, upd_same}

-- one number more
pub count_yes : (n : ℕ) (f : ℕ → Bool) → f n ≡ true → count (suc n) f ≡ suc (count n f)
unfolding count
count_yes n f h = rw h (omega arith)

pub count_no : (n : ℕ) (f : ℕ → Bool) → f n ≡ false → count (suc n) f ≡ count n f
unfolding count
count_no n f h = rw h (omega arith)

-- ranks rise strictly
pub rank_less : (f : ℕ → Bool) (i j : ℕ) → i < j → f i ≡ true → count i f < count j f
rank_less f i j l h = let a = count_yes i f h in let b = count_mono (suc i) j f (omega arith) in omega arith

pub rank_apart : (f : ℕ → Bool) (i j : ℕ) → f i ≡ true → f j ≡ true → count i f ≡ count j f → i ≡ j
rank_apart f i j h k e =
    same? i j (λ q. q)
    (λ q. test? (ltb i j)
    (λ l. let z = rank_less f i j (ltb-true i j l) h in absurd (omega arith))
    (λ l. let y = ltb-false i j l in let z = rank_less f j i (omega arith) k in absurd (omega arith)))

-- every number below the count is a rank
pub rank_onto : (n : ℕ) (f : ℕ → Bool) (b : ℕ) → b < count n f → (i : ℕ) × (i < n) × (f i ≡ true) × (count i f ≡ b)
unfolding count
rank_onto zero f b l = absurd (omega arith)
rank_onto (suc n) f b l =
    test? (f n)
    (λ e. same? b (count n f)
    (λ q. (n, omega arith, e, sym q))
    (λ q. let z : count (suc n) f ≡ suc (count n f) = count_yes n f e in more (rank_onto n f b (omega (arith, z, l)))))
    (λ e. let z : count (suc n) f ≡ count n f = count_no n f e in more (rank_onto n f b (omega (arith, z, l))))
  where
    more : ((i : ℕ) × (i < n) × (f i ≡ true) × (count i f ≡ b)) → (i : ℕ) × (i < suc n) × (f i ≡ true) × (count i f ≡ b)
    more r = (r.0, omega (arith, r.1), r.2, r.3)

-- LAW: names that lead one to one from the numbers below n that pass f onto those below B that pass g: as many pass
module _ (B : ℕ) (f : ℕ → Bool) (name : ℕ → ℕ) where
  pub record Names (n : ℕ) (g : ℕ → Bool) : Type 0 where
    pub into : (i : ℕ) → i < n → f i ≡ true → (name i < B) × (g (name i) ≡ true)
    pub once : (i j : ℕ) → i < n → j < n → f i ≡ true → f j ≡ true → name i ≡ name j → i ≡ j
    pub onto : (b : ℕ) → b < B → g b ≡ true → (i : ℕ) × (i < n) × (f i ≡ true) × (name i ≡ b)

  pub count_named : (n : ℕ) (g : ℕ → Bool) → Names n g → count n f ≡ count B g
  unfolding count
  count_named zero g h = sym (count_none B g (λ b l. test? (g b) (λ e. let z = h.onto b l e in absurd (omega (arith, z.1))) (λ e. e)))
  count_named (suc n) g h =
      test? (f n)
      (λ e. let w = h.into n (omega arith) e in
      count_yes n f e ∙ ap suc (count_named n (upd g (name n) false) (fewer e)) ∙ sym (count_upd_false B g (name n) w.0 w.1))
      (λ e. count_no n f e ∙ count_named n g (record {
        into = λ i l. h.into i (omega arith);
        once = λ i j l k. h.once i j (omega arith) (omega arith);
        onto = λ b l q. let z = h.onto b l q in below e z;
      }))
    where
      below : {b : ℕ} → f n ≡ false → ((i : ℕ) × (i < suc n) × (f i ≡ true) × (name i ≡ b)) → (i : ℕ) × (i < n) × (f i ≡ true) × (name i ≡ b)
      below e z = same? z.0 n
          (λ q. absurd (true≢false (sym z.2 ∙ ap f q ∙ e)))
          (λ q. (z.0, omega (arith, z.1, q), z.2, z.3))

      fewer : f n ≡ true → Names n (upd g (name n) false)
      fewer e = record {
        into = λ i l q. let w = h.into i (omega arith) q in
            (w.0, upd_other g (name n) false (name i) (λ d. let z = h.once n i (omega arith) (omega arith) e q d in omega (arith, z)) ∙ w.1);
        once = λ i j l k. h.once i j (omega arith) (omega arith);
        onto = λ b l q. same? (name n) b
            (λ d. absurd (true≢false (sym q ∙ ap (upd g (name n) false) (sym d) ∙ upd_same g (name n) false)))
            (λ d. let z = h.onto b l (sym (upd_other g (name n) false b d) ∙ q) in
            same? z.0 n
            (λ u. absurd (d (ap name (sym u) ∙ z.3)))
            (λ u. (z.0, omega (arith, z.1, u), z.2, z.3)));
      }
