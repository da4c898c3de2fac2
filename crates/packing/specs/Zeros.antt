-- Runs of zero bytes. Assumes nothing.
use Rattle.std.specs.Prelude.{Bool, ◌&&◌, true, List, refl, ◌≡◌, ◌+◌, ◌<◌, ℕ, eqb, get_or}
use Rattle.std.proofs.Common.{ap, sym, ◌∙◌, add-one, arith, eq-eqb, eqb-true, ne_eqb}
use Rattle.std.proofs.lemmas.Nat.{and_le_l}
use Rattle.std.specs.Int.Bits.{bit_or, or_add_and, or_zero_r}
use Rattle.std.proofs.lemmas.Bool.{eqb-false}
use Rattle.base.specs.Count.{all, all_at, all_more, all_of}
use Rattle.base.specs.Logic.{test?}

-- are the n bytes from `at` on all zero
pub zero_bytes : List ℕ → ℕ → ℕ → Bool
zero_bytes t at n = all n (λ i. eqb (get_or t (at + i) 0) 0)

pub zero_at : (t : List ℕ) (at n : ℕ) → zero_bytes t at n ≡ true → (i : ℕ) → i < n → get_or t (at + i) 0 ≡ 0
unfolding zero_bytes
zero_at t at n h i k = eqb-true (get_or t (at + i) 0) 0 (all_at n (λ i. eqb (get_or t (at + i) 0) 0) h i k)

pub zero_of : (t : List ℕ) (at n : ℕ) → ((i : ℕ) → i < n → get_or t (at + i) 0 ≡ 0) → zero_bytes t at n ≡ true
unfolding zero_bytes
zero_of t at n h = all_of n (λ i. eqb (get_or t (at + i) 0) 0) (λ i k. eq-eqb (get_or t (at + i) 0) 0 (h i k))

-- LAWS for a loop over the bytes: x is zero exactly where all bytes so far are
pub zero_none : (t : List ℕ) (at : ℕ) → true ≡ zero_bytes t at 0
unfolding zero_bytes all
zero_none t at = refl

pub or_zero : (x y : ℕ) → eqb (bit_or x y) 0 ≡ (eqb y 0 && eqb x 0)
or_zero x y = test? (eqb y 0)
    (λ e. let q = eqb-true y 0 e in rw e (ap (λ z. eqb (bit_or x z) 0) q ∙ ap (λ z. eqb z 0) (or_zero_r x)))
    (λ e. rw e (ne_eqb (bit_or x y) 0 (λ q. eqb-false y 0 e (omega (arith, or_add_and x y, and_le_l x y)))))

pub zero_more : (t : List ℕ) (at n x : ℕ) → eqb x 0 ≡ zero_bytes t at n → eqb (bit_or x (get_or t (at + n) 0)) 0 ≡ zero_bytes t at (n + 1)
unfolding zero_bytes
zero_more t at n x h =
    or_zero x (get_or t (at + n) 0) ∙ ap (λ (b : Bool). eqb (get_or t (at + n) 0) 0 && b) h ∙ sym (all_more n (λ i. eqb (get_or t (at + i) 0) 0))
    ∙ ap (λ m. all m (λ i. eqb (get_or t (at + i) 0) 0)) (sym (add-one n))
