-- The lowest bit of a number that is set, and the number without it. Assumes nothing.
use mathlib.Core.Path.{ap, ap₂, refl, subst, sym, ◌∙◌, ◌≡◌}
use Prim.Native.Nat.{◌%◌, ◌*◌, ◌+◌, ◌-◌, ◌/◌, ◌<◌, ◌^◌, min, suc, zero, ℕ}
use native.Mathlib.Nat.{lt_of_le_of_lt}
use native.Mathlib.Omega.{arith}
use lib.Bits.{and_le_l, and_le_r, and_self, and_step, bit_and}
use lib.Count.{count_trailing_zeros, under}
use Rattle.base.specs.Logic.{same?}
use Rattle.packing.specs.Bits.{bit, bit_suc, bit_zero}

-- bit k of m is set, and x is m without it
pub record Lowest (m x k : ℕ) : Type 0 where
  pub set_bit : bit m k ≡ 1
  pub clear : bit x k ≡ 0
  pub others : (j : ℕ) → (k ≡ j → ⊥) → bit x j ≡ bit m j

-- the lowest digit is the bit
odd_lowest : (m x : ℕ) → m % 2 ≡ 1 → x ≡ m / 2 * 2 → Lowest m x 0
odd_lowest m x o e = record {
  set_bit = bit_zero m ∙ o;
  clear = bit_zero x ∙ omega arith;
  others = go;
}
  where
    go : (j : ℕ) → (0 ≡ j → ⊥) → bit x j ≡ bit m j
    go zero n = absurd (n refl)
    go (suc j) n = let q : x / 2 ≡ m / 2 = omega arith in bit_suc x j ∙ ap (λ y. bit y j) q ∙ sym (bit_suc m j)

-- it is above the lowest digit
even_lowest : (m x y k : ℕ) → m % 2 ≡ 0 → x ≡ y * 2 → Lowest (m / 2) y k → Lowest m x (suc k)
even_lowest m x y k o e h =
    let q : x / 2 ≡ y = omega arith in
    record {
      set_bit = bit_suc m k ∙ h.set_bit;
      clear = bit_suc x k ∙ ap (λ z. bit z k) q ∙ h.clear;
      others = go q;
    }
  where
    go : x / 2 ≡ y → (j : ℕ) → (suc k ≡ j → ⊥) → bit x j ≡ bit m j
    go q zero n = let d : x % 2 ≡ m % 2 = omega arith in bit_zero x ∙ d ∙ sym (bit_zero m)
    go q (suc j) n = bit_suc x j ∙ ap (λ z. bit z j) q ∙ h.others j (λ d. n (ap suc d)) ∙ sym (bit_suc m j)

zeros_even : (n m : ℕ) → m % 2 ≡ 0 → count_trailing_zeros (suc n) m ≡ suc (count_trailing_zeros n (m / 2))
unfolding count_trailing_zeros
zeros_even n m e = ap (λ d. under d (count_trailing_zeros n (m / 2))) e

zeros_odd : (n m : ℕ) → m % 2 ≡ 1 → count_trailing_zeros (suc n) m ≡ 0
unfolding count_trailing_zeros
zeros_odd n m e = ap (λ d. under d (count_trailing_zeros n (m / 2))) e

abbrev Found : ℕ → ℕ → ℕ → Type 0
Found n m k = (k < n) × Lowest m (bit_and m (m - 1)) k

-- LAW: the lowest bit of a number of n digits that is not 0
pub lowest_is : (n m : ℕ) → 0 < m → m < 2 ^ n → (count_trailing_zeros n m < n) × Lowest m (bit_and m (m - 1)) (count_trailing_zeros n m)
lowest_is zero m p h = absurd (omega arith)
lowest_is (suc n) m p h =
    same? (m % 2) 0
    (λ e. let r = lowest_is n (m / 2) (omega arith) (omega arith) in
    let k = count_trailing_zeros n (m / 2) in
    let a : (m - 1) / 2 ≡ m / 2 - 1 = omega arith in
    let b : (m - 1) % 2 ≡ 1 = omega arith in
    let x : bit_and m (m - 1) ≡ bit_and (m / 2) (m / 2 - 1) * 2 + 0 = and_step m (m - 1) ∙ ap₂ (λ y z. bit_and (m / 2) y * 2 + z) a (ap₂ min e b) in
    subst (Found (suc n) m) (sym (zeros_even n m e))
    (omega (arith, r.0), even_lowest m (bit_and m (m - 1)) (bit_and (m / 2) (m / 2 - 1)) k e (omega arith) r.1))
    (λ e. let o : m % 2 ≡ 1 = omega arith in
    let a : (m - 1) / 2 ≡ m / 2 = omega arith in
    let b : (m - 1) % 2 ≡ 0 = omega arith in
    let x : bit_and m (m - 1) ≡ m / 2 * 2 + 0 = and_step m (m - 1) ∙ ap₂ (λ y z. y * 2 + z) (ap (bit_and (m / 2)) a ∙ and_self (m / 2)) (ap₂ min o b) in
    subst (Found (suc n) m) (sym (zeros_odd n m o)) (omega arith, odd_lowest m (bit_and m (m - 1)) o (omega arith)))

even_below : (m z j : ℕ) → m % 2 ≡ 0 → j < under 0 z → ((i : ℕ) → i < z → bit (m / 2) i ≡ 0) → bit m j ≡ 0
even_below m z zero e l h = bit_zero m ∙ e
even_below m z (suc j) e l h = bit_suc m j ∙ h j (omega arith)

none_below : (z j : ℕ) → j < under 1 z → ⊥
none_below z j l = omega arith

-- LAW: the digits below it are 0
pub below_lowest : (n m j : ℕ) → j < count_trailing_zeros n m → bit m j ≡ 0
unfolding count_trailing_zeros
below_lowest zero m j h = absurd (omega arith)
below_lowest (suc n) m j h =
    same? (m % 2) 0
    (λ e. even_below m (count_trailing_zeros n (m / 2)) j e (subst (λ d. j < under d (count_trailing_zeros n (m / 2))) e h) (λ i l. below_lowest n (m / 2) i l))
    (λ e. let o : m % 2 ≡ 1 = omega arith in absurd (none_below (count_trailing_zeros n (m / 2)) j (subst (λ d. j < under d (count_trailing_zeros n (m / 2))) o h)))

-- LAW: the number without it
pub less_lt : (q : ℕ) → q < 2 ^ 64 → bit_and q (q - 1) < 2 ^ 64
less_lt q h = lt_of_le_of_lt (and_le_l q (q - 1)) h

pub less : (q : ℕ) → 0 < q → bit_and q (q - 1) < q
less q h = let r = and_le_r q (q - 1) in omega arith
