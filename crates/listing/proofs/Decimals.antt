-- Decimal numbers: the step from a number to its last digit, and how many digits there are. Assumes nothing.
use mathlib.Core.List.{◌++◌, ◌∷◌, []}
use mathlib.Core.Path.{◌≡◌}
use Prim.Native.Nat.{◌%◌, ◌/◌, ◌<◌, ◌^◌, suc, zero, ℕ, ◌≤◌}
use native.Mathlib.Omega.{arith}
use lib.Dec.{ltb}
use lib.ListN.{length, length-append}
use borrow.Author.Tests.{le-ltb, lt-ltb, ltb-false}
use Rattle.base.specs.Logic.{test?}
use Rattle.listing.specs.Text.{decimal, digit_code, digits}

-- as many steps as are wanted
digits_same : (f g n : ℕ) → n < f → n < g → digits f n ≡ digits g n
unfolding digits
digits_same zero g n h k = absurd (omega arith)
digits_same (suc f) zero n h k = absurd (omega arith)
digits_same (suc f) (suc g) n h k =
    test? (ltb n 10) (λ e. simp e)
    (λ e. let l = ltb-false n 10 e in
    rw (e, digits_same f g (n / 10) (omega arith) (omega arith)))

pub decimal_one : (n : ℕ) → n < 10 → decimal n ≡ digit_code (n % 10) ∷ []
unfolding decimal digits
decimal_one n h = let e : n % 10 ≡ n = omega arith in rw (lt-ltb n 10 h, e)

pub decimal_more : (n : ℕ) → 10 ≤ n → decimal n ≡ decimal (n / 10) ++ (digit_code (n % 10) ∷ [])
unfolding decimal digits
decimal_more n h = rw (le-ltb n 10 h, digits_same n (suc (n / 10)) (n / 10) (omega arith) (omega arith))

-- at most k digits
digits_most : (k f n : ℕ) → 1 ≤ k → n < 10 ^ k → length (digits f n) ≤ k
unfolding digits
digits_most zero f n o h = absurd (omega arith)
digits_most (suc k) zero n o h = omega arith
digits_most (suc zero) (suc f) n o h = rw (lt-ltb n 10 (omega arith)) (omega arith)
digits_most (suc (suc k)) (suc f) n o h =
    test? (ltb n 10) (λ e. rw e (omega arith))
    (λ e. rw (e, length-append) (omega (arith, digits_most (suc k) f (n / 10) (omega arith) (omega arith))))

-- a number of 64 bits has at most 20 digits, one below 100,000 at most 5
pub decimal_most : (n : ℕ) → n < 18446744073709551616 → length (decimal n) ≤ 20
unfolding decimal
decimal_most n h = digits_most 20 (suc n) n (omega arith) (omega arith)

pub decimal_five : (n : ℕ) → n < 100000 → length (decimal n) ≤ 5
unfolding decimal
decimal_five n h = digits_most 5 (suc n) n (omega arith) (omega arith)
