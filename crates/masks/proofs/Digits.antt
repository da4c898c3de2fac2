-- Binary digits: both, one or the other, one alone, and a number whose digits are all 0. Assumes nothing.
use mathlib.Core.Bool.{◌&&◌, ◌||◌, false}
use mathlib.Core.Path.{ap, refl, sym, ◌∙◌, ◌≡◌}
use Prim.Native.Nat.{◌*◌, ◌+◌, ◌-◌, ◌<◌, ◌^◌, suc, zero, ℕ}
use native.Mathlib.Omega.{arith}
use lib.Bits.{and_high, bit_and, bit_or}
use lib.Pow.{pow_pos}
use Rattle.packing.specs.Bitmap.{is_one, number_of}
use Rattle.packing.specs.Bits.{bit, bit_none}

pub and_digit : (a b : ℕ) → a < 2 → b < 2 → is_one (bit_and a b) ≡ (is_one a && is_one b)
and_digit zero b h k = refl
and_digit (suc zero) zero h k = refl
and_digit (suc zero) (suc zero) h k = refl
and_digit (suc zero) (suc (suc b)) h k = absurd (omega arith)
and_digit (suc (suc a)) b h k = absurd (omega arith)

pub or_digit : (a b : ℕ) → a < 2 → b < 2 → is_one (bit_or a b) ≡ (is_one a || is_one b)
or_digit zero zero h k = refl
or_digit zero (suc b) h k = refl
or_digit (suc zero) zero h k = refl
or_digit (suc zero) (suc zero) h k = refl
or_digit (suc zero) (suc (suc b)) h k = absurd (omega arith)
or_digit (suc (suc a)) b h k = absurd (omega arith)

-- LAW: a number cut down to one digit
pub and_power : (n k : ℕ) → bit_and n (2 ^ k) ≡ bit n k * 2 ^ k
unfolding bit
and_power n k =
    let q : 1 + k ≡ suc k = omega arith in
    let e : 2 ^ k ≡ 2 ^ suc k - 2 ^ k = omega arith in
    ap (bit_and n) (e ∙ ap (λ j. 2 ^ j - 2 ^ k) (sym q)) ∙ and_high n 1 k

-- a number of n digits that are all 0
pub zero_digits : (n x : ℕ) → x < 2 ^ n → ((j : ℕ) → j < n → is_one (bit x (n - 1 - j)) ≡ false) → x ≡ 0
zero_digits n x h z =
    sym (number_of (λ p. false) 0 n x h (λ j l. z j l)) ∙ number_of (λ p. false) 0 n 0 (pow_pos n) (λ j l. ap is_one (bit_none (n - 1 - j)))
