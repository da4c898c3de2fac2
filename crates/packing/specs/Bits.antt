-- One binary digit of a number, and what complement, or, and, shifts and leading zeros do to it. Assumes nothing.
use Rattle.std.specs.Prelude.{◌≡◌, refl, ◌≢◌, ℕ, zero, suc, ◌+◌, ◌-◌, ◌*◌, ◌/◌, ◌%◌, ◌^◌, ◌<◌, ◌≤◌}
use Rattle.std.proofs.Common.{sym, ap, ◌∙◌, pow-suc, mul_comm, not-suc-le-zero, zero-lt-suc, mul-div_cancel, le_of_suc-le-suc, lt_of_lt_of_le, add-one, arith, pow_pos, pow_mono, shr-shr}
use Rattle.std.proofs.Math.Nat.{div-div-eq-div-mul, div-eq_of_lt}
use Rattle.std.proofs.lemmas.Nat.{shl-shr, or_shr, or_mod, and_shr, and_mod, leading_length}
use Rattle.std.proofs.Math.Pow.{field, mod-mod-pow}
use Rattle.std.specs.Int.Bits.{bit_or, bit_and}
use Rattle.std.specs.Int.Count.{count_leading_zeros}

unfoldable pub bit : ℕ → ℕ → ℕ
bit x k = x / 2 ^ k % 2

pub bit_lt : (x k : ℕ) → bit x k < 2
unfolding bit
bit_lt x k = omega arith

pub bit_zero : (x : ℕ) → bit x 0 ≡ x % 2
unfolding bit
bit_zero x = omega arith

pub bit_suc : (x k : ℕ) → bit x (suc k) ≡ bit (x / 2) k
unfolding bit
bit_suc x k = ap (λ (p : ℕ). x / p % 2) (pow-suc 2 k ∙ mul_comm (2 ^ k) 2) ∙ ap (λ (q : ℕ). q % 2) (sym (div-div-eq-div-mul x 2 (2 ^ k)))

-- the complement in w digits
pub bit_not : (w k a : ℕ) → a < 2 ^ w → k < w → bit ((2 ^ w - 1) - a) k ≡ 1 - bit a k
bit_not zero k a h l = absurd (not-suc-le-zero l)
bit_not (suc w) zero a h l = bit_zero ((2 ^ suc w - 1) - a) ∙ rw (bit_zero a) (omega (arith, pow_pos w))
bit_not (suc w) (suc k) a h l =
    let e : ((2 ^ suc w - 1) - a) / 2 ≡ (2 ^ w - 1) - a / 2 = omega (arith, pow_pos w) in
    bit_suc ((2 ^ suc w - 1) - a) k ∙ ap (λ (x : ℕ). bit x k) e ∙ bit_not w k (a / 2) (omega arith) (le_of_suc-le-suc l)
    ∙ ap (λ (x : ℕ). 1 - x) (sym (bit_suc a k))

-- the low w digits
pub bit_mod : (w k x : ℕ) → k < w → bit (x % 2 ^ w) k ≡ bit x k
bit_mod zero k x l = absurd (not-suc-le-zero l)
bit_mod (suc w) zero x l = bit_zero (x % 2 ^ suc w) ∙ ap (λ (n : ℕ). x % 2 ^ n % 2) (sym (add-one w)) ∙ mod-mod-pow x w 1 ∙ sym (bit_zero x)
bit_mod (suc w) (suc k) x l =
    let e : x % 2 ^ suc w / 2 ≡ x / 2 % 2 ^ w = ap (λ (n : ℕ). x % 2 ^ n / 2) (sym (add-one w)) ∙ field x w 1 in
    bit_suc (x % 2 ^ suc w) k ∙ ap (λ (y : ℕ). bit y k) e ∙ bit_mod w k (x / 2) (le_of_suc-le-suc l) ∙ sym (bit_suc x k)

pub bit_shr : (x s k : ℕ) → bit (x / 2 ^ s) k ≡ bit x (s + k)
unfolding bit
bit_shr x s k = ap (λ (q : ℕ). q % 2) (shr-shr x s k)

pub bit_shl : (x s k : ℕ) → bit (x * 2 ^ s) (s + k) ≡ bit x k
bit_shl x s k = sym (bit_shr (x * 2 ^ s) s k) ∙ ap (λ (q : ℕ). bit q k) (shl-shr x s)

pub bit_or_law : (a b k : ℕ) → bit (bit_or a b) k ≡ bit_or (bit a k) (bit b k)
unfolding bit
bit_or_law a b k = ap (λ (q : ℕ). q % 2) (or_shr a b k) ∙ or_mod (a / 2 ^ k) (b / 2 ^ k) 1

pub bit_and_law : (a b k : ℕ) → bit (bit_and a b) k ≡ bit_and (bit a k) (bit b k)
unfolding bit
bit_and_law a b k = ap (λ (q : ℕ). q % 2) (and_shr a b k) ∙ and_mod (a / 2 ^ k) (b / 2 ^ k) 1

-- one digit alone
pub bit_pow_same : (s : ℕ) → bit (2 ^ s) s ≡ 1
bit_pow_same zero = bit_zero 1
bit_pow_same (suc s) = bit_suc (2 ^ suc s) s ∙ ap (λ (x : ℕ). bit x s) (ap (λ (p : ℕ). p / 2) (pow-suc 2 s) ∙ mul-div_cancel (2 ^ s) (zero-lt-suc 1)) ∙ bit_pow_same s

pub bit_none : (k : ℕ) → bit 0 k ≡ 0
bit_none zero = bit_zero 0
bit_none (suc k) = bit_suc 0 k ∙ bit_none k

pub bit_pow_other : (s k : ℕ) → k ≢ s → bit (2 ^ s) k ≡ 0
bit_pow_other zero zero h = absurd (h refl)
bit_pow_other zero (suc k) h = bit_suc 1 k ∙ bit_none k
bit_pow_other (suc s) zero h = bit_zero (2 ^ suc s) ∙ omega arith
bit_pow_other (suc s) (suc k) h =
    bit_suc (2 ^ suc s) k ∙ ap (λ (x : ℕ). bit x k) (ap (λ (p : ℕ). p / 2) (pow-suc 2 s) ∙ mul-div_cancel (2 ^ s) (zero-lt-suc 1))
    ∙ bit_pow_other s k (λ e. h (ap suc e))

-- ---- leading zeros: the digits are 0 above, and the next one is set

pub leading_clear : (w x j : ℕ) → x < 2 ^ w → j < count_leading_zeros w x → bit x (w - 1 - j) ≡ 0
unfolding bit
leading_clear w x j h l =
    let t = leading_length w x h in
    let p : t.0 ≤ w - 1 - j = omega (arith, t.1) in
    ap (λ (q : ℕ). q % 2) (div-eq_of_lt (lt_of_lt_of_le t.2 (pow_mono p)))

-- x of m + 1 digits has its digit m set
top_set : (x m : ℕ) → x < 2 ^ suc m → 2 ^ suc m ≤ 2 * x + 1 → bit x m ≡ 1
top_set x zero h l = bit_zero x ∙ omega arith
top_set x (suc m) h l = bit_suc x m ∙ top_set (x / 2) m (omega arith) (omega arith)

pub leading_set : (w x : ℕ) → x < 2 ^ w → count_leading_zeros w x < w → bit x (w - 1 - count_leading_zeros w x) ≡ 1
leading_set w x h l =
    let t = leading_length w x h in
    let e : t.0 ≡ suc (w - 1 - count_leading_zeros w x) = omega (arith, t.1) in
    top_set x (w - 1 - count_leading_zeros w x) (rw e at t.2) (rw e at t.3)
