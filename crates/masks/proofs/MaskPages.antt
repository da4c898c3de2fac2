-- The pages of masks: of two masks, without the lowest, a range of them, and how many. Assumes nothing.
use mathlib.Core.Bool.{◌&&◌, false, not, true}
use mathlib.Core.Path.{ap, ap₂, refl, subst, sym, ◌∙◌, ◌≡◌}
use Prim.Native.Nat.{◌%◌, ◌*◌, ◌+◌, ◌-◌, ◌/◌, ◌<◌, ◌^◌, min, suc, zero, ℕ, ◌≤◌}
use native.Mathlib.Nat.{div-eq_of_lt, lt_of_lt_of_le, zero-add}
use native.Mathlib.Omega.{arith}
use lib.Bits.{bit_and}
use lib.Count.{ones, count_trailing_zeros}
use lib.Dec.{ltb}
use lib.Pow.{pow_mono, pow_pos}
use borrow.Author.Tests.{ltb-false, ltb-true}
use Rattle.base.specs.Count.{count, count_le}
use Rattle.base.specs.Logic.{and_false, test?}
use Rattle.masks.proofs.Digits.{and_digit}
use Rattle.masks.proofs.LowestBit.{Lowest, lowest_is}
use Rattle.masks.proofs.Tracks.{bit_above, bit_below}
use Rattle.masks.specs.Pages.{IsRange, pages}
use Rattle.packing.specs.Bitmap.{count_word, is_one}
use Rattle.packing.specs.Bits.{bit, bit_and_law, bit_lt, bit_mod, bit_none, bit_not, bit_shr}

-- LAW: the pages of both masks
pub and_pages : (x y p : ℕ) → pages (bit_and x y) p ≡ (pages x p && pages y p)
and_pages x y p = ap is_one (bit_and_law x y (63 - p)) ∙ and_digit (bit x (63 - p)) (bit y (63 - p)) (bit_lt x (63 - p)) (bit_lt y (63 - p))

not_digit : (a : ℕ) → a < 2 → is_one (1 - a) ≡ not (is_one a)
not_digit zero h = refl
not_digit (suc zero) h = refl
not_digit (suc (suc a)) h = absurd (omega arith)

-- LAW: the pages that a mask has not
pub not_pages : (x p : ℕ) → x < 2 ^ 64 → p < 64 → pages ((2 ^ 64 - 1) - x) p ≡ not (pages x p)
not_pages x p h l = ap is_one (bit_not 64 (63 - p) x h (omega arith)) ∙ not_digit (bit x (63 - p)) (bit_lt x (63 - p))

-- LAW: no page
pub no_pages : (m p : ℕ) → m ≡ 0 → pages m p ≡ false
no_pages m p e = ap (λ x. pages x p) e ∙ ap is_one (bit_none (63 - p))

-- ---- the page of the lowest bit

module _ (m k : ℕ) (h : 0 < m) (lt : m < 2 ^ 64) (z : k ≡ count_trailing_zeros 64 m) where
  lowest_bit : (k < 64) × Lowest m (bit_and m (m - 1)) k
  lowest_bit = subst (λ k. (k < 64) × Lowest m (bit_and m (m - 1)) k) (sym z) (lowest_is 64 m h lt)

  -- LAW: the mask has it
  pub lowest_page : pages m (63 - k) ≡ true
  lowest_page = let e : 63 - (63 - k) ≡ k = omega (arith, lowest_bit.0) in ap is_one (ap (bit m) e ∙ lowest_bit.1.set_bit)

  -- LAW: the mask without the bit does not
  pub lowest_gone : pages (bit_and m (m - 1)) (63 - k) ≡ false
  lowest_gone = let e : 63 - (63 - k) ≡ k = omega (arith, lowest_bit.0) in ap is_one (ap (bit (bit_and m (m - 1))) e ∙ lowest_bit.1.clear)

  -- LAW: it has the others
  pub lowest_others : (p : ℕ) → p < 64 → (63 - k ≡ p → ⊥) → pages (bit_and m (m - 1)) p ≡ pages m p
  lowest_others p l n = ap is_one (lowest_bit.1.others (63 - p) (λ e. n (omega (arith, lowest_bit.0))))

-- ---- ranges

-- every digit of the largest number of 64 digits is 1
pub ones_digit : (k : ℕ) → k < 64 → is_one (bit 18446744073709551615 k) ≡ true
ones_digit k h = ap is_one (bit_not 64 k 0 (pow_pos 64) h ∙ ap (λ (x : ℕ). 1 - x) (bit_none k))

ones_above : (k : ℕ) → 64 ≤ k → is_one (bit 18446744073709551615 k) ≡ false
unfolding bit
ones_above k h = ap (λ (q : ℕ). is_one (q % 2)) (div-eq_of_lt (lt_of_lt_of_le (let z : 18446744073709551615 < 2 ^ 64 = omega arith in z) (pow_mono h)))

module _ (first n : ℕ) (some : 0 < n) (fit : first + n ≤ 64) where
  abbrev front : ℕ
  front = 18446744073709551615 / 2 ^ first

  abbrev back : ℕ
  back = 18446744073709551615 * 2 ^ (64 - first - n) % 2 ^ 64

  front_in : (p : ℕ) → first ≤ p → p < 64 → pages front p ≡ true
  front_in p h l = ap is_one (bit_shr 18446744073709551615 first (63 - p)) ∙ ones_digit (first + (63 - p)) (omega arith)

  front_out : (p : ℕ) → p < first → pages front p ≡ false
  front_out p h = ap is_one (bit_shr 18446744073709551615 first (63 - p)) ∙ ones_above (first + (63 - p)) (omega arith)

  back_in : (p : ℕ) → p < first + n → pages back p ≡ true
  back_in p h =
      ap is_one (bit_mod 64 (63 - p) (18446744073709551615 * 2 ^ (64 - first - n)) (omega arith) ∙ bit_above 18446744073709551615 (64 - first - n) (63 - p) (omega arith))
      ∙ ones_digit (63 - p - (64 - first - n)) (omega arith)

  back_out : (p : ℕ) → first + n ≤ p → p < 64 → pages back p ≡ false
  back_out p h l = ap is_one (bit_mod 64 (63 - p) (18446744073709551615 * 2 ^ (64 - first - n)) (omega arith) ∙ bit_below 18446744073709551615 (64 - first - n) (63 - p) (omega arith))

  -- LAW: the mask that the code makes
  pub range_is : IsRange (bit_and front back) first n
  range_is = record {
    inside = λ p a b. and_pages front back p ∙ ap₂ ◌&&◌ (front_in p a (omega arith)) (back_in p b);
    outside = λ p l o. and_pages front back p ∙ test? (ltb p first)
        (λ e. ap (λ x. x && pages back p) (front_out p (ltb-true p first e)))
        (λ e. let a = ltb-false p first e in
        ap (λ x. pages front p && x) (back_out p (test? (ltb p (first + n)) (λ d. absurd (o a (ltb-true p (first + n) d))) (λ d. ltb-false p (first + n) d)) l) ∙ and_false (pages front p));
  }

pub range_none : (first n : ℕ) → n ≡ 0 → IsRange 0 first n
range_none first n e = record { inside = λ p a b. absurd (omega arith); outside = λ p l o. no_pages 0 p refl }

-- ---- how many

-- LAW: the ones of the mask
pub ones_pages : (m : ℕ) → m < 2 ^ 64 → ones m ≡ count 64 (pages m)
ones_pages m h =
    let q : count 64 (pages m) ≡ count 0 (pages m) + ones m = count_word (pages m) 0 64 m h (λ j l. ap (pages m) (sym (zero-add j))) in
    let z = count_le 0 (pages m) in
    omega arith

module _ (m first n : ℕ) (r : IsRange m first n) where
  count_to : (k : ℕ) → k ≤ 64 → count k (pages m) ≡ min k (first + n) - min k first
  unfolding count
  count_to zero l = omega arith
  count_to (suc k) l =
      let q = count_to k (omega arith) in
      test? (ltb k first)
      (λ e. let a = ltb-true k first e in rw (r.outside k (omega arith) (λ x y. omega arith)) (omega (arith, q)))
      (λ e. let a = ltb-false k first e in
      test? (ltb k (first + n))
      (λ d. let b = ltb-true k (first + n) d in rw (r.inside k a b) (omega (arith, q)))
      (λ d. let b = ltb-false k (first + n) d in rw (r.outside k (omega arith) (λ x y. omega arith)) (omega (arith, q))))

  -- LAW: a range has n pages
  pub range_count : first + n ≤ 64 → count 64 (pages m) ≡ n
  range_count h = count_to 64 (omega arith) ∙ omega arith
