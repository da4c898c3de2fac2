-- The pages wholly past the size are those from k on: a mask whose digits from page k on are 0 is 0 when shifted by k digits. Assumes nothing.
use mathlib.Core.Bool.{Bool, false, not, true, true≢false, ◌||◌}
use mathlib.Core.Path.{ap, refl, sym, ◌∙◌, ◌≡◌}
use Prim.Native.Nat.{◌%◌, ◌*◌, ◌+◌, ◌-◌, ◌/◌, ◌<◌, ◌^◌, suc, zero, ℕ, ◌≤◌}
use native.Mathlib.Nat.{mod-lt, mul-mod_left, zero-add}
use native.Mathlib.Omega.{arith}
use lib.Dec.{eqb, ltb}
use lib.Pow.{pow_pos}
use borrow.Author.Tests.{eq-eqb, eqb-true, le-ltb, lt-ltb, ltb-false, ltb-true, not-true}
use Rattle.base.specs.Count.{all, all_at, all_of}
use Rattle.base.specs.Logic.{same_test, test?}
use Rattle.packing.specs.Bitmap.{is_one, number, number_digits, number_of}
use Rattle.packing.specs.Bits.{bit, bit_mod, bit_none, bit_shl}

-- a number of 64 digits that are all 0
none_set : (x : ℕ) → x < 18446744073709551616 → ((j : ℕ) → j < 64 → bit x (63 - j) ≡ 0) → x ≡ 0
none_set x l h =
    let f : ℕ → Bool = λ p. false in
    sym (number_of f 0 64 x l (λ j k. ap is_one (h j k))) ∙ number_of f 0 64 0 (pow_pos 64) (λ j k. ap is_one (bit_none (63 - j)))

is_zero : (x : ℕ) → is_one x ≡ false → x ≡ 0
is_zero zero h = refl
is_zero (suc x) h = absurd (true≢false h)

-- the digits of a shifted number
shifted_high : (m k i : ℕ) → k + i < 64 → bit (m * 2 ^ k % 2 ^ 64) (k + i) ≡ bit m i
shifted_high m k i l = bit_mod 64 (k + i) (m * 2 ^ k) l ∙ bit_shl m k i

shifted_low : (m k i : ℕ) → i < k → k < 64 → bit (m * 2 ^ k % 2 ^ 64) i ≡ 0
shifted_low m k i l h =
    bit_mod 64 i (m * 2 ^ k) (omega arith) ∙ sym (bit_mod k i (m * 2 ^ k) l) ∙ ap (λ x. bit x i) (mul-mod_left m (2 ^ k)) ∙ bit_none i

-- LAW: no page is wholly past the size
pub past_none : (g : ℕ → Bool) (size : ℕ) → 64 ≤ (size + 511) / 512 → true ≡ all 64 (λ p. ltb (p * 512) size || not (g p))
past_none g size h = sym (all_of 64 (λ p. ltb (p * 512) size || not (g p)) (λ p l. rw (lt-ltb (p * 512) size (omega arith))))

module _ (g : ℕ → Bool) (m k size : ℕ) (e : m ≡ number g 0 64) (d : k ≡ (size + 511) / 512) where
  abbrev passes : Bool
  passes = all 64 (λ p. ltb (p * 512) size || not (g p))

  page_is : (p : ℕ) → p < 64 → is_one (bit m (63 - p)) ≡ g p
  page_is p l = ap (λ x. is_one (bit x (63 - p))) e ∙ number_digits g 0 64 p l ∙ ap g (zero-add p)

  -- a page wholly past the size
  past_at : passes ≡ true → (p : ℕ) → p < 64 → k ≤ p → g p ≡ false
  past_at q p l h =
      let a : (ltb (p * 512) size || not (g p)) ≡ true = all_at 64 (λ p. ltb (p * 512) size || not (g p)) q p l in
      not-true (g p) (rw (le-ltb (p * 512) size (omega arith)) at a)

  -- LAW: the pages from k on
  pub past_shift : k < 64 → eqb (m * 2 ^ k % 2 ^ 64) 0 ≡ passes
  past_shift h = same_test (eqb (m * 2 ^ k % 2 ^ 64) 0) passes one two
    where
      one : eqb (m * 2 ^ k % 2 ^ 64) 0 ≡ true → passes ≡ true
      one q = all_of 64 (λ p. ltb (p * 512) size || not (g p)) (λ p l.
          test? (ltb (p * 512) size) (λ a. rw a)
          (λ a. let b = ltb-false (p * 512) size a in
          rw (
            a,
            sym (page_is p l) ∙ ap is_one (sym (shifted_high m k (63 - p) (omega arith)) ∙ ap (λ x. bit x (k + (63 - p))) (eqb-true (m * 2 ^ k % 2 ^ 64) 0 q)
                ∙ bit_none (k + (63 - p))),
          )))

      two : passes ≡ true → eqb (m * 2 ^ k % 2 ^ 64) 0 ≡ true
      two q = eq-eqb (m * 2 ^ k % 2 ^ 64) 0 (none_set (m * 2 ^ k % 2 ^ 64) (mod-lt (m * 2 ^ k) (pow_pos 64)) (λ j l.
          test? (ltb (j + k) 64)
          (λ a. let c = ltb-true (j + k) 64 a in
          let i : ℕ = 63 - (j + k) in
          let z : 63 - j ≡ k + i = omega arith in
          ap (bit (m * 2 ^ k % 2 ^ 64)) z ∙ shifted_high m k i (omega arith) ∙ is_zero (bit m i) (page_is (j + k) c ∙ past_at q (j + k) c (omega arith)))
          (λ a. let c = ltb-false (j + k) 64 a in shifted_low m k (63 - j) (omega arith) h)))
