-- Masks of pages, bit by bit: one bit is cleared, four are, and the bits of the whole words. Assumes nothing.
use mathlib.Core.Bool.{◌&&◌, Bool, cond, false, not, true, true≢false}
use mathlib.Core.Path.{ap, refl, sym, ◌∙◌, ◌≡◌}
use Prim.Native.Nat.{◌%◌, ◌*◌, ◌+◌, ◌-◌, ◌/◌, ◌<◌, ◌^◌, suc, zero, ℕ, ◌≤◌}
use native.Mathlib.Nat.{div-eq_of_lt, lt_of_lt_of_le, mod-lt}
use native.Mathlib.Omega.{arith}
use lib.Bits.{and_zero_r, bit_and}
use lib.Dec.{eqb, ltb}
use lib.Pow.{pow_mono, pow_pos}
use borrow.Author.Tests.{eqb-true, ltb-false, ltb-true}
use Rattle.base.specs.Count.{all, all_at}
use Rattle.base.specs.Logic.{and_left, and_right, test?}
use Rattle.masks.proofs.Digits.{and_digit}
use Rattle.masks.proofs.LowestBit.{Lowest}
use Rattle.masks.proofs.Tracks.{and_one, bit_above, bit_below}
use Rattle.masks.specs.Pages.{pages}
use Rattle.entrycheck.proofs.MovedPages.{without}
use Rattle.entrycheck.proofs.Runs.{in_run_law, in_run, not_in_run, run?}
use Rattle.entrycheck.specs.Moving.{Full, rows}
use Rattle.packing.specs.Bitmap.{is_one}
use Rattle.packing.specs.Bits.{bit, bit_and_law, bit_lt, bit_mod, bit_not, bit_shr}

is_one_law : (x : ℕ) → x < 2 → is_one x ≡ true → x ≡ 1
is_one_law zero h e = absurd (true≢false (sym e))
is_one_law (suc zero) h e = refl
is_one_law (suc (suc x)) h e = absurd (omega arith)

kept : (a b r : Bool) → r ≡ false → b ≡ a → b ≡ (a && not r)
kept true b true h e = absurd (true≢false h)
kept true b false h e = e
kept false b r h e = e

gone : (a b r : Bool) → r ≡ true → b ≡ false → b ≡ (a && not r)
gone true b true h e = e
gone true b false h e = absurd (true≢false (sym h))
gone false b r h e = e

-- the mask x is m, but for the bits k, .., k + n - 1, which are clear
pub record Cleared (m x k n : ℕ) : Type 0 where
  pub clear : (j : ℕ) → j < n → bit x (k + j) ≡ 0
  pub others : (j : ℕ) → j < 64 → (k ≤ j → j < k + n → ⊥) → bit x j ≡ bit m j

-- LAW: the pages that are left
pub cleared_pages : (m x k n : ℕ) → k + n ≤ 64 → Cleared m x k n → (p : ℕ) → p < 64 → pages x p ≡ without (64 - n - k) n (pages m) p
cleared_pages m x k n h c p l =
    run? (64 - n - k) n p
    (λ a b. let j = 63 - p - k in
    let e : 63 - p ≡ k + j = omega arith in
    gone (pages m p) (pages x p) (in_run (64 - n - k) n p) (in_run_law (64 - n - k) n p a b) (ap is_one (ap (bit x) e ∙ c.clear j (omega arith))))
    (λ o. kept (pages m p) (pages x p) (in_run (64 - n - k) n p) (not_in_run (64 - n - k) n p o)
    (ap is_one (c.others (63 - p) (omega arith) (λ a b. o (omega arith) (omega arith)))))

-- LAW: the lowest bit is cleared
pub lowest_cleared : (m x k : ℕ) → Lowest m x k → Cleared m x k 1
lowest_cleared m x k h = record {
  clear = λ j l. let e : k + j ≡ k = omega arith in ap (bit x) e ∙ h.clear;
  others = λ j l o. h.others j (λ e. o (omega arith) (omega arith));
}

-- ---- four bits

fifteen_table : all 4 (λ j. eqb (bit 15 j) 1) ≡ true
unfolding all bit
fifteen_table = refl

fifteen_low : (j : ℕ) → j < 4 → bit 15 j ≡ 1
fifteen_low j h = eqb-true (bit 15 j) 1 (all_at 4 (λ j. eqb (bit 15 j) 1) fifteen_table j h)

fifteen_high : (j : ℕ) → 4 ≤ j → bit 15 j ≡ 0
unfolding bit
fifteen_high j h = ap (λ (q : ℕ). q % 2) (div-eq_of_lt (lt_of_lt_of_le (let z : 15 < 2 ^ 4 = omega arith in z) (pow_mono h)))

module _ (m k : ℕ) (h : k < 61) where
  abbrev four : ℕ
  four = 15 * 2 ^ k % 2 ^ 64

  abbrev pub rest : ℕ
  rest = bit_and m ((2 ^ 64 - 1) - four)

  four_in : (j : ℕ) → k ≤ j → j < k + 4 → bit four j ≡ 1
  four_in j a b = bit_mod 64 j (15 * 2 ^ k) (omega arith) ∙ bit_above 15 k j a ∙ fifteen_low (j - k) (omega arith)

  four_out : (j : ℕ) → j < 64 → (k ≤ j → j < k + 4 → ⊥) → bit four j ≡ 0
  four_out j l o =
      bit_mod 64 j (15 * 2 ^ k) l
      ∙ test? (ltb j k)
      (λ e. bit_below 15 k j (ltb-true j k e))
      (λ e. let a = ltb-false j k e in bit_above 15 k j a ∙ fifteen_high (j - k) (test? (ltb j (k + 4)) (λ d. absurd (o a (ltb-true j (k + 4) d))) (λ d. let b = ltb-false j (k + 4) d in omega arith)))

  rest_bit : (j : ℕ) → j < 64 → bit rest j ≡ bit_and (bit m j) (1 - bit four j)
  rest_bit j l = bit_and_law m ((2 ^ 64 - 1) - four) j ∙ ap (bit_and (bit m j)) (bit_not 64 j four (mod-lt (15 * 2 ^ k) (pow_pos 64)) l)

  -- LAW: the bits k, .., k + 3 are cleared
  pub four_cleared : Cleared m rest k 4
  four_cleared = record {
    clear = λ j l. rest_bit (k + j) (omega arith) ∙ ap (λ (z : ℕ). bit_and (bit m (k + j)) (1 - z)) (four_in (k + j) (omega arith) (omega arith)) ∙ and_zero_r (bit m (k + j));
    others = λ j l o. rest_bit j l ∙ ap (λ (z : ℕ). bit_and (bit m j) (1 - z)) (four_out j l o) ∙ and_one (bit m j) (bit_lt m j);
  }

-- ---- the words whose four pages are all in the mask

fourth_table : all 64 (λ k. cond (is_one (bit 0x1111111111111111 k)) (eqb (k % 4) 0) true) ≡ true
unfolding all bit
fourth_table = refl

fourth : (k : ℕ) → k < 64 → is_one (bit 0x1111111111111111 k) ≡ true → k % 4 ≡ 0
fourth k l e =
    eqb-true (k % 4) 0 (ap (λ o. cond o (eqb (k % 4) 0) true) (sym e) ∙ all_at 64 (λ k. cond (is_one (bit 0x1111111111111111 k)) (eqb (k % 4) 0) true) fourth_table k l)

and_on : (x y k : ℕ) → is_one (bit (bit_and x y) k) ≡ true → (is_one (bit x k) ≡ true) × (is_one (bit y k) ≡ true)
and_on x y k e =
    let b : (is_one (bit x k) && is_one (bit y k)) ≡ true = sym (ap is_one (bit_and_law x y k) ∙ and_digit (bit x k) (bit y k) (bit_lt x k) (bit_lt y k)) ∙ e in
    (and_left (is_one (bit x k)) _ b, and_right (is_one (bit x k)) _ b)

-- LAW: a bit of the rows
pub rows_on : (m k : ℕ) → k < 64 → bit (rows m) k ≡ 1 → (k % 4 ≡ 0) × Full m k
unfolding rows
rows_on m k l e =
    let x = bit_and m (m / 2) in
    let a = and_on (bit_and x (x / 4)) 0x1111111111111111 k (ap is_one e) in
    let b = and_on x (x / 4) k a.0 in
    let c = and_on m (m / 2) k b.0 in
    let d = and_on m (m / 2) (2 + k) (ap is_one (sym (bit_shr x 2 k)) ∙ b.1) in
    let c1 = ap is_one (sym (bit_shr m 1 k)) ∙ c.1 in
    let d1 = ap is_one (sym (bit_shr m 1 (2 + k))) ∙ d.1 in
    (fourth k l a.1, full c.0 c1 d.0 d1)
  where
    full : is_one (bit m k) ≡ true → is_one (bit m (1 + k)) ≡ true → is_one (bit m (2 + k)) ≡ true → is_one (bit m (1 + (2 + k))) ≡ true → Full m k
    full a b c d zero h = let q : k + 0 ≡ k = omega arith in ap (λ z. is_one (bit m z)) q ∙ a
    full a b c d (suc zero) h = let q : k + 1 ≡ 1 + k = omega arith in ap (λ z. is_one (bit m z)) q ∙ b
    full a b c d (suc (suc zero)) h = let q : k + 2 ≡ 2 + k = omega arith in ap (λ z. is_one (bit m z)) q ∙ c
    full a b c d (suc (suc (suc zero))) h = let q : k + 3 ≡ 1 + (2 + k) = omega arith in ap (λ z. is_one (bit m z)) q ∙ d
    full a b c d (suc (suc (suc (suc j)))) h = absurd (omega arith)
