-- The registers of the front panel: when there is one at an offset, what the table holds, what a write makes of a register. Assumes nothing.
use mathlib.Core.Bool.{◌&&◌, Bool, cond, false, not, true}
use mathlib.Core.List.{List}
use mathlib.Core.Logic.{◌⊎◌, ⊎_elim}
use mathlib.Core.Path.{ap, refl, subst, sym, ◌∙◌, ◌≡◌}
use Prim.Native.Nat.{◌%◌, ◌-◌, ◌<◌, ℕ, ◌≤◌}
use native.Mathlib.Omega.{arith}
use lib.Bits.{and_le_l, and_le_r, and_mask, and_zero_r, bit_and, or_lt, or_zero_r}
use lib.Dec.{eqb, leb, ltb}
use lib.ListN.{get_or, length}
use borrow.Author.Tests.{eq-eqb, eqb-true, le-leb, lt-leb, ltb-false, ne_eqb, not-false}
use Rattle.base.specs.Count.{all, all_at}
use Rattle.base.specs.Logic.{and_false, and_left, and_right, or_left_false, or_right_false, same?, test?}
use Rattle.tables.specs.Panel.{PanelTableClaim, TableSays, no_register, reset_values, writable_bits, written}

-- sixteen registers, and an offset of one of them
pub register_there : (o : ℕ) (r : List ℕ) → no_register o r ≡ false → (length r ≡ 16) × (o < 16)
unfolding no_register
register_there o r h =
    let n = or_left_false (not (eqb (length r) 16)) (ltb 15 o) h in
    let m = or_right_false (not (eqb (length r) 16)) (ltb 15 o) h in
    (eqb-true (length r) 16 (not-false (eqb (length r) 16) n), omega (arith, ltb-false 15 o m))

-- of sixteen registers the offset decides
pub offset_told : (o : ℕ) (r : List ℕ) → length r ≡ 16 → no_register o r ≡ ltb 15 o
unfolding no_register
offset_told o r l = rw (eq-eqb (length r) 16 l) refl

-- ---- the table, at every offset at once, by computing

unfoldable bits_at : ℕ → ℕ
bits_at k = cond (eqb k 2) 7 (cond (leb 3 k && leb k 6) 255 0)

unfoldable holds_at : ℕ → Bool
holds_at k = eqb (get_or reset_values k 0) 0 && eqb (get_or writable_bits k 0) (bits_at k)

table_holds : all 16 holds_at ≡ true
unfolding all holds_at bits_at reset_values writable_bits
table_holds = refl

module _ (k : ℕ) (h : k < 16) where
  holds : holds_at k ≡ true
  holds = all_at 16 holds_at table_holds k h

  pub reset_zero : get_or reset_values k 0 ≡ 0
  unfolding holds_at
  reset_zero = eqb-true (get_or reset_values k 0) 0 (and_left (eqb (get_or reset_values k 0) 0) (eqb (get_or writable_bits k 0) (bits_at k)) holds)

  bits_at_law : get_or writable_bits k 0 ≡ bits_at k
  unfolding holds_at
  bits_at_law = eqb-true (get_or writable_bits k 0) (bits_at k) (and_right (eqb (get_or reset_values k 0) 0) (eqb (get_or writable_bits k 0) (bits_at k)) holds)

  bits_full : 3 ≤ k → k ≤ 6 → get_or writable_bits k 0 ≡ 255
  unfolding bits_at
  bits_full a b = bits_at_law ∙ (rw (ne_eqb k 2 (λ e. absurd (omega arith)), le-leb 3 k a, le-leb k 6 b) refl)

  bits_none : (k ≤ 1) ⊎ (7 ≤ k) → get_or writable_bits k 0 ≡ 0
  unfolding bits_at
  bits_none d =
      bits_at_law
      ∙ ⊎_elim (λ l. rw (ne_eqb k 2 (λ e. absurd (omega arith)), lt-leb 3 k (omega arith)) refl)
      (λ g. rw (ne_eqb k 2 (λ e. absurd (omega arith)), lt-leb k 6 (omega arith), and_false (leb 3 k)) refl) d

  bits_low : get_or writable_bits k 0 < 256
  unfolding bits_at
  bits_low = rw bits_at_law (test? (eqb k 2) (λ e. rw e (omega arith)) (λ e. rw e (test? (leb 3 k && leb k 6) (λ d. rw d (omega arith)) (λ d. rw d (omega arith)))))

  -- a register of which no bit is writable keeps its byte
  pub written_none : (old value : ℕ) → (k ≤ 1) ⊎ (7 ≤ k) → old < 256 → written k old value ≡ old
  unfolding written
  written_none old value d l =
      let q : old % 256 ≡ old = omega arith in
      rw (ne_eqb k 2 (⊎_elim (λ a e. absurd (omega arith)) (λ b e. absurd (omega arith)) d), bits_none d, and_zero_r value)
      (or_zero_r (bit_and old 255) ∙ and_mask old 8 ∙ q)

  -- one of which all are takes the value
  pub written_full : (old value : ℕ) → 3 ≤ k → k ≤ 6 → written k old value ≡ value % 256
  unfolding written
  written_full old value a b = rw (ne_eqb k 2 (λ e. absurd (omega arith)), bits_full a b, and_zero_r old) (and_mask value 8)

-- the cause loses ones
pub cause_masked : (old value : ℕ) → written 2 old value ≡ bit_and old (255 - bit_and value 7)
unfolding written writable_bits
cause_masked old value = refl

pub cause_low : (old value n : ℕ) → old < n → written 2 old value < n
cause_low old value n h = rw (cause_masked old value) (omega (arith, and_le_l old (255 - bit_and value 7)))

-- below 8 it loses those of the value, for all causes and values at once, by computing
unfoldable clears_at : ℕ → ℕ → Bool
clears_at old value = eqb (bit_and old (255 - bit_and value 7)) (bit_and old (255 - value))

clears_all : all 8 (λ old. all 256 (clears_at old)) ≡ true
unfolding all clears_at
clears_all = refl

written_cause : (k old value : ℕ) → k ≡ 2 → old < 8 → value < 256 → written k old value ≡ bit_and old (255 - value)
unfolding clears_at
written_cause k old value e l v =
    ap (λ (i : ℕ). written i old value) e ∙ cause_masked old value
    ∙ eqb-true _ _ (all_at 256 (clears_at old) (all_at 8 (λ x. all 256 (clears_at x)) clears_all old l) value v)

-- every register stays a byte
masked_byte : (k old value : ℕ) → k < 16 → old < 256 → (k ≡ 2 → ⊥) → written k old value < 256
unfolding written
masked_byte k old value h l n =
    let m : ℕ = get_or writable_bits k 0 in
    rw (ne_eqb k 2 n) (or_lt 8 (bit_and old (255 - m)) (bit_and value m) (omega (arith, and_le_l old (255 - m))) (omega (arith, and_le_r value m, bits_low k h)))

pub written_byte : (k old value : ℕ) → k < 16 → old < 256 → written k old value < 256
written_byte k old value h l = same? k 2
    (λ e. subst (λ (i : ℕ). written i old value < 256) (sym e) (cause_low old value 256 l))
    (λ n. masked_byte k old value h l n)

says : (k old value : ℕ) → k < 16 → old < 256 → value < 256 → TableSays k old value
says k old value h o v = record {
  resets = reset_zero k h;
  full = λ a b. let q : value % 256 ≡ value = omega arith in written_full k h old value a b ∙ q;
  ignores = λ d. written_none k h old value d o;
  clears = λ e l. written_cause k old value e l v;
}

pub values_count : length reset_values ≡ 16
unfolding reset_values
values_count = refl

-- THEOREM
pub panel_table : PanelTableClaim
unfolding writable_bits
panel_table = (values_count, refl, says)
