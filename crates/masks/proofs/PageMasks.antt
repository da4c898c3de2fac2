-- The mask of a map's pages: one page of it, none, and all. Assumes nothing.
use mathlib.Core.Bool.{◌&&◌, Bool, false, not, true, true≢false, ◌||◌}
use mathlib.Core.Path.{ap, refl, sym, ◌∙◌, ◌≡◌}
use Prim.Native.Nat.{◌-◌, ◌<◌, suc, zero, ℕ}
use native.Mathlib.Nat.{zero-add}
use native.Mathlib.Omega.{arith}
use lib.Dec.{eqb}
use lib.Pow.{pow_pos}
use borrow.Author.Tests.{eq-eqb, eqb-true, not-true}
use Rattle.base.specs.Count.{all, all_at, all_more, all_none, all_of}
use Rattle.base.specs.Logic.{test?}
use Rattle.packing.specs.Bitmap.{is_one, number_digits, number_lt, number_of}
use Rattle.packing.specs.Bits.{bit, bit_none}
use Rattle.rules.specs.Reading.{some_unmapped}
use Rattle.rules.specs.State.{Entry, is_unmapped}
use Rattle.masks.proofs.MaskPages.{ones_digit}
use Rattle.masks.specs.Pages.{page_mask}

module _ (test : Entry ℕ → Bool) (map : ℕ → Entry ℕ) where
  -- LAW: page p is the digit 63 - p
  pub mask_page : (p : ℕ) → p < 64 → is_one (bit (page_mask test map) (63 - p)) ≡ test (map p)
  mask_page p h = number_digits (λ p. test (map p)) 0 64 p h ∙ ap (λ x. test (map x)) (zero-add p)

  -- LAW: only the 64 pages count
  pub mask_same : (map' : ℕ → Entry ℕ) → ((p : ℕ) → p < 64 → test (map' p) ≡ test (map p)) → page_mask test map' ≡ page_mask test map
  mask_same map' h =
      number_of (λ p. test (map' p)) 0 64 (page_mask test map) (number_lt (λ p. test (map p)) 0 64)
      (λ j l. mask_page j l ∙ sym (h j l) ∙ ap (λ x. test (map' x)) (sym (zero-add j)))

  -- LAW: the mask is 0 where no page passes
  pub mask_none : eqb (page_mask test map) 0 ≡ all 64 (λ p. not (test (map p)))
  mask_none =
      test? (all 64 (λ p. not (test (map p))))
      (λ e. eq-eqb (page_mask test map) 0 (number_of (λ p. test (map p)) 0 64 0 (pow_pos 64) (λ j l.
      ap is_one (bit_none (63 - j)) ∙ sym (ap (λ x. test (map x)) (zero-add j) ∙ not-true (test (map j)) (all_at 64 _ e j l)))) ∙ sym e)
      (λ e. test? (eqb (page_mask test map) 0)
      (λ d. absurd (true≢false (sym (all_of 64 (λ p. not (test (map p))) (λ p l.
      ap not (sym (mask_page p l) ∙ ap (λ x. is_one (bit x (63 - p))) (eqb-true (page_mask test map) 0 d) ∙ ap is_one (bit_none (63 - p))))) ∙ e)))
      (λ d. d ∙ sym e))

  -- LAW: every digit is 1 where every page passes
  pub mask_all : eqb (page_mask test map) 18446744073709551615 ≡ all 64 (λ p. test (map p))
  mask_all =
      test? (all 64 (λ p. test (map p)))
      (λ e. eq-eqb (page_mask test map) 18446744073709551615 (number_of (λ p. test (map p)) 0 64 18446744073709551615 (omega arith) (λ j l.
      ones_digit (63 - j) (omega arith) ∙ sym (ap (λ x. test (map x)) (zero-add j) ∙ all_at 64 _ e j l))) ∙ sym e)
      (λ e. test? (eqb (page_mask test map) 18446744073709551615)
      (λ d. absurd (true≢false (sym (all_of 64 (λ p. test (map p)) (λ p l.
      sym (mask_page p l) ∙ ap (λ x. is_one (bit x (63 - p))) (eqb-true (page_mask test map) 18446744073709551615 d) ∙ ones_digit (63 - p) (omega arith))) ∙ e)))
      (λ d. d ∙ sym e))

or_not : (a b : Bool) → (a || not b) ≡ not (not a && b)
or_not true b = refl
or_not false b = refl

some_all : (n : ℕ) (map : ℕ → Entry ℕ) → some_unmapped n map ≡ not (all n (λ p. not (is_unmapped (map p))))
unfolding some_unmapped
some_all zero map = ap not (sym (all_none (λ p. not (is_unmapped (map p)))))
some_all (suc n) map =
    let a : all (suc n) (λ p. not (is_unmapped (map p))) ≡ (not (is_unmapped (map n)) && all n (λ p. not (is_unmapped (map p)))) = all_more n (λ p. not (is_unmapped (map p))) in
    ap (λ x. is_unmapped (map n) || x) (some_all n map) ∙ or_not (is_unmapped (map n)) (all n (λ p. not (is_unmapped (map p)))) ∙ ap not (sym a)

-- LAW: some page is unmapped where the mask of the unmapped pages is not 0
pub mask_some : (map : ℕ → Entry ℕ) → not (eqb (page_mask is_unmapped map) 0) ≡ some_unmapped 64 map
mask_some map = ap not (mask_none is_unmapped map) ∙ sym (some_all 64 map)
