-- The mask of the pages that resolve to stored, from the masks of the file and that of the parent set. Assumes nothing.
use mathlib.Core.Bool.{◌&&◌, Bool, false, true, ◌||◌}
use mathlib.Core.Path.{ap, ap₂, refl, sym, ◌∙◌, ◌≡◌}
use Prim.Native.Nat.{◌-◌, ◌<◌, suc, zero, ℕ}
use native.Mathlib.Nat.{lt_of_le_of_lt, zero-add}
use lib.Bits.{and_le_r, bit_and, bit_or, or_lt}
use Rattle.base.specs.Logic.{pick}
use Rattle.masks.proofs.Digits.{and_digit, or_digit}
use Rattle.masks.proofs.PageMasks.{mask_page}
use Rattle.masks.specs.Pages.{page_mask}
use Rattle.packing.specs.Bitmap.{is_one, number_lt, number_of}
use Rattle.packing.specs.Bits.{bit, bit_and_law, bit_lt, bit_none, bit_or_law}
use Rattle.rules.specs.Reading.{resolve, shown_entry, walk}
use Rattle.rules.specs.State.{Entry, File, Files, SetRecord, hole, is_stored, is_unmapped, stored, tree_of, unmapped}

-- ---- a page of a mask: page 0 is the most significant digit
abbrev page : ℕ → ℕ → Bool
page x p = is_one (bit x (63 - p))

-- LAW: a digit of two numbers together
pub digit_or : (a b j : ℕ) → is_one (bit (bit_or a b) j) ≡ (is_one (bit a j) || is_one (bit b j))
digit_or a b j = ap is_one (bit_or_law a b j) ∙ or_digit (bit a j) (bit b j) (bit_lt a j) (bit_lt b j)

page_or : (a b p : ℕ) → page (bit_or a b) p ≡ (page a p || page b p)
page_or a b p = digit_or a b (63 - p)

page_and : (a b p : ℕ) → page (bit_and a b) p ≡ (page a p && page b p)
page_and a b p = ap is_one (bit_and_law a b (63 - p)) ∙ and_digit (bit a (63 - p)) (bit b (63 - p)) (bit_lt a (63 - p)) (bit_lt b (63 - p))

-- ---- does a page resolve to stored
stored_pick : (e d : Entry ℕ) → is_stored (pick (shown_entry e) d) ≡ (is_stored e || (is_unmapped e && is_stored d))
stored_pick unmapped d = refl
stored_pick hole d = refl
stored_pick (stored b) d = refl

module _ (sets : ℕ → SetRecord) (files : Files ℕ) (p : ℕ) where
  -- from set x, at most n parents up
  stored_from : ℕ → ℕ → Bool
  stored_from n x = is_stored (walk (λ y. (sets y).parent) (λ (y : File ℕ). shown_entry (y.map p)) hole n files x)

  -- from the parent of set x, at most n - 1 parents up; from none where n is 0
  stored_above : ℕ → ℕ → Bool
  stored_above zero x = false
  stored_above (suc n) x = stored_from n (sets x).parent

  stored_from_law : (n x : ℕ) → stored_from n x ≡ (is_stored ((files x).map p) || (is_unmapped ((files x).map p) && stored_above n x))
  unfolding stored_from stored_above walk
  stored_from_law zero x = stored_pick ((files x).map p) hole
  stored_from_law (suc n) x = stored_pick ((files x).map p) (walk (λ y. (sets y).parent) (λ (y : File ℕ). shown_entry (y.map p)) hole n files (sets x).parent)

  above_next : (n x : ℕ) → stored_above (suc n) x ≡ stored_from n (sets x).parent
  unfolding stored_above
  above_next n x = refl

  resolve_from : (s : ℕ) → is_stored (resolve (tree_of sets) files s p) ≡ stored_from (sets s).level s
  unfolding stored_from resolve
  resolve_from s = refl

-- ---- the mask of the pages that resolve to stored
page_none : (p : ℕ) → page 0 p ≡ false
page_none p = ap is_one (bit_none (63 - p))

or_none : (a b c : Bool) → b ≡ false → (a || (b && c)) ≡ a
or_none true b c e = refl
or_none false b c e = rw e

module _ (sets : ℕ → SetRecord) (files : Files ℕ) (s : ℕ) where
  abbrev own : ℕ
  own = page_mask is_stored (files s).map

  abbrev gaps : ℕ
  gaps = page_mask is_unmapped (files s).map

  abbrev found : ℕ → Bool
  found p = is_stored (resolve (tree_of sets) files s p)

  own_lt : own < 18446744073709551616
  own_lt = number_lt (λ p. is_stored ((files s).map p)) 0 64

  from_above : (p : ℕ) → p < 64 → found p ≡ (page own p || (page gaps p && stored_above sets files p (sets s).level s))
  from_above p l =
      resolve_from sets files p s ∙ stored_from_law sets files p (sets s).level s
      ∙ sym (ap₂ (λ a b. a || (b && stored_above sets files p (sets s).level s)) (mask_page is_stored (files s).map p l) (mask_page is_unmapped (files s).map p l))

  mask_is : (m : ℕ) → m < 18446744073709551616 → ((p : ℕ) → p < 64 → page m p ≡ found p) → m ≡ page_mask is_stored (resolve (tree_of sets) files s)
  mask_is m l h = sym (number_of found 0 64 m l (λ j k. h j k ∙ ap found (sym (zero-add j))))

  -- LAW: no page is unmapped
  pub resolved_own : gaps ≡ 0 → own ≡ page_mask is_stored (resolve (tree_of sets) files s)
  resolved_own e = mask_is own own_lt (λ p l.
      sym (from_above p l ∙ or_none (page own p) (page gaps p) (stored_above sets files p (sets s).level s) (ap (λ y. page y p) e ∙ page_none p)))

  -- LAW: the unmapped pages are those of the parent
  pub resolved_above : (n : ℕ) → (sets s).level ≡ suc n → (sets (sets s).parent).level ≡ n
      → bit_or own (bit_and gaps (page_mask is_stored (resolve (tree_of sets) files (sets s).parent))) ≡ page_mask is_stored (resolve (tree_of sets) files s)
  resolved_above n e d =
      let x : ℕ = (sets s).parent in
      let up : ℕ = page_mask is_stored (resolve (tree_of sets) files x) in
      mask_is (bit_or own (bit_and gaps up))
      (or_lt 64 own (bit_and gaps up) own_lt (lt_of_le_of_lt (and_le_r gaps up) (number_lt (λ p. is_stored (resolve (tree_of sets) files x p)) 0 64)))
      (λ p l.
      let same : page up p ≡ stored_above sets files p (sets s).level s =
      mask_page is_stored (resolve (tree_of sets) files x) p l ∙ resolve_from sets files p x ∙ ap (λ k. stored_from sets files p k x) d
      ∙ sym (ap (λ k. stored_above sets files p k s) e ∙ above_next sets files p n s) in
      page_or own (bit_and gaps up) p ∙ ap (λ y. page own p || y) (page_and gaps up p ∙ ap (λ y. page gaps p && y) same) ∙ sym (from_above p l))
