-- The masks that the code computes are those of the stored pages and of the unmapped ones, and a page is in both of the code's masks where its kind is 3.
-- Assumes nothing.
use mathlib.Core.Bool.{◌&&◌, Bool, false, true≢false}
use mathlib.Core.List.{List}
use mathlib.Core.Path.{ap, ap₂, refl, sym, ◌∙◌, ◌≡◌}
use Prim.Native.Nat.{◌%◌, ◌*◌, ◌+◌, ◌-◌, ◌/◌, ◌<◌, ◌^◌, suc, zero, ℕ}
use native.Mathlib.Nat.{lt_of_le_of_lt, mod-lt, zero-add}
use native.Mathlib.Omega.{arith}
use lib.Bits.{and_le_r, and_lt, bit_and, bit_or, or_lt}
use lib.Dec.{ltb}
use lib.ListN.{get_or}
use lib.Pow.{pow_pos}
use borrow.Author.Tests.{ltb-false, ltb-true}
use Rattle.base.specs.Logic.{test?}
use Rattle.masks.proofs.Digits.{zero_digits}
use Rattle.masks.proofs.MaskPages.{and_pages}
use Rattle.masks.proofs.LowWords.{low_bit}
use Rattle.masks.proofs.PageMasks.{mask_same}
use Rattle.masks.proofs.Tracks.{holes_bit, stored_bit}
use Rattle.masks.specs.Network.{down, gather, holes_of, kinds32, pairs, stored_of, up, words_at}
use Rattle.masks.specs.Pages.{entries_at, page_mask, pages}
use Rattle.packing.specs.Bitmap.{is_one, number_of}
use Rattle.packing.specs.Bits.{bit, bit_lt, bit_none, bit_not, bit_or_law}
use Rattle.packing.specs.Words.{Bytes, get_lt, get_word}
use Rattle.rules.specs.State.{Entry, is_stored, is_unmapped}
use Rattle.tables.proofs.Codes.{word_hole, word_stored, word_unmapped}
use Rattle.tables.proofs.ReadParts.{read_map}
use Rattle.tables.specs.Layout.{map_at, read_entry}
use Rattle.tables.specs.Packed.{unpack}

-- ---- numbers and their bits

neither : (a b : ℕ) → a < 2 → b < 2 → is_one (1 - bit_or a b) ≡ is_one (1 - (a + b))
neither zero zero h k = refl
neither zero (suc zero) h k = refl
neither (suc zero) zero h k = refl
neither (suc zero) (suc zero) h k = refl
neither zero (suc (suc b)) h k = absurd (omega arith)
neither (suc zero) (suc (suc b)) h k = absurd (omega arith)
neither (suc (suc a)) b h k = absurd (omega arith)

gather_lt : (x : ℕ) → gather x < 2 ^ 64
unfolding gather
gather_lt x =
    let v = pairs (bit_and x 0x5555555555555555) in
    lt_of_le_of_lt (and_le_r (bit_or (up v 2) (down v 32)) 0xFFFFFFFF) (omega arith)

both_lt : (x y : ℕ) → bit_or (up (gather x) 32) (gather y) < 2 ^ 64
both_lt x y = or_lt 64 (up (gather x) 32) (gather y) (mod-lt (gather x * 2 ^ 32) (pow_pos 64)) (gather_lt y)

stored_lt : (W : ℕ → ℕ) → stored_of W < 2 ^ 64
unfolding stored_of
stored_lt W = both_lt (down (kinds32 W 0) 1) (down (kinds32 W 8) 1)

holes_lt : (W : ℕ → ℕ) → holes_of W < 2 ^ 64
unfolding holes_of
holes_lt W = both_lt (kinds32 W 0) (kinds32 W 8)

-- ---- the map that begins at byte `at`

module _ (t : List ℕ) (bs : Bytes t) (at : ℕ) where
  abbrev word : ℕ → ℕ
  word p = get_word 1 t (at + p * 2)

  -- bit b of the first byte of entry p, which is bit 8 + b of its word
  entry_bit : (p b : ℕ) → b < 8 → bit (words_at t at (p / 4)) (p % 4 * 16 + b) ≡ bit (get_or t (at + p * 2) 0) b
  entry_bit p b h =
      let e : at + p / 4 * 8 + (p % 4 * 16 + b) / 8 ≡ at + p * 2 = omega arith in
      let d : (p % 4 * 16 + b) % 8 ≡ b = omega arith in
      low_bit 7 t (at + p / 4 * 8) (p % 4 * 16 + b) bs (omega arith) ∙ ap₂ (λ a k. bit (get_or t a 0) k) e d

  pub stored_page : (p : ℕ) → p < 64 → bit (stored_of (words_at t at)) (63 - p) ≡ word p / 32768
  unfolding get_word bit
  stored_page p h = stored_bit (words_at t at) p h ∙ entry_bit p 7 (omega arith) ∙ omega (arith, bs (at + p * 2), bs (at + p * 2 + 1))

  holes_page : (p : ℕ) → p < 64 → bit (holes_of (words_at t at)) (63 - p) ≡ word p / 16384 % 2
  unfolding get_word bit
  holes_page p h = holes_bit (words_at t at) p h ∙ entry_bit p 6 (omega arith) ∙ omega (arith, bs (at + p * 2), bs (at + p * 2 + 1))

  pub word_lt : (p : ℕ) → word p < 65536
  word_lt p = get_lt 1 t (at + p * 2) bs

  abbrev stored : ℕ
  stored = stored_of (words_at t at)

  abbrev holes : ℕ
  holes = holes_of (words_at t at)

  -- LAW: no kind is 3 where no page is in both masks
  pub no_three : bit_and stored holes ≡ 0 → (p : ℕ) → p < 64 → word p < 49152
  no_three e p h =
      let b : (is_one (word p / 32768) && is_one (word p / 16384 % 2)) ≡ false =
      sym (and_pages stored holes p ∙ ap₂ (λ x y. is_one x && is_one y) (stored_page p h) (holes_page p h)) ∙ ap (λ x. pages x p) e ∙ ap is_one (bit_none (63 - p)) in
      test? (ltb (word p) 49152)
      (λ d. ltb-true (word p) 49152 d)
      (λ d. let l = ltb-false (word p) 49152 d in
      let x : word p / 32768 ≡ 1 = omega (arith, word_lt p) in
      let y : word p / 16384 % 2 ≡ 1 = omega (arith, word_lt p) in
      absurd (true≢false (rw (x, y) at b)))

  -- LAW: some kind is 3 where a page is in both
  pub some_three : ((p : ℕ) → p < 64 → word p < 49152) → bit_and stored holes ≡ 0
  some_three h =
      zero_digits 64 (bit_and stored holes) (and_lt 64 stored holes (stored_lt _) (holes_lt _)) (λ p l.
      and_pages stored holes p ∙ ap₂ (λ x y. is_one x && is_one y) (stored_page p l) (holes_page p l)
      ∙ test? (ltb (word p) 32768)
      (λ d. let q = ltb-true (word p) 32768 d in let x : word p / 32768 ≡ 0 = omega arith in rw x)
      (λ d. let q = ltb-false (word p) 32768 d in let x : word p / 32768 ≡ 1 = omega (arith, h p l) in let y : word p / 16384 % 2 ≡ 0 = omega (arith, h p l) in rw (x, y)))

is_stored_law : (w : ℕ) → w < 65536 → is_one (w / 32768) ≡ is_stored (read_entry w)
is_stored_law w h =
    test? (ltb w 16384)
    (λ e. let l = ltb-true w 16384 e in let z : w / 32768 ≡ 0 = omega arith in rw (z, word_unmapped w l))
    (λ e. let l = ltb-false w 16384 e in
    test? (ltb w 32768)
    (λ d. let k = ltb-true w 32768 d in let z : w / 32768 ≡ 0 = omega arith in rw (z, word_hole w l k))
    (λ d. let k = ltb-false w 32768 d in let z : w / 32768 ≡ 1 = omega arith in rw (z, word_stored w k)))

is_unmapped_law : (w : ℕ) → w < 65536 → is_one (1 - (w / 32768 + w / 16384 % 2)) ≡ is_unmapped (read_entry w)
is_unmapped_law w h =
    test? (ltb w 16384)
    (λ e. let l = ltb-true w 16384 e in let z : 1 - (w / 32768 + w / 16384 % 2) ≡ 1 = omega arith in rw (z, word_unmapped w l))
    (λ e. let l = ltb-false w 16384 e in
    let z : 1 - (w / 32768 + w / 16384 % 2) ≡ 0 = omega arith in
    test? (ltb w 32768)
    (λ d. rw (z, word_hole w l (ltb-true w 32768 d)))
    (λ d. rw (z, word_stored w (ltb-false w 32768 d))))

-- ---- the map that begins at byte `at`

module _ (t : List ℕ) (bs : Bytes t) (at : ℕ) where
  -- LAW: the mask of the stored pages
  pub stored_mask : stored_of (words_at t at) ≡ page_mask is_stored (entries_at t at)
  stored_mask =
      sym (number_of (λ p. is_stored (entries_at t at p)) 0 64 (stored_of (words_at t at)) (stored_lt _) (λ j l.
      ap is_one (stored_page t bs at j l) ∙ is_stored_law (word t bs at j) (word_lt t bs at j) ∙ ap (λ p. is_stored (entries_at t at p)) (sym (zero-add j))))

  -- LAW: the mask of the unmapped pages
  pub unmapped_mask : (2 ^ 64 - 1) - bit_or (stored_of (words_at t at)) (holes_of (words_at t at)) ≡ page_mask is_unmapped (entries_at t at)
  unmapped_mask =
      let x = stored_of (words_at t at) in
      let y = holes_of (words_at t at) in
      sym (number_of (λ p. is_unmapped (entries_at t at p)) 0 64 ((2 ^ 64 - 1) - bit_or x y) (omega arith) (λ j l.
      ap is_one (bit_not 64 (63 - j) (bit_or x y) (or_lt 64 x y (stored_lt _) (holes_lt _)) (omega arith) ∙ ap (λ (z : ℕ). 1 - z) (bit_or_law x y (63 - j)))
      ∙ neither (bit x (63 - j)) (bit y (63 - j)) (bit_lt x (63 - j)) (bit_lt y (63 - j))
      ∙ ap₂ (λ a b. is_one (1 - (a + b))) (stored_page t bs at j l) (holes_page t bs at j l)
      ∙ is_unmapped_law (word t bs at j) (word_lt t bs at j) ∙ ap (λ p. is_unmapped (entries_at t at p)) (sym (zero-add j))))

-- LAW: the masks of the map of file f in set s
pub file_mask : (test : Entry ℕ → Bool) (t : List ℕ) (f s : ℕ) → f < 16 → s < 8 → page_mask test (entries_at t (map_at f s)) ≡ page_mask test ((unpack t).files f s).map
file_mask test t f s hf hs = mask_same test ((unpack t).files f s).map (entries_at t (map_at f s)) (λ p h. ap test (sym (read_map t f s p hf hs h)))
