-- The blocks of the entries by two words into which all entries are joined: one of them, and one of those that are not stored. Assumes nothing.
use mathlib.Core.Bool.{◌&&◌, Bool, cond, false, true, ◌||◌}
use mathlib.Core.List.{List}
use mathlib.Core.Path.{ap, ap₂, refl, sym, ◌∙◌, ◌≡◌}
use Prim.Native.Nat.{◌%◌, ◌*◌, ◌+◌, ◌-◌, ◌/◌, ◌<◌, ◌^◌, ℕ, ◌≤◌}
use native.Mathlib.Nat.{lt_of_le_of_lt}
use native.Mathlib.Numerals.{add-one}
use native.Mathlib.Omega.{arith}
use lib.Bits.{and_block, and_high, and_le_l, and_mask, bit_and, bit_or, or_lt}
use lib.Dec.{eqb, ltb}
use lib.ListN.{get_or}
use borrow.Author.Tests.{eq-eqb, eqb-false, eqb-true, le-ltb, lt-ltb, ltb-false, ltb-true, ne_eqb}
use Rattle.base.specs.Count.{all, all_more, all_none}
use Rattle.base.specs.Logic.{test?}
use Rattle.entrycheck.specs.Plain.{plain, plain_at}
use Rattle.masks.proofs.Digits.{and_digit, or_digit, zero_digits}
use Rattle.packing.specs.Bitmap.{is_one}
use Rattle.packing.specs.Bits.{bit, bit_and_law, bit_lt, bit_none, bit_or_law}
use Rattle.packing.specs.Words.{Bytes, get_word, low_word}

-- ---- a mask of words that are joined

left_off : (a b c : Bool) → ((a || b) && c) ≡ false → (a && c) ≡ false
left_off true b c h = h
left_off false b c h = refl

right_off : (a b c : Bool) → ((a || b) && c) ≡ false → (b && c) ≡ false
right_off true true c h = h
right_off true false c h = refl
right_off false b c h = h

both_off : (a b c : Bool) → (a && c) ≡ false → (b && c) ≡ false → ((a || b) && c) ≡ false
both_off true b c h k = h
both_off false b c h k = k

module _ (x y c : ℕ) (hx : x < 65536) (hy : y < 65536) where
  joined : (k : ℕ) → is_one (bit (bit_and (bit_or x y) c) k) ≡ ((is_one (bit x k) || is_one (bit y k)) && is_one (bit c k))
  joined k =
      ap is_one (bit_and_law (bit_or x y) c k) ∙ and_digit (bit (bit_or x y) k) (bit c k) (bit_lt (bit_or x y) k) (bit_lt c k)
      ∙ ap (λ o. o && is_one (bit c k)) (ap is_one (bit_or_law x y k) ∙ or_digit (bit x k) (bit y k) (bit_lt x k) (bit_lt y k))

  off : bit_and (bit_or x y) c ≡ 0 → (k : ℕ) → ((is_one (bit x k) || is_one (bit y k)) && is_one (bit c k)) ≡ false
  off e k = sym (joined k) ∙ ap (λ z. is_one (bit z k)) e ∙ ap is_one (bit_none k)

  masked : (z : ℕ) → z < 65536 → ((k : ℕ) → (is_one (bit z k) && is_one (bit c k)) ≡ false) → bit_and z c ≡ 0
  masked z h o =
      zero_digits 16 (bit_and z c) (lt_of_le_of_lt (and_le_l z c) h) (λ j l.
      ap is_one (bit_and_law z c (15 - j)) ∙ and_digit (bit z (15 - j)) (bit c (15 - j)) (bit_lt z (15 - j)) (bit_lt c (15 - j)) ∙ o (15 - j))

  bit_off : (z : ℕ) → bit_and z c ≡ 0 → (k : ℕ) → (is_one (bit z k) && is_one (bit c k)) ≡ false
  bit_off z e k = sym (ap is_one (bit_and_law z c k) ∙ and_digit (bit z k) (bit c k) (bit_lt z k) (bit_lt c k)) ∙ ap (λ v. is_one (bit v k)) e ∙ ap is_one (bit_none k)

  -- LAW: the mask of both is zero where that of each is
  or_masked : eqb (bit_and (bit_or x y) c) 0 ≡ (eqb (bit_and y c) 0 && eqb (bit_and x c) 0)
  or_masked =
      test? (eqb (bit_and (bit_or x y) c) 0)
      (λ e. let q = off (eqb-true (bit_and (bit_or x y) c) 0 e) in
      e ∙ sym (ap₂ ◌&&◌ (eq-eqb (bit_and y c) 0 (masked y hy (λ k. right_off (is_one (bit x k)) (is_one (bit y k)) (is_one (bit c k)) (q k))))
      (eq-eqb (bit_and x c) 0 (masked x hx (λ k. left_off (is_one (bit x k)) (is_one (bit y k)) (is_one (bit c k)) (q k))))))
      (λ e. e ∙ sym (test? (eqb (bit_and y c) 0)
      (λ a. test? (eqb (bit_and x c) 0)
      (λ b. absurd (eqb-false (bit_and (bit_or x y) c) 0 e (zero_digits 16 (bit_and (bit_or x y) c) (lt_of_le_of_lt (and_le_l (bit_or x y) c) (or_lt 16 x y hx hy)) (λ j l.
      joined (15 - j) ∙ both_off (is_one (bit x (15 - j))) (is_one (bit y (15 - j))) (is_one (bit c (15 - j)))
      (bit_off x (eqb-true (bit_and x c) 0 b) (15 - j)) (bit_off y (eqb-true (bit_and y c) 0 a) (15 - j))))))
      (λ b. ap₂ ◌&&◌ a b))
      (λ a. ap (λ o. o && eqb (bit_and x c) 0) a)))

-- ---- one entry

abbrev unless_stored : ℕ → ℕ
unless_stored e = cond (ltb (e % 256) 128) e 0

abbrev pub clean : ℕ → ℕ → Bool
clean any rest = eqb (bit_and any 48) 0 && eqb (bit_and rest 65343) 0

pub unless_lt : (e : ℕ) → e < 65536 → unless_stored e < 65536
unless_lt e h = test? (ltb (e % 256) 128) (λ z. rw z h) (λ z. rw z (omega arith))

and_48 : (e : ℕ) → bit_and e 48 ≡ e / 16 % 4 * 16
and_48 e = and_high e 2 4

and_65343 : (h l : ℕ) → h < 256 → l < 256 → bit_and (h + l * 256) 65343 ≡ l * 256 + h % 64
and_65343 h l a b =
    let q : h + l * 256 ≡ l * 2 ^ 8 + h = omega arith in
    ap (λ z. bit_and z 65343) q ∙ and_block 8 l 255 h 63 a (omega arith) ∙ ap₂ (λ x y. x * 256 + y) (and_mask l 8) (and_mask h 6) ∙ (let z : l % 256 ≡ l = omega arith in ap (λ x. x * 256 + h % 64) z)

module _ (h l : ℕ) (a : h < 256) (b : l < 256) where
  abbrev w : ℕ
  w = h * 256 + l

  abbrev e : ℕ
  e = h + l * 256

  block_is : w % 16384 ≡ h % 64 * 256 + l
  block_is = omega arith

  high_is : e / 16 % 4 ≡ h / 16 % 4
  high_is = omega arith

  high_clean : eqb (bit_and e 48) 0 ≡ ltb (w % 16384) 4096
  high_clean =
      ap (λ z. eqb z 0) (and_48 e)
      ∙ test? (ltb (w % 16384) 4096)
      (λ q. let k : h % 64 * 256 + l < 4096 = rw block_is at (ltb-true (w % 16384) 4096 q) in
      let z : h / 16 % 4 ≡ 0 = omega arith in eq-eqb (e / 16 % 4 * 16) 0 (ap (λ x. x * 16) (high_is ∙ z)) ∙ sym q)
      (λ q. let k : 4096 ≤ h % 64 * 256 + l = rw block_is at (ltb-false (w % 16384) 4096 q) in
      ne_eqb (e / 16 % 4 * 16) 0 (λ z. let y : h / 16 % 4 ≡ 0 = sym high_is ∙ (omega arith) in let x : h % 64 < 16 = omega arith in omega arith) ∙ sym q)

  low_clean : eqb (bit_and e 65343) 0 ≡ eqb (w % 16384) 0
  low_clean =
      ap (λ z. eqb z 0) (and_65343 h l a b)
      ∙ test? (eqb (w % 16384) 0)
      (λ q. let k : h % 64 * 256 + l ≡ 0 = sym block_is ∙ eqb-true (w % 16384) 0 q in let z : l * 256 + h % 64 ≡ 0 = omega arith in eq-eqb (l * 256 + h % 64) 0 z ∙ sym q)
      (λ q. let k = eqb-false (w % 16384) 0 q in ne_eqb (l * 256 + h % 64) 0 (λ z. let y : h % 64 * 256 + l ≡ 0 = omega arith in k (block_is ∙ y)) ∙ sym q)

  -- LAW: an entry by its two parts
  entry_clean : clean e (unless_stored e) ≡ plain w
  unfolding plain
  entry_clean =
      let m : e % 256 ≡ h = omega arith in
      test? (ltb h 128)
      (λ q. let k = ltb-true h 128 q in
      rw (m, q, high_clean, low_clean, lt-ltb w 32768 (omega arith)))
      (λ q. let k = ltb-false h 128 q in
      rw (m, q, high_clean, le-ltb w 32768 (omega arith)))

-- ---- all entries

and_swap : (a b c d : Bool) → ((a && b) && (c && d)) ≡ ((a && c) && (b && d))
and_swap true true c d = refl
and_swap true false true d = refl
and_swap true false false d = refl
and_swap false b c d = refl

module _ (t : List ℕ) (bs : Bytes t) (at : ℕ) where
  pub clean_none : clean 0 0 ≡ all 0 (plain_at t at)
  clean_none = sym (all_none (plain_at t at))

  -- LAW: one entry more
  pub clean_more : (i any rest e : ℕ) → any < 65536 → rest < 65536 → e ≡ low_word 1 t (at + i * 2) → clean any rest ≡ all i (plain_at t at)
      → clean (bit_or any e) (bit_or rest (unless_stored e)) ≡ all (i + 1) (plain_at t at)
  unfolding low_word get_word
  clean_more i any rest e ha hr q h =
      let x = get_or t (at + i * 2) 0 in
      let y = get_or t (at + i * 2 + 1) 0 in
      let bx = bs (at + i * 2) in
      let by = bs (at + i * 2 + 1) in
      let le : e < 65536 = omega arith in
      let lu = unless_lt e le in
      ap₂ ◌&&◌ (or_masked any e 48 ha le) (or_masked rest (unless_stored e) 65343 hr lu)
      ∙ and_swap (eqb (bit_and e 48) 0) (eqb (bit_and any 48) 0) (eqb (bit_and (unless_stored e) 65343) 0) (eqb (bit_and rest 65343) 0)
      ∙ ap₂ ◌&&◌ (ap (λ z. clean z (unless_stored z)) q ∙ entry_clean x y bx by) h
      ∙ sym (all_more i (plain_at t at)) ∙ ap (λ n. all n (plain_at t at)) (sym (add-one i))

  -- LAW: the end
  pub clean_not : (i any rest : ℕ) → i ≡ 64 → clean any rest ≡ all i (plain_at t at) → (bit_and any 48 ≡ 0 → ⊥) → false ≡ all 64 (plain_at t at)
  clean_not i any rest e h n = sym (ap (λ o. o && eqb (bit_and rest 65343) 0) (ne_eqb (bit_and any 48) 0 n)) ∙ h ∙ ap (λ n. all n (plain_at t at)) e

  pub clean_end : (i any rest : ℕ) → i ≡ 64 → clean any rest ≡ all i (plain_at t at) → bit_and any 48 ≡ 0 → eqb (bit_and rest 65343) 0 ≡ all 64 (plain_at t at)
  clean_end i any rest e h z = sym (ap (λ o. o && eqb (bit_and rest 65343) 0) (eq-eqb (bit_and any 48) 0 z)) ∙ h ∙ ap (λ n. all n (plain_at t at)) e
