-- Blocks in a row that stand in one word of the map of the blocks seen: they become seen by one store, unless one of them is seen. Assumes nothing.
use mathlib.Core.Bool.{◌&&◌, Bool, beq, ◌||◌, false, true, true≢false}
use mathlib.Core.List.{List}
use mathlib.Core.Path.{ap, ap₂, refl, subst, sym, ◌∙◌, ◌≡◌}
use Prim.Native.Nat.{◌%◌, ◌*◌, ◌+◌, ◌-◌, ◌/◌, ◌<◌, ◌^◌, suc, zero, ℕ, ◌≤◌}
use native.Mathlib.Nat.{div-le_self, zero-add}
use native.Mathlib.Omega.{arith}
use lib.Bits.{and_lt, bit_and, bit_or, or_lt}
use lib.Dec.{ltb}
use lib.ListN.{get_or, length, set}
use lib.Seq.{get_or-set_other, get_or-set_same}
use borrow.Author.Tests.{lt-ltb, ltb-true}
use Rattle.base.specs.Count.{all, all_at, all_of}
use Rattle.base.specs.Logic.{and_false, digit, or_false, same?}
use Rattle.entrycheck.proofs.Counts.{counts_none, counts_some}
use Rattle.entrycheck.proofs.Runs.{in_run_law, in_run, not_in_run, run_counts, run_sum, run?, run_pass}
use Rattle.entrycheck.specs.Seeing.{Sees}
use Rattle.masks.proofs.Digits.{and_digit, or_digit, zero_digits}
use Rattle.packing.specs.Bitmap.{bit_at, bits_same, is_one, word_bit}
use Rattle.packing.specs.Bits.{bit, bit_and_law, bit_lt, bit_none, bit_or_law}
use Rattle.packing.specs.Words.{Bytes, get_lt, get_put_same, get_word, length_put, put_same, put_word}

-- ---- binary digits

and_left_false : (a b : Bool) → (a && b) ≡ false → b ≡ true → a ≡ false
and_left_false true b h k = absurd (true≢false (sym k ∙ h))
and_left_false false b h k = refl

-- LAW: a block is the limit or more
pub run_limit : (limit b n : ℕ) (l : List ℕ) → length l ≡ 512 → 0 < n → limit < b + n → Sees (run_pass limit b n) l l false
run_limit limit b n l len p h = record {
  sees = counts_none limit (run_pass limit b n) _ _ (run_counts limit b n) (bit_at l 0)
      (λ g o. let e = ltb-true (b + (n - 1)) limit (all_at n (λ j. ltb (b + j) limit) g (n - 1) (omega arith)) in omega arith);
  len = len;
}

-- ---- the word of the bytes i, .., i + m of the map l, in which y has the digits s, .., s + n - 1

module _ (m : ℕ) (l : List ℕ) (bs : Bytes l) (i y s n : ℕ) (fit : s + n ≤ 8 * suc m)
    (hy : (j : ℕ) → j < 8 * suc m → is_one (bit y (8 * suc m - 1 - j)) ≡ in_run s n j) where
  abbrev x : ℕ
  x = get_word m l i

  seen_bit : (j : ℕ) → j < 8 * suc m → is_one (bit x (8 * suc m - 1 - j)) ≡ bit_at l 0 (8 * i + j)
  seen_bit j h = ap (λ a. is_one (bit (get_word m l a) (8 * suc m - 1 - j))) (sym (zero-add i)) ∙ word_bit m l 0 i bs j h

  both : (j : ℕ) → j < 8 * suc m → is_one (bit (bit_and x y) (8 * suc m - 1 - j)) ≡ (bit_at l 0 (8 * i + j) && in_run s n j)
  both j h =
      let k = 8 * suc m - 1 - j in
      ap is_one (bit_and_law x y k) ∙ and_digit (bit x k) (bit y k) (bit_lt x k) (bit_lt y k) ∙ ap₂ ◌&&◌ (seen_bit j h) (hy j h)

  -- LAW: none of the blocks is seen
  unseen : bit_and x y ≡ 0 → (c : ℕ) → 8 * i + s ≤ c → c < 8 * i + s + n → bit_at l 0 c ≡ false
  unseen e c h k =
      let j = c - 8 * i in
      let q : 8 * i + j ≡ c = omega arith in
      let b = sym (both j (omega arith)) ∙ ap (λ z. is_one (bit z (8 * suc m - 1 - j))) e ∙ ap is_one (bit_none (8 * suc m - 1 - j)) in
      ap (bit_at l 0) (sym q) ∙ and_left_false (bit_at l 0 (8 * i + j)) (in_run s n j) b (in_run_law s n j (omega arith) (omega arith))

  -- LAW: where none is, no digit is common
  apart : bit_and x y < 2 ^ (8 * suc m) → ((c : ℕ) → 8 * i + s ≤ c → c < 8 * i + s + n → bit_at l 0 c ≡ false) → bit_and x y ≡ 0
  apart lt h =
      zero_digits (8 * suc m) (bit_and x y) lt (λ j k. both j k ∙ run? s n j
      (λ a b. ap (λ z. z && in_run s n j) (h (8 * i + j) (omega arith) (omega arith)))
      (λ o. ap (λ z. bit_at l 0 (8 * i + j) && z) (not_in_run s n j o) ∙ and_false (bit_at l 0 (8 * i + j))))

  -- the digits of y are set
  abbrev l' : List ℕ
  l' = put_word m l i (bit_or x y)

  module _ (hi : i + m < length l) (hv : bit_or x y < 256 ^ suc m) (bs' : Bytes l') where
    new_bit : (j : ℕ) → j < 8 * suc m → bit_at l' 0 (8 * i + j) ≡ (bit_at l 0 (8 * i + j) || in_run s n j)
    new_bit j h =
        let k = 8 * suc m - 1 - j in
        sym (ap (λ a. is_one (bit (get_word m l' a) k)) (sym (zero-add i)) ∙ word_bit m l' 0 i bs' j h)
        ∙ ap (λ z. is_one (bit z k)) (get_put_same m l i (bit_or x y) hi hv) ∙ ap is_one (bit_or_law x y k) ∙ or_digit (bit x k) (bit y k) (bit_lt x k) (bit_lt y k)
        ∙ ap₂ ◌||◌ (seen_bit j h) (hy j h)

    shifted : (j : ℕ) → in_run s n j ≡ in_run (8 * i + s) n (8 * i + j)
    shifted j = run? s n j (λ a b. in_run_law s n j a b ∙ sym (in_run_law (8 * i + s) n (8 * i + j) (omega arith) (omega arith))) (λ o. not_in_run s n j o ∙ sym (not_in_run (8 * i + s) n (8 * i + j) (λ a b. o (omega arith) (omega arith))))

    -- LAW: the blocks are seen, and the others stay
    now_seen : (c : ℕ) → bit_at l' 0 c ≡ (bit_at l 0 c || in_run (8 * i + s) n c)
    now_seen c =
        run? (8 * i) (8 * suc m) c
        (λ a b. let j = c - 8 * i in
        let q : 8 * i + j ≡ c = omega arith in
        ap (bit_at l' 0) (sym q) ∙ new_bit j (omega arith) ∙ ap (λ z. bit_at l 0 (8 * i + j) || z) (shifted j) ∙ ap (λ z. bit_at l 0 z || in_run (8 * i + s) n z) q)
        (λ o. bits_same i (i + suc m) l l' (put_same m l i (bit_or x y)) 0 c (λ a b. o (omega arith) (omega arith))
        ∙ sym (ap (λ z. bit_at l 0 c || z) (not_in_run (8 * i + s) n c (λ a b. o (omega arith) (omega arith))) ∙ or_false (bit_at l 0 c)))

  -- ---- the pass over the blocks

  module _ (limit : ℕ) (len : length l ≡ 512) where
    one_more : (a r : Bool) → (r ≡ true → a ≡ false) → digit (a || r) ≡ digit a + digit r
    one_more true true h = absurd (true≢false (h refl))
    one_more true false h = refl
    one_more false true h = refl
    one_more false false h = refl

    -- LAW: a block is seen
    run_clash : bit_and x y < 2 ^ (8 * suc m) → (bit_and x y ≡ 0 → ⊥) → Sees (run_pass limit (8 * i + s) n) l l false
    run_clash lt hit = record {
      sees = counts_none limit (run_pass limit (8 * i + s) n) _ _ (run_counts limit (8 * i + s) n) (bit_at l 0)
          (λ g o. hit (apart lt (λ c a b. none_seen (bit_at l 0 c) (let q = run_sum (8 * i + s) n c in let d = in_run_law (8 * i + s) n c a b in omega (arith, o c, ap digit d)))));
      len = len;
    }
      where
        none_seen : (a : Bool) → digit a ≤ 0 → a ≡ false
        none_seen true h = absurd (omega arith)
        none_seen false h = refl

    -- LAW: the blocks become seen
    run_seen : (hi : i + m < length l) (hv : bit_or x y < 256 ^ suc m) (bs' : Bytes l') → 8 * i + s + n ≤ limit → bit_and x y ≡ 0 → Sees (run_pass limit (8 * i + s) n) l l' true
    run_seen hi hv bs' h e = record {
      sees = counts_some limit (run_pass limit (8 * i + s) n) _ _ (run_counts limit (8 * i + s) n) (bit_at l 0) (bit_at l' 0)
          (all_of n (λ j. ltb (8 * i + s + j) limit) (λ j k. lt-ltb (8 * i + s + j) limit (omega arith)))
          (λ c. ap digit (now_seen hi hv bs' c)
          ∙ one_more (bit_at l 0 c) (in_run (8 * i + s) n c) (λ r. run? (8 * i + s) n c (λ a b. unseen e c a b) (λ o. absurd (true≢false (sym r ∙ not_in_run (8 * i + s) n c o))))
          ∙ ap (λ z. digit (bit_at l 0 c) + z) (sym (run_sum (8 * i + s) n c)));
      len = length_put m l i (bit_or x y) ∙ len;
    }

-- ---- one block, and four

-- the digits of the masks that the code makes
one_table : all 8 (λ s. all 8 (λ j. beq (is_one (bit (128 / 2 ^ s) (7 - j))) (in_run s 1 j))) ≡ true
unfolding all bit in_run
one_table = refl

four_table : all 61 (λ s. all 64 (λ j. beq (is_one (bit (0xF000000000000000 / 2 ^ s) (63 - j))) (in_run s 4 j))) ≡ true
unfolding all bit in_run
four_table = refl

same : (a b : Bool) → beq a b ≡ true → a ≡ b
same true true h = refl
same true false h = sym h
same false true h = h
same false false h = refl

one_digits : (s j : ℕ) → s < 8 → j < 8 → is_one (bit (128 / 2 ^ s) (7 - j)) ≡ in_run s 1 j
one_digits s j h k =
    same _ _ (all_at 8 (λ j. beq (is_one (bit (128 / 2 ^ s) (7 - j))) (in_run s 1 j)) (all_at 8 (λ s. all 8 (λ j. beq (is_one (bit (128 / 2 ^ s) (7 - j))) (in_run s 1 j))) one_table s h) j k)

four_digits : (s j : ℕ) → s < 61 → j < 64 → is_one (bit (0xF000000000000000 / 2 ^ s) (63 - j)) ≡ in_run s 4 j
four_digits s j h k =
    same _ _ (all_at 64 (λ j. beq (is_one (bit (0xF000000000000000 / 2 ^ s) (63 - j))) (in_run s 4 j))
    (all_at 61 (λ s. all 64 (λ j. beq (is_one (bit (0xF000000000000000 / 2 ^ s) (63 - j))) (in_run s 4 j))) four_table s h) j k)

-- a word of bytes is put
bytes_set : (l : List ℕ) (i v : ℕ) → i < length l → v < 256 → Bytes l → Bytes (set l i v)
bytes_set l i v h k bs j =
    same? j i
    (λ e. subst (λ z. z < 256) (sym (ap (λ z. get_or (set l i v) z 0) e ∙ get_or-set_same l i v 0 h)) k)
    (λ n. subst (λ z. z < 256) (sym (get_or-set_other l i j v 0 n)) (bs j))

bytes_put : (m : ℕ) (l : List ℕ) (i v : ℕ) → i + m < length l → v < 256 ^ suc m → Bytes l → Bytes (put_word m l i v)
unfolding put_word
bytes_put zero l i v h k bs = bytes_set l i v (omega arith) (omega arith) bs
bytes_put (suc m) l i v h k bs =
    bytes_set (put_word m l i (v / 256)) (i + suc m) (v % 256) (rw (length_put m l i (v / 256)) h) (omega arith) (bytes_put m l i (v / 256) (omega arith) (omega arith) bs)

shr_le : (x s : ℕ) → x / 2 ^ s ≤ x
shr_le x s = div-le_self x (2 ^ s)

pub four_lt : (x b : ℕ) → x < 256 ^ 8 → bit_or x (0xF000000000000000 / 2 ^ (b % 64)) < 256 ^ 8
four_lt x b h = or_lt 64 x (0xF000000000000000 / 2 ^ (b % 64)) h (let q = shr_le 0xF000000000000000 (b % 64) in omega arith)

module _ (limit : ℕ) (l : List ℕ) (bs : Bytes l) (len : length l ≡ 512) (b : ℕ) where
  at_block : 8 * (b / 8) + b % 8 ≡ b
  at_block = omega arith

  abbrev Run : ℕ → List ℕ → Bool → Type 0
  Run n l' ok = Sees (run_pass limit b n) l l' ok

  moved : (n : ℕ) (l' : List ℕ) (ok : Bool) → Sees (run_pass limit (8 * (b / 8) + b % 8) n) l l' ok → Run n l' ok
  moved n l' ok h = subst (λ c. Sees (run_pass limit c n) l l' ok) at_block h

  module _ (h : b < 4096) where
    abbrev byte1 : ℕ
    byte1 = get_or l (b / 8) 0

    abbrev mask1 : ℕ
    mask1 = 128 / 2 ^ (b % 8)

    -- LAWS: one block
    pub one_clash : (bit_and byte1 mask1 ≡ 0 → ⊥) → Run 1 l false
    unfolding get_word
    one_clash k = moved 1 l false (run_clash zero l bs (b / 8) mask1 (b % 8) 1 (omega arith) (λ j q. one_digits (b % 8) j (omega arith) q) limit len
        (and_lt 8 byte1 mask1 (bs (b / 8)) (let q = shr_le 128 (b % 8) in omega arith)) k)

    pub one_seen : b < limit → bit_and byte1 mask1 ≡ 0 → Run 1 (set l (b / 8) (bit_or byte1 mask1)) true
    unfolding get_word put_word
    one_seen k e =
        let v : bit_or byte1 mask1 < 256 = or_lt 8 byte1 mask1 (bs (b / 8)) (let q = shr_le 128 (b % 8) in omega arith) in
        moved 1 _ true (run_seen zero l bs (b / 8) mask1 (b % 8) 1 (omega arith) (λ j q. one_digits (b % 8) j (omega arith) q) limit len
        (omega arith) v (bytes_set l (b / 8) (bit_or byte1 mask1) (omega arith) v bs) (omega arith) e)

  module _ (h : b < 4096) (room : b % 64 < 61) where
    abbrev word8 : ℕ
    word8 = get_word 7 l (b / 64 * 8)

    abbrev mask8 : ℕ
    mask8 = 0xF000000000000000 / 2 ^ (b % 64)

    at_word : 8 * (b / 64 * 8) + b % 64 ≡ b
    at_word = omega arith

    -- LAWS: four blocks
    pub four_clash : (bit_and word8 mask8 ≡ 0 → ⊥) → Run 4 l false
    four_clash k =
        subst (λ c. Sees (run_pass limit c 4) l l false) at_word
        (run_clash 7 l bs (b / 64 * 8) mask8 (b % 64) 4 (omega arith) (λ j q. four_digits (b % 64) j room q) limit len
        (and_lt 64 word8 mask8 (get_lt 7 l (b / 64 * 8) bs) (let q = shr_le 0xF000000000000000 (b % 64) in omega arith)) k)

    pub four_seen : b + 3 < limit → bit_and word8 mask8 ≡ 0 → Run 4 (put_word 7 l (b / 64 * 8) (bit_or word8 mask8)) true
    four_seen k e =
        let v : bit_or word8 mask8 < 256 ^ 8 = or_lt 64 word8 mask8 (get_lt 7 l (b / 64 * 8) bs) (let q = shr_le 0xF000000000000000 (b % 64) in omega arith) in
        subst (λ c. Sees (run_pass limit c 4) l (put_word 7 l (b / 64 * 8) (bit_or word8 mask8)) true) at_word
        (run_seen 7 l bs (b / 64 * 8) mask8 (b % 64) 4 (omega arith) (λ j q. four_digits (b % 64) j room q) limit len
        (omega arith) v (bytes_put 7 l (b / 64 * 8) (bit_or word8 mask8) (omega arith) v bs) (omega arith) e)
