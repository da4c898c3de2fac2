-- A word of up to 8 bytes is a word of 8 whose other bytes are 0: on the left, where the most significant byte comes first, on the right, where the least
-- significant one does. Assumes nothing.
use Rattle.std.specs.Prelude.{◌≡◌, List, ◌++◌, ℕ, zero, suc, ◌+◌, ◌-◌, ◌^◌, ◌<◌, ◌≤◌, get_or, length, take, drop, replicate}
use Rattle.std.proofs.Common.{◌∙◌, ap, sym, subst, arith, get_or-append-add, get_or-drop, length-drop}
use Rattle.std.proofs.lemmas.List.{get_or-take, get_or-replicate, get_or_past, length-take-le}
use Rattle.std.proofs.Math.Decide.{dec_lt}
use Rattle.std.proofs.Math.ListN.{get_or-append}
use Rattle.std.specs.Int.{from_be_bytes, from_le_bytes, w64}
use borrow.Rule.Slice.PartMut.{put_mid, post_of}
use Rattle.packing.specs.Words.{get_word, low_word, Bytes, get_lt}

-- bytes that are all 0
get_zeros : (k : ℕ) (b : List ℕ) → ((j : ℕ) → j ≤ k → get_or b j 0 ≡ 0) → get_word k b 0 ≡ 0
unfolding get_word
get_zeros zero b z = z 0 (omega arith)
get_zeros (suc k) b z =
    let e : 0 + suc k ≡ suc k = omega arith in
    let l : get_or b (0 + suc k) 0 ≡ 0 = rw e (z (suc k) (omega arith)) in
    omega (arith, get_zeros k b (λ j h. z j (omega arith)), l)

low_zeros : (k : ℕ) (b : List ℕ) (i : ℕ) → ((j : ℕ) → i ≤ j → j ≤ i + k → get_or b j 0 ≡ 0) → low_word k b i ≡ 0
unfolding low_word
low_zeros zero b i z = z i (omega arith) (omega arith)
low_zeros (suc k) b i z = omega (arith, low_zeros k b (i + 1) (λ j h l. z j (omega arith) (omega arith)), z i (omega arith) (omega arith))

-- LAW: d bytes 0, and then those of the word
pub get_widened : (d m : ℕ) (b t : List ℕ) (at : ℕ) → ((j : ℕ) → j < d → get_or b j 0 ≡ 0) → ((j : ℕ) → j ≤ m → get_or b (d + j) 0 ≡ get_or t (at + j) 0)
    → get_word (d + m) b 0 ≡ get_word m t at
unfolding get_word
get_widened zero zero b t at z h = let q : at + 0 ≡ at = omega arith in rw q at (h 0 (omega arith))
get_widened (suc d) zero b t at z h =
    let e : suc d + 0 ≡ suc d = omega arith in
    let q : at + 0 ≡ at = omega arith in
    let k : suc d + 0 ≡ 0 + suc d = omega arith in
    let r : get_or b (0 + suc d) 0 ≡ get_or t at 0 = rw (k, q) at (h 0 (omega arith)) in
    let g : get_word d b 0 ≡ 0 = get_zeros d b (λ j l. z j (omega arith)) in
    rw e (omega (arith, g, r))
get_widened d (suc m) b t at z h =
    let e : d + suc m ≡ suc (d + m) = omega arith in
    let i : get_word (d + m) b 0 ≡ get_word m t at = get_widened d m b t at z (λ j l. h j (omega arith)) in
    let k : d + suc m ≡ 0 + suc (d + m) = omega arith in
    let l : get_or b (0 + suc (d + m)) 0 ≡ get_or t (at + suc m) 0 = rw k at (h (suc m) (omega arith)) in
    rw (e, i) (omega (arith, l))

-- LAW: the bytes of the word, and then d bytes 0
pub low_widened : (d m : ℕ) (b t : List ℕ) (i at : ℕ) → ((j : ℕ) → m < j → j ≤ m + d → get_or b (i + j) 0 ≡ 0) → ((j : ℕ) → j ≤ m → get_or b (i + j) 0 ≡ get_or t (at + j) 0)
    → low_word (m + d) b i ≡ low_word m t at
unfolding low_word
low_widened zero zero b t i at z h =
    let e : i + 0 ≡ i = omega arith in
    let q : at + 0 ≡ at = omega arith in
    rw (e, q) at (h 0 (omega arith))
low_widened (suc d) zero b t i at z h =
    let n : 0 + suc d ≡ suc d = omega arith in
    let e : i + 0 ≡ i = omega arith in
    let q : at + 0 ≡ at = omega arith in
    let r : get_or b i 0 ≡ get_or t at 0 = rw (e, q) at (h 0 (omega arith)) in
    let g : low_word d b (i + 1) ≡ 0 = low_zeros d b (i + 1) (λ j a l. from_zero (j - i) j (omega arith) (omega arith) (omega arith)) in
    rw n (omega (arith, g, r))
  where
    from_zero : (k j : ℕ) → i + k ≡ j → 0 < k → k ≤ suc d → get_or b j 0 ≡ 0
    from_zero k j e a l = rw e at (z k a (omega arith))
low_widened d (suc m) b t i at z h =
    let n : suc m + d ≡ suc (m + d) = omega arith in
    let e : i + 0 ≡ i = omega arith in
    let q : at + 0 ≡ at = omega arith in
    let r : get_or b i 0 ≡ get_or t at 0 = rw (e, q) at (h 0 (omega arith)) in
    let g : low_word (m + d) b (i + 1) ≡ low_word m t (at + 1) = low_widened d m b t (i + 1) (at + 1) (λ j a l. zero_at j a l) (λ j l. same_at j l) in
    rw n (omega (arith, g, r))
  where
    zero_at : (j : ℕ) → m < j → j ≤ m + d → get_or b (i + 1 + j) 0 ≡ 0
    zero_at j a l = let e : i + suc j ≡ i + 1 + j = omega arith in rw e at (z (suc j) (omega arith) (omega arith))

    same_at : (j : ℕ) → j ≤ m → get_or b (i + 1 + j) 0 ≡ get_or t (at + 1 + j) 0
    same_at j l =
        let e : i + suc j ≡ i + 1 + j = omega arith in
        let q : at + suc j ≡ at + 1 + j = omega arith in
        rw (e, q) at (h (suc j) (omega arith))

pub low_lt : (m : ℕ) (t : List ℕ) (at : ℕ) → Bytes t → low_word m t at < 256 ^ suc m
unfolding low_word
low_lt zero t at h = h at
low_lt (suc m) t at h = omega (arith, low_lt m t (at + 1) h, h at)

abbrev pub zeros : List ℕ
zeros = replicate 8 0

zero_at : (j : ℕ) → get_or zeros j 0 ≡ 0
zero_at j = test_lt j
  where
    test_lt : (j : ℕ) → get_or zeros j 0 ≡ 0
    test_lt j = go (dec_lt j 8)
      where
        go : Dec (j < 8) → get_or zeros j 0 ≡ 0
        go (yes h) = get_or-replicate 8 j 0 0 h
        go (no h) = get_or_past zeros j 0 (omega arith)

-- the eight bytes: places from a on get the bytes u, and the others stay 0
abbrev pub eight : ℕ → ℕ → List ℕ → List ℕ
eight a k u = put_mid a k zeros u

-- eight bytes as one word
be_word : (b : List ℕ) → from_be_bytes w64 b ≡ get_word 7 b 0
unfolding get_word
be_word b = omega arith

le_word : (b : List ℕ) → from_le_bytes w64 b ≡ low_word 7 b 0
unfolding low_word
le_word b = omega arith

module _ (n : ℕ) (t u : List ℕ) (at : ℕ) (fits : at + n ≤ length t) (part : u ≡ take (at + n - at) (drop at t)) where
  part_len : length u ≡ n
  part_len = ap length part ∙ length-take-le _ _ (omega (arith, length-drop at t)) ∙ omega arith

  part_at : (i : ℕ) → i < n → get_or u i 0 ≡ get_or t (at + i) 0
  part_at i h = ap (λ l. get_or l i 0) part ∙ get_or-take (at + n - at) (drop at t) i 0 (omega arith) ∙ get_or-drop at t i 0

  module _ (a k : ℕ) (sum : a + n ≤ 8) where
    front_len : length (take a zeros) ≡ a
    front_len = length-take-le a zeros (omega arith)

    before : (j : ℕ) → j < a → get_or (eight a k u) j 0 ≡ 0
    before j h =
        get_or-append (take a zeros) (u ++ post_of a k zeros) 0 j (omega (arith, front_len))
        ∙ get_or-take a zeros j 0 h ∙ zero_at j

    within : (j : ℕ) → j < n → get_or (eight a k u) (a + j) 0 ≡ get_or t (at + j) 0
    within j h =
        ap (λ x. get_or (eight a k u) (x + j) 0) (sym front_len)
        ∙ get_or-append-add (take a zeros) (u ++ post_of a k zeros) j 0
        ∙ get_or-append u (post_of a k zeros) 0 j (omega (arith, part_len)) ∙ part_at j h

  -- LAW: the bytes of a word, the most significant first, at the end of the eight
  pub be_law : 0 < n → n ≤ 8 → Bytes t → (from_be_bytes w64 (eight (8 - n) (8 - (8 - n)) u) ≡ get_word (n - 1) t at) × (from_be_bytes w64 (eight (8 - n) (8 - (8 - n)) u) < 256 ^ n)
  be_law low high bs =
      let b : List ℕ = eight (8 - n) (8 - (8 - n)) u in
      let q : 8 - n + (n - 1) ≡ 7 = omega arith in
      let p : suc (n - 1) ≡ n = omega arith in
      let e : get_word 7 b 0 ≡ get_word (n - 1) t at =
      rw q at (get_widened (8 - n) (n - 1) b t at (before (8 - n) (8 - (8 - n)) (omega arith)) (λ j h. within (8 - n) (8 - (8 - n)) (omega arith) j (omega arith))) in
      (be_word b ∙ e, subst (λ x. x < 256 ^ n) (sym (be_word b ∙ e)) (subst (λ k. get_word (n - 1) t at < 256 ^ k) p (get_lt (n - 1) t at bs)))

  -- LAW: the least significant first, at the front
  pub le_law : 0 < n → n ≤ 8 → Bytes t → (from_le_bytes w64 (eight 0 n u) ≡ low_word (n - 1) t at) × (from_le_bytes w64 (eight 0 n u) < 256 ^ n)
  le_law low high bs =
      let b : List ℕ = eight 0 n u in
      let q : n - 1 + (8 - n) ≡ 7 = omega arith in
      let p : suc (n - 1) ≡ n = omega arith in
      let e : low_word 7 b 0 ≡ low_word (n - 1) t at =
      rw q at (low_widened (8 - n) (n - 1) b t 0 at (λ j h l. behind j (omega arith)) (λ j h. within 0 n (omega arith) j (omega arith))) in
      (le_word b ∙ e, subst (λ x. x < 256 ^ n) (sym (le_word b ∙ e)) (subst (λ k. low_word (n - 1) t at < 256 ^ k) p (low_lt (n - 1) t at bs)))
    where
      behind : (j : ℕ) → n ≤ j → get_or (eight 0 n u) (0 + j) 0 ≡ 0
      behind j h =
          let q : j ≡ length u + (j - n) = omega (arith, part_len) in
          ap (λ x. get_or (eight 0 n u) x 0) (omega arith ∙ q) ∙ get_or-append-add u (post_of 0 n zeros) (j - n) 0
          ∙ get_or-drop n (drop 0 zeros) (j - n) 0 ∙ get_or-drop 0 zeros (n + (j - n)) 0 ∙ zero_at (0 + (n + (j - n)))
