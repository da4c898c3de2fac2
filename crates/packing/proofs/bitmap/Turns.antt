-- The turns of the map's loops, and the ends of its search, over plain numbers and lists. Assumes nothing.
use mathlib.Core.Path.{◌≡◌, refl, sym, ap, ◌∙◌}
use mathlib.Core.Bool.{Bool, true, false, not}
use mathlib.Core.List.{List}
use Rattle.std.specs.Prelude.{Option, Some, None, MatchOption}
use Prim.Native.Nat.{ℕ, zero, suc, ◌+◌, ◌-◌, ◌*◌, ◌/◌, ◌%◌, ◌^◌, ◌<◌, ◌≤◌}
use native.Mathlib.Decide.{dec_lt}
use native.Mathlib.Omega.{arith}
use lib.Count.{ones, ones_step}
use native.Mathlib.Nat.{pow-suc}
use lib.Dec.{leb}
use lib.Pow.{shl_exact}
use borrow.Author.Tests.{le-leb}
use Rattle.base.specs.Count.{count, count_mono, count_not}
use Rattle.base.specs.Search.{first_free, first_ahead, first_round, first_full}
use Rattle.packing.specs.Words.{get_word, low_word, get_lt, Bytes}
use Rattle.packing.specs.Bits.{bit, bit_not, bit_mod, bit_shl, leading_clear, leading_set}
use Rattle.packing.specs.Bitmap.{is_one, bit_at, word_bit, count_low}
use Rattle.packing.specs.FirstFree.{found_of, FoundIn, FirstIn, scanned}

-- ---- one bit

-- `1 << s` in a byte
pub one_shl : (s : ℕ) → s < 8 → 1 * 2 ^ s % 256 ≡ 2 ^ s
one_shl s h = shl_exact {a = 1} 1 s 8 (omega arith) (omega arith) ∙ omega arith

-- ---- a word more is counted

pub counted : (t : List ℕ) (at i n w : ℕ) → Bytes t → w ≡ low_word 7 t (at + i * 8) → n ≡ count (64 * i) (bit_at t at) → n + ones w ≡ count (64 * (i + 1)) (bit_at t at)
counted t at i n w bs e h =
    let here : 8 * (i * 8) ≡ 64 * i = omega arith in
    let next : 8 * (i * 8) + 64 ≡ 64 * (i + 1) = omega arith in
    let word = count_low 7 t at (i * 8) bs in
    omega (arith, ap ones e, ap (λ k. count k (bit_at t at)) here, ap (λ k. count k (bit_at t at)) next)

-- the zeros and the ones of a word
pub zeros_ones : (k x : ℕ) → x < 2 ^ k → ones ((2 ^ k - 1) - x) + ones x ≡ k
unfolding ones
zeros_ones zero x h = let e : x ≡ 0 = omega arith in rw e
zeros_ones (suc k) x h =
    let y = (2 ^ suc k - 1) - x in
    let p = pow-suc 2 k in
    let q : y / 2 ≡ (2 ^ k - 1) - x / 2 = omega arith in
    omega (arith, ones_step y, ones_step x, ap ones q, zeros_ones k (x / 2) (omega arith))

-- ---- are enough bits clear: of the first 64 * i bits, n are

module _ (f : ℕ → Bool) (i n need : ℕ) (h : n + count (64 * i) f ≡ 64 * i) where
  clear_bits : count (64 * i) (λ b. not (f b)) ≡ n
  clear_bits = omega (arith, count_not (64 * i) f)

  -- enough, before the last word
  pub clear_enough : (words : ℕ) → i ≤ words → need ≤ n → true ≡ leb need (count (64 * words) (λ b. not (f b)))
  clear_enough words l e =
      sym (le-leb need (count (64 * words) (λ b. not (f b))) (omega (arith, clear_bits, count_mono (64 * i) (64 * words) (λ b. not (f b)) (omega arith))))

  -- after the last word
  pub clear_all : (words : ℕ) → i ≡ words → leb need n ≡ leb need (count (64 * words) (λ b. not (f b)))
  clear_all words e = ap (leb need) (sym clear_bits ∙ ap (λ k. count (64 * k) (λ b. not (f b))) e)

-- ---- one word of the search

-- from bit b on, in a word of which s bits stand before b, z bits in a row are set, and the next one is clear
pub record Scan (used : ℕ → Bool) (b s z : ℕ) : Type 0 where
  pub passed : (j : ℕ) → j < z → j + s < 64 → used (b + j) ≡ true
  pub free : z + s < 64 → used (b + z) ≡ false

clear_set : (d : ℕ) → 1 - d ≡ 0 → is_one d ≡ true
clear_set zero h = absurd (omega arith)
clear_set (suc d) h = refl

set_clear : (d : ℕ) → 1 - d ≡ 1 → is_one d ≡ false
set_clear zero h = refl
set_clear (suc d) h = absurd (omega arith)

module _ (t : List ℕ) (at b s i : ℕ) (bs : Bytes t) (e : b ≡ 8 * i + s) where
  abbrev word : ℕ
  word = get_word 7 t (at + i)

  abbrev turned : ℕ
  turned = ((2 ^ 64 - 1) - word) * 2 ^ s % 2 ^ 64

  inverted : (j : ℕ) → j + s < 64 → bit turned (63 - j) ≡ 1 - bit word (63 - (s + j))
  inverted j h =
      let n = (2 ^ 64 - 1) - word in
      let k = 63 - (s + j) in
      let a : 63 - j ≡ s + k = omega arith in
      bit_mod 64 (63 - j) (n * 2 ^ s) (omega arith) ∙ ap (bit (n * 2 ^ s)) a ∙ bit_shl n s k ∙ bit_not 64 k word (get_lt 7 t (at + i) bs) (omega arith)

  here : (j : ℕ) → j + s < 64 → is_one (bit word (63 - (s + j))) ≡ bit_at t at (b + j)
  here j h =
      let q : 8 * i + (s + j) ≡ b + j = omega arith in
      word_bit 7 t at i bs (s + j) (omega arith) ∙ ap (bit_at t at) q

  pub scan : Scan (bit_at t at) b s (scanned word s)
  scan =
      let low : turned < 2 ^ 64 = omega arith in
      record {
        passed = λ j l h. sym (here j h) ∙ clear_set (bit word (63 - (s + j))) (sym (inverted j h) ∙ leading_clear 64 turned j low l);
        free = λ h. let z = scanned word s in sym (here z h) ∙ set_clear (bit word (63 - (s + z))) (sym (inverted z h) ∙ leading_set 64 turned low (omega arith));
      }

-- ---- a turn of the search from lo on and below hi

-- every number from lo on and below b is used
pub record UsedTo (used : ℕ → Bool) (lo b : ℕ) : Type 0 where
  pub from : lo ≤ b
  pub passed : (c : ℕ) → lo ≤ c → c < b → used c ≡ true

-- what a turn knows: z bits in a row are set from b on in its word
pub record Turn (t : List ℕ) (at lo b z : ℕ) : Type 0 where
  pub bytes : Bytes t
  pub run : z ≡ scanned (get_word 7 t (at + b / 64 * 8)) (b % 64)
  pub before : UsedTo (bit_at t at) lo b

pub done : (used : ℕ → Bool) (lo hi b : ℕ) → UsedTo used lo b → hi ≤ b → FoundIn used lo hi None
done used lo hi b u h c a k = u.passed c a (omega arith)

-- the word has a clear bit at or after b: it is the answer, or it lies past hi; otherwise the search goes on at the next word
module _ (t : List ℕ) (at lo hi b z : ℕ) (k : Turn t at lo b z) where
  near : Scan (bit_at t at) b (b % 64) z
  near = rw k.run (scan t at b (b % 64) (b / 64 * 8) k.bytes (omega arith))

  more : (r : ℕ) → b ≤ r → r ≤ b + z → r + b % 64 ≤ b + 64 → UsedTo (bit_at t at) lo r
  more r h hz hs = record { from = omega (arith, k.before.from); passed = λ c a l. go c a l (dec_lt c b) }
    where
      go : (c : ℕ) → lo ≤ c → c < r → Dec (c < b) → bit_at t at c ≡ true
      go c a l (yes y) = k.before.passed c a y
      go c a l (no n) =
          let q : b + (c - b) ≡ c = omega arith in
          rw q at (near.passed (c - b) (omega arith) (omega arith))

  pub hit : z + b % 64 < 64 → b + z < hi → FoundIn (bit_at t at) lo hi (Some (b + z))
  hit hz h =
      let u = more (b + z) (omega arith) (omega arith) (omega arith) in
      record { low = u.from; high = h; passed = u.passed; free = near.free hz }

  pub past : z + b % 64 < 64 → hi ≤ b + z → b < hi → FoundIn (bit_at t at) lo hi None
  past hz h hb = (more hi (omega arith) (omega arith) (omega arith)).passed

  pub next : 64 ≤ z + b % 64 → UsedTo (bit_at t at) lo (b + (64 - b % 64))
  next hz = more (b + (64 - b % 64)) (omega arith) (omega arith) (omega arith)

-- ---- the two searches of one round

-- the first clear one is found ahead
ahead : (used : ℕ → Bool) (start limit a : ℕ) → FirstIn used start limit a → Some a ≡ found_of (first_free limit used start)
ahead used start limit a k = sym (ap found_of (first_ahead limit used start a k.low k.high k.passed k.free))

-- none is found ahead
module _ (used : ℕ → Bool) (start limit : ℕ) (s : start < limit) (k : (c : ℕ) → start ≤ c → c < limit → used c ≡ true) where
  round : (o : Option ℕ) → FoundIn used 0 start o → o ≡ found_of (first_free limit used start)
  round (Some b) j = sym (ap found_of (first_round limit used start b s j.high k (λ c m. j.passed c (omega arith) m) j.free))
  round None j = sym (ap found_of (first_full limit used start s (λ c m. go c m (dec_lt c start))))
    where
      go : (c : ℕ) → c < limit → Dec (c < start) → used c ≡ true
      go c m (yes y) = j c (omega arith) y
      go c m (no n) = k c (omega arith) m

-- the search from start on, and where it finds none, the one from 0
pub searched : (used : ℕ → Bool) (start limit : ℕ) → start < limit → (o r : Option ℕ) → FoundIn used start limit o
    → MatchOption o (FoundIn used 0 start r) (λ x. r ≡ Some x) → r ≡ found_of (first_free limit used start)
searched used start limit s (Some a) r k e = e ∙ ahead used start limit a k
searched used start limit s None r k j = round used start limit s k r j

-- the bit at start is clear
pub at_once : (used : ℕ → Bool) (start limit : ℕ) → start < limit → used start ≡ false → Some start ≡ found_of (first_free limit used start)
at_once used start limit h e =
    ahead used start limit start (record { low = omega arith; high = h; passed = λ c l m. absurd (omega arith); free = e })
