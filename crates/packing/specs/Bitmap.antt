-- A map of bits in a list of bytes: it begins at byte `at`, and the most significant bit of each byte comes first. One bit is set or cleared,
-- a word of the map is its bits, and a byte of it is made of eight. A word adds its ones to the count of set bits. Assumes nothing.
use Rattle.std.specs.Prelude.{◌≡◌, Bool, ◌≢◌, List, ◌++◌, eqb, length, set}
use Rattle.std.proofs.Math.Path.{refl, ap, fun_ext}
use Rattle.std.proofs.Common.{sym, ap₂, ◌∙◌, subst, add-zero, add-suc, get_or-set_same}
use Rattle.std.proofs.Math.Bool.{true, false}
use Prim.Native.Nat.{ℕ, zero, suc, ◌+◌, ◌-◌, ◌*◌, ◌/◌, ◌%◌, ◌^◌, ◌<◌, ◌≤◌}
use Rattle.std.proofs.Math.Decide.{dec_lt}
use native.Mathlib.Omega.{arith}
use Rattle.std.proofs.Math.Arith.{lt-one}
use Rattle.std.specs.Int.Bits.{bit_or, bit_and, or_zero_r, and_zero_r}
use Rattle.std.specs.Int.Count.{ones, ones_step}
use Rattle.std.proofs.lemmas.Nat.{ones_cat}
use Rattle.std.proofs.Math.ListN.{get_or-append, get_or, length-set}
use Rattle.std.proofs.Math.Pow.{pow-lt}
use Rattle.std.proofs.Math.Seq.{get_or-set_other}
use Rattle.base.specs.Logic.{same?, digit}
use Rattle.base.specs.Update.{upd, upd_same, upd_other}
use Rattle.base.specs.Count.{count}
use Rattle.packing.specs.Words.{get_word, low_word, Bytes, Same}
use Rattle.packing.specs.Bits.{bit, bit_lt, bit_zero, bit_suc, bit_not, bit_mod, bit_shr, bit_or_law, bit_and_law, bit_pow_same, bit_pow_other}

-- a binary digit as a Boolean
abbrev pub is_one : ℕ → Bool
is_one zero = false
is_one (suc n) = true

-- bit b of the map that begins at byte `at`
unfoldable pub bit_at : List ℕ → ℕ → ℕ → Bool
bit_at t at b = is_one (bit (get_or t (at + b / 8) 0) (7 - b % 8))

unfoldable pub set_bit : List ℕ → ℕ → ℕ → List ℕ
set_bit t at b = set t (at + b / 8) (bit_or (get_or t (at + b / 8) 0) (2 ^ (7 - b % 8)))

unfoldable pub clear_bit : List ℕ → ℕ → ℕ → List ℕ
clear_bit t at b = set t (at + b / 8) (bit_and (get_or t (at + b / 8) 0) (255 - 2 ^ (7 - b % 8)))

-- the number whose k digits are f base, .., f (base + k - 1), the most significant first
pub number : (ℕ → Bool) → ℕ → ℕ → ℕ
number f base zero = 0
number f base (suc k) = number f base k * 2 + digit (f (base + k))

-- byte k of the map whose bits are f
unfoldable pub map_byte : (ℕ → Bool) → ℕ → ℕ
map_byte f k = number f (k * 8) 8

-- the k digits of x are f base, .., f (base + k - 1), the most significant first
abbrev pub Digits : (ℕ → Bool) → ℕ → ℕ → ℕ → Type 0
Digits f base k x = (j : ℕ) → j < k → is_one (bit x (k - 1 - j)) ≡ f (base + j)

pub digit_lt : (b : Bool) → digit b < 2
digit_lt true = omega arith
digit_lt false = omega arith

-- a digit is compared with 1
pub is_one_law : (d : ℕ) → d < 2 → eqb d 1 ≡ is_one d
is_one_law zero h = refl
is_one_law (suc zero) h = refl
is_one_law (suc (suc d)) h = absurd (omega arith)

pub digit_one : (x : ℕ) → x < 2 → digit (is_one x) ≡ x
digit_one zero h = refl
digit_one (suc zero) h = refl
digit_one (suc (suc x)) h = absurd (omega arith)

pub one_digit : (b : Bool) → is_one (digit b) ≡ b
one_digit true = refl
one_digit false = refl

-- ---- one bit is set or cleared

-- LAW: a bit of the first of two lists, one behind the other
pub bit_front : (t u : List ℕ) (at b : ℕ) → at + b / 8 < length t → bit_at (t ++ u) at b ≡ bit_at t at b
unfolding bit_at
bit_front t u at b h = ap (λ x. is_one (bit x (7 - b % 8))) (get_or-append t u 0 (at + b / 8) h)

-- a byte whose digit for bit b is v, and whose other digits are as they were
put_bit : (t : List ℕ) (at b x : ℕ) (v : Bool) → at + b / 8 < length t → is_one (bit x (7 - b % 8)) ≡ v
    → ((k : ℕ) → k < 8 → k ≢ 7 - b % 8 → bit x k ≡ bit (get_or t (at + b / 8) 0) k)
    → bit_at (set t (at + b / 8) x) at ≡ upd (bit_at t at) b v
unfolding bit_at
put_bit t at b x v h one other =
    fun_ext (λ c. same? b c
    (λ e. subst (λ y. is_one (bit (get_or (set t (at + b / 8) x) (at + y / 8) 0) (7 - y % 8)) ≡ upd (bit_at t at) b v y) e
    (ap (λ y. is_one (bit y (7 - b % 8))) (get_or-set_same t (at + b / 8) x 0 h) ∙ one ∙ sym (upd_same (bit_at t at) b v)))
    (λ n. ap is_one (same? (c / 8) (b / 8)
    (λ e. rw (e, get_or-set_same t (at + b / 8) x 0 h) (other (7 - c % 8) (omega arith) (omega arith)))
    (λ d. ap (λ y. bit y (7 - c % 8)) (get_or-set_other t (at + b / 8) (at + c / 8) x 0 (λ q. d (omega arith)))))
    ∙ sym (upd_other (bit_at t at) b v c n)))

or_one : (x : ℕ) → x < 2 → bit_or x 1 ≡ 1
or_one zero h = refl
or_one (suc zero) h = refl
or_one (suc (suc x)) h = absurd (omega arith)

and_one : (x : ℕ) → x < 2 → bit_and x 1 ≡ x
and_one zero h = refl
and_one (suc zero) h = refl
and_one (suc (suc x)) h = absurd (omega arith)

-- the digits of 255 - 2 ^ s
complement_bit : (s k : ℕ) → s < 8 → k < 8 → bit (255 - 2 ^ s) k ≡ 1 - bit (2 ^ s) k
complement_bit s k hs hk = bit_not 8 k (2 ^ s) (pow-lt hs) hk

module _ (t : List ℕ) (at b : ℕ) where
  pub length_set_bit : length (set_bit t at b) ≡ length t
  unfolding set_bit
  length_set_bit = length-set t (at + b / 8) _

  pub length_clear_bit : length (clear_bit t at b) ≡ length t
  unfolding clear_bit
  length_clear_bit = length-set t (at + b / 8) _

  -- one byte is changed
  pub set_same : Same (at + b / 8) (at + b / 8 + 1) t (set_bit t at b)
  unfolding set_bit
  set_same i h = get_or-set_other t (at + b / 8) i _ 0 (λ e. h (omega arith) (omega arith))

  pub clear_same : Same (at + b / 8) (at + b / 8 + 1) t (clear_bit t at b)
  unfolding clear_bit
  clear_same i h = get_or-set_other t (at + b / 8) i _ 0 (λ e. h (omega arith) (omega arith))

  -- LAW: the bit is set, the others stay
  pub bits_set : at + b / 8 < length t → bit_at (set_bit t at b) at ≡ upd (bit_at t at) b true
  unfolding set_bit
  bits_set h =
      let s = 7 - b % 8 in
      let x = get_or t (at + b / 8) 0 in
      put_bit t at b (bit_or x (2 ^ s)) true h
      (ap is_one (bit_or_law x (2 ^ s) s ∙ ap (bit_or (bit x s)) (bit_pow_same s) ∙ or_one (bit x s) (bit_lt x s)))
      (λ k l d. bit_or_law x (2 ^ s) k ∙ ap (bit_or (bit x k)) (bit_pow_other s k d) ∙ or_zero_r (bit x k))

  -- LAW: the bit is cleared, the others stay
  pub bits_clear : at + b / 8 < length t → bit_at (clear_bit t at b) at ≡ upd (bit_at t at) b false
  unfolding clear_bit
  bits_clear h =
      let s = 7 - b % 8 in
      let x = get_or t (at + b / 8) 0 in
      let hole : (k : ℕ) → k < 8 → bit (255 - 2 ^ s) k ≡ 1 - bit (2 ^ s) k = (λ k l. complement_bit s k (omega arith) l) in
      put_bit t at b (bit_and x (255 - 2 ^ s)) false h
      (ap is_one (bit_and_law x (255 - 2 ^ s) s ∙ ap (bit_and (bit x s)) (hole s (omega arith) ∙ ap (λ (y : ℕ). 1 - y) (bit_pow_same s)) ∙ and_zero_r (bit x s)))
      (λ k l d. bit_and_law x (255 - 2 ^ s) k ∙ ap (bit_and (bit x k)) (hole k l ∙ ap (λ (y : ℕ). 1 - y) (bit_pow_other s k d)) ∙ and_one (bit x k) (bit_lt x k))

-- LAW: a bit whose byte lies outside the changed part is the same
pub bits_same : (lo hi : ℕ) (t t' : List ℕ) → Same lo hi t t' → (at b : ℕ) → (lo ≤ at + b / 8 → at + b / 8 < hi → ⊥) → bit_at t' at b ≡ bit_at t at b
unfolding bit_at
bits_same lo hi t t' s at b h = ap (λ x. is_one (bit x (7 - b % 8))) (s (at + b / 8) h)

-- ---- the bits of a word are those of the map, the first the most significant

word_digit : (m : ℕ) (t : List ℕ) (at i j : ℕ) → Bytes t → j < 8 * suc m
    → bit (get_word m t (at + i)) (8 * suc m - 1 - j) ≡ bit (get_or t (at + (8 * i + j) / 8) 0) (7 - (8 * i + j) % 8)
unfolding get_word
word_digit zero t at i j bs l =
    let e : at + (8 * i + j) / 8 ≡ at + i = omega arith in
    let f : 7 - (8 * i + j) % 8 ≡ 7 - j = omega arith in
    rw (e, f)
word_digit (suc m) t at i j bs l = go (λ h. word_digit m t at i j bs h) (dec_lt j (8 * suc m))
  where
    w : ℕ
    w = get_word m t (at + i)

    b : ℕ
    b = get_or t (at + i + suc m) 0

    goal : ℕ
    goal = bit (get_or t (at + (8 * i + j) / 8) 0) (7 - (8 * i + j) % 8)

    go : (j < 8 * suc m → bit w (8 * suc m - 1 - j) ≡ goal) → Dec (j < 8 * suc m) → bit (w * 256 + b) (8 * suc (suc m) - 1 - j) ≡ goal
    go ih (yes h) =
        let k = 8 * suc m - 1 - j in
        let e : 8 * suc (suc m) - 1 - j ≡ 8 + k = omega arith in
        let q : (w * 256 + b) / 256 ≡ w = omega (arith, bs (at + i + suc m)) in
        ap (bit (w * 256 + b)) e ∙ sym (bit_shr (w * 256 + b) 8 k) ∙ ap (λ (y : ℕ). bit y k) q ∙ ih h
    go ih (no n) =
        let c = j - 8 * suc m in
        let e : 8 * suc (suc m) - 1 - j ≡ 7 - c = omega arith in
        let q : (w * 256 + b) % 256 ≡ b = omega (arith, bs (at + i + suc m)) in
        let p : at + (8 * i + j) / 8 ≡ at + i + suc m = omega arith in
        let r : 7 - (8 * i + j) % 8 ≡ 7 - c = omega arith in
        ap (bit (w * 256 + b)) e ∙ sym (bit_mod 8 (7 - c) (w * 256 + b) (omega arith)) ∙ ap (λ (y : ℕ). bit y (7 - c)) q
        ∙ sym (ap₂ (λ (a d : ℕ). bit (get_or t a 0) d) p r)

-- LAW: the word at byte i of the map is its bits from bit 8 * i on
pub word_bit : (m : ℕ) (t : List ℕ) (at i : ℕ) → Bytes t → Digits (bit_at t at) (8 * i) (8 * suc m) (get_word m t (at + i))
unfolding bit_at
word_bit m t at i bs j l = ap is_one (word_digit m t at i j bs l)

-- ---- a number and its digits

module _ (f : ℕ → Bool) (base : ℕ) where
  first_digits : (k x : ℕ) → Digits f base (suc k) x → Digits f base k (x / 2)
  first_digits k x d j l =
      let e : suc (k - 1 - j) ≡ suc k - 1 - j = omega arith in
      ap is_one (sym (bit_suc x (k - 1 - j)) ∙ ap (bit x) e) ∙ d j (omega arith)

  last_digit : (k x : ℕ) → Digits f base (suc k) x → digit (f (base + k)) ≡ x % 2
  last_digit k x d =
      let e : suc k - 1 - k ≡ 0 = omega arith in
      ap digit (sym (d k (omega arith)) ∙ ap (λ n. is_one (bit x n)) e) ∙ digit_one (bit x 0) (bit_lt x 0) ∙ bit_zero x

  -- LAW: a word of k bits adds its ones to the count
  pub count_word : (k x : ℕ) → x < 2 ^ k → Digits f base k x → count (base + k) f ≡ count base f + ones x
  unfolding count ones
  count_word zero x h d = rw (add-zero base, lt-one h) (omega arith)
  count_word (suc k) x h d =
      ap (λ n. count n f) (add-suc base k)
      ∙ omega (arith, last_digit k x d, count_word k (x / 2) (omega arith) (first_digits k x d), ones_step x)

  pub number_lt : (k : ℕ) → number f base k < 2 ^ k
  unfolding number
  number_lt zero = omega arith
  number_lt (suc k) = omega (arith, number_lt k, digit_lt (f (base + k)))

  -- a number is made of its digits
  pub number_of : (k x : ℕ) → x < 2 ^ k → Digits f base k x → number f base k ≡ x
  unfolding number
  number_of zero x h d = omega arith
  number_of (suc k) x h d = omega (arith, last_digit k x d, number_of k (x / 2) (omega arith) (first_digits k x d))

  -- and has the digits that it is made of
  pub number_digits : (k : ℕ) → Digits f base k (number f base k)
  unfolding number
  number_digits zero j l = absurd (omega arith)
  number_digits (suc k) j l =
      let x = number f base k in
      let d = f (base + k) in
      same? j k
      (λ e. let z : suc k - 1 - j ≡ 0 = omega arith in
      let q : (x * 2 + digit d) % 2 ≡ digit d = omega (arith, digit_lt d) in
      rw z (ap is_one (bit_zero (x * 2 + digit d) ∙ q) ∙ one_digit d ∙ ap (λ n. f (base + n)) (sym e)))
      (λ n. let z : suc k - 1 - j ≡ suc (k - 1 - j) = omega arith in
      let q : (x * 2 + digit d) / 2 ≡ x = omega (arith, digit_lt d) in
      rw z (ap is_one (bit_suc (x * 2 + digit d) (k - 1 - j) ∙ ap (λ y. bit y (k - 1 - j)) q) ∙ number_digits k j (omega arith)))

  pub number_same : (g : ℕ → Bool) (k : ℕ) → ((j : ℕ) → j < k → g (base + j) ≡ f (base + j)) → number g base k ≡ number f base k
  unfolding number
  number_same g zero h = refl
  number_same g (suc k) h = rw (h k (omega arith), number_same g k (λ j l. h j (omega arith)))

-- ---- a byte of the map and its bits

-- LAW: the byte made of a byte's bits is that byte
pub map_byte_law : (t : List ℕ) (at k : ℕ) → Bytes t → map_byte (bit_at t at) k ≡ get_or t (at + k) 0
unfolding map_byte get_word
map_byte_law t at k bs =
    number_of (bit_at t at) (k * 8) 8 (get_or t (at + k) 0) (bs (at + k)) (λ j l.
    let e : 8 * k + j ≡ k * 8 + j = omega arith in
    word_bit zero t at k bs j l ∙ ap (bit_at t at) e)

-- LAW: a byte made of bits is a byte
pub map_lt : (f : ℕ → Bool) (k : ℕ) → map_byte f k < 256
unfolding map_byte
map_lt f k = number_lt f (k * 8) 8

-- LAW: the bits of a byte made of bits are those bits
pub map_bit : (f : ℕ → Bool) (k j : ℕ) → j < 8 → is_one (bit (map_byte f k) (7 - j)) ≡ f (k * 8 + j)
unfolding map_byte
map_bit f k j h = number_digits f (k * 8) 8 j h

-- a byte is made of its own eight bits alone
pub map_same : (f g : ℕ → Bool) (k : ℕ) → ((j : ℕ) → j < 8 → g (k * 8 + j) ≡ f (k * 8 + j)) → map_byte g k ≡ map_byte f k
unfolding map_byte
map_same f g k h = number_same f (k * 8) g 8 h

-- LAW: the bits of a list that has the bytes made of f are f
pub map_bits : (t : List ℕ) (at n : ℕ) (f : ℕ → Bool) → ((k : ℕ) → k < n → get_or t (at + k) 0 ≡ map_byte f k) → (b : ℕ) → b < 8 * n → bit_at t at b ≡ f b
unfolding bit_at
map_bits t at n f h b l =
    let e : b / 8 * 8 + b % 8 ≡ b = omega arith in
    ap (λ x. is_one (bit x (7 - b % 8))) (h (b / 8) (omega arith)) ∙ map_bit f (b / 8) (b % 8) (omega arith) ∙ ap f e

-- ---- the ones of a word, whatever the order of its bytes

-- LAW: the bytes i, .., i + m of the map add their ones to the count
pub count_low : (m : ℕ) (t : List ℕ) (at i : ℕ) → Bytes t → count (8 * i + 8 * suc m) (bit_at t at) ≡ count (8 * i) (bit_at t at) + ones (low_word m t (at + i))
unfolding low_word get_word
count_low zero t at i bs = count_word (bit_at t at) (8 * i) 8 (get_or t (at + i) 0) (bs (at + i)) (word_bit zero t at i bs)
count_low (suc m) t at i bs =
    let one = count_word (bit_at t at) (8 * i) 8 (get_or t (at + i) 0) (bs (at + i)) (word_bit zero t at i bs) in
    let e : 8 * i + 8 ≡ 8 * (i + 1) = omega arith in
    let d : 8 * i + 8 * suc (suc m) ≡ 8 * (i + 1) + 8 * suc m = omega arith in
    let p : at + i + 1 ≡ at + (i + 1) = omega arith in
    let rest = count_low m t at (i + 1) bs in
    let w = low_word m t (at + i + 1) in
    let x = get_or t (at + i) 0 in
    let swap : x + w * 256 ≡ w * 256 + x = omega arith in
    omega (arith, ones_cat 8 w x (bs (at + i)), ap ones swap, ap (λ n. count n (bit_at t at)) d, ap (λ n. count n (bit_at t at)) e, ap (λ n. ones (low_word m t n)) p)
