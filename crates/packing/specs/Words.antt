-- A big-endian word at a byte offset of a list of bytes. The number m says its last byte: the word is the bytes at, .., at + m, so it has m + 1 of them.
-- The laws hold for every m; words of 16, 24, 32 and 64 bits have m = 1, 2, 3 and 7. A word whose first byte is the least significant is `low_word`. Assumes nothing.
use Rattle.std.specs.Prelude.{◌≡◌, refl, cond, ◌⊎◌, List, ◌++◌, ℕ, zero, suc, ◌+◌, ◌*◌, ◌/◌, ◌%◌, ◌^◌, ◌<◌, ◌≤◌, eqb, length, get_or, set}
use Rattle.std.proofs.Common.{ap, ap₂, sym, ◌∙◌, inl, inr, ⊎_elim, add-zero, div-add-mod', mul_comm, pow-suc, arith, length-set, get_or-append-add, get_or-set_same, get_or-set_other, eq-eqb, ne_eqb}
use Rattle.std.proofs.Math.Decide.{dec_lt}
use Rattle.std.proofs.Math.Nat.{div-div-eq-div-mul}
use Rattle.std.proofs.Math.Arith.{mod-mul}
use Rattle.std.proofs.Math.ListN.{get_or-append}
use Rattle.base.specs.Logic.{same?}

unfoldable pub get_word : ℕ → List ℕ → ℕ → ℕ
get_word zero t at = get_or t at 0
get_word (suc m) t at = get_word m t at * 256 + get_or t (at + suc m) 0

unfoldable pub put_word : ℕ → List ℕ → ℕ → ℕ → List ℕ
put_word zero t at v = set t at v
put_word (suc m) t at v = set (put_word m t at (v / 256)) (at + suc m) (v % 256)

-- the word of the bytes at, .., at + m whose first byte is the least significant
unfoldable pub low_word : ℕ → List ℕ → ℕ → ℕ
low_word zero t at = get_or t at 0
low_word (suc m) t at = get_or t at 0 + low_word m t (at + 1) * 256

-- every element is a byte
abbrev pub Bytes : List ℕ → Type 0
Bytes t = (i : ℕ) → get_or t i 0 < 256

-- byte j of the word w, whose last byte is byte m
unfoldable pub byte : ℕ → ℕ → ℕ → ℕ
byte zero w j = w
byte (suc m) w j = cond (eqb j (suc m)) (w % 256) (byte m (w / 256) j)

-- t' is t, but for the bytes from lo on and below hi
abbrev pub Same : ℕ → ℕ → List ℕ → List ℕ → Type 0
Same lo hi t t' = (i : ℕ) → (lo ≤ i → i < hi → ⊥) → get_or t' i 0 ≡ get_or t i 0

-- ---- a word that is put

pub length_put : (m : ℕ) (t : List ℕ) (at v : ℕ) → length (put_word m t at v) ≡ length t
unfolding put_word
length_put zero t at v = length-set t at v
length_put (suc m) t at v = length-set (put_word m t at (v / 256)) (at + suc m) (v % 256) ∙ length_put m t at (v / 256)

-- a byte put outside the word leaves it
pub get_set_other : (m : ℕ) (t : List ℕ) (at i b : ℕ) → (i < at) ⊎ (at + m < i) → get_word m (set t i b) at ≡ get_word m t at
unfolding get_word
get_set_other zero t at i b h = get_or-set_other t i at b 0 (⊎_elim (λ l. omega arith) (λ l. omega arith) h)
get_set_other (suc m) t at i b h =
    ap₂ (λ (x y : ℕ). x * 256 + y)
    (get_set_other m t at i b (⊎_elim (λ l. inl l) (λ l. inr (omega arith)) h))
    (get_or-set_other t i (at + suc m) b 0 (⊎_elim (λ l. omega arith) (λ l. omega arith) h))

pub get_put_same : (m : ℕ) (t : List ℕ) (at v : ℕ) → at + m < length t → v < 256 ^ suc m → get_word m (put_word m t at v) at ≡ v
unfolding get_word put_word
get_put_same zero t at v h l = get_or-set_same t at v 0 (omega arith)
get_put_same (suc m) t at v h l =
    let u = put_word m t at (v / 256) in
    ap₂ (λ (x y : ℕ). x * 256 + y)
    (get_set_other m u at (at + suc m) (v % 256) (inr (omega arith)) ∙ get_put_same m t at (v / 256) (omega arith) (omega arith))
    (get_or-set_same u (at + suc m) (v % 256) 0 (rw length_put (omega arith)))
    ∙ div-add-mod' v 256

pub get_put_other : (k m : ℕ) (t : List ℕ) (a b v : ℕ) → (a + k < b) ⊎ (b + m < a) → get_word k (put_word m t b v) a ≡ get_word k t a
unfolding put_word
get_put_other k zero t a b v h = get_set_other k t a b v (⊎_elim (λ l. inr l) (λ l. inl (omega arith)) h)
get_put_other k (suc m) t a b v h =
    get_set_other k (put_word m t b (v / 256)) a (b + suc m) (v % 256) (⊎_elim (λ l. inr (omega arith)) (λ l. inl l) h)
    ∙ get_put_other k m t a b (v / 256) (⊎_elim (λ l. inl l) (λ l. inr (omega arith)) h)

-- a byte outside the word
pub byte_put_other : (m : ℕ) (t : List ℕ) (i b v : ℕ) → (i < b) ⊎ (b + m < i) → get_or (put_word m t b v) i 0 ≡ get_or t i 0
unfolding get_word
byte_put_other m t i b v h = get_put_other zero m t i b v (⊎_elim (λ l. inl (omega arith)) (λ l. inr l) h)

pub get_lt : (m : ℕ) (t : List ℕ) (at : ℕ) → Bytes t → get_word m t at < 256 ^ suc m
unfolding get_word
get_lt zero t at h = h at
get_lt (suc m) t at h = omega (arith, get_lt m t at h, h (at + suc m))

-- ---- lists that are the same outside a part

-- a word outside the part is the same
pub word_same : (lo hi : ℕ) (t t' : List ℕ) → Same lo hi t t' → (m at : ℕ) → ((j : ℕ) → j ≤ m → lo ≤ at + j → at + j < hi → ⊥) → get_word m t' at ≡ get_word m t at
unfolding get_word
word_same lo hi t t' s zero at h = s at (λ a b. h 0 (omega arith) (omega arith) (omega arith))
word_same lo hi t t' s (suc m) at h = rw (word_same lo hi t t' s m at (λ j k. h j (omega arith)), s (at + suc m) (h (suc m) (omega arith)))

-- a word put changes its bytes alone
pub put_same : (m : ℕ) (t : List ℕ) (at v : ℕ) → Same at (at + suc m) t (put_word m t at v)
put_same m t at v i h = byte_put_other m t i at v (go (dec_lt i at))
  where
    go : Dec (i < at) → (i < at) ⊎ (at + m < i)
    go (yes l) = inl l
    go (no n) = go2 (dec_lt (at + m) i)
      where
        go2 : Dec (at + m < i) → (i < at) ⊎ (at + m < i)
        go2 (yes l) = inr l
        go2 (no k) = absurd (h (omega arith) (omega arith))

-- ---- two lists, one behind the other

-- a word of the first
pub get_front : (m : ℕ) (t u : List ℕ) (at : ℕ) → at + m < length t → get_word m (t ++ u) at ≡ get_word m t at
unfolding get_word
get_front zero t u at h = get_or-append t u 0 at (omega arith)
get_front (suc m) t u at h = ap₂ (λ (x y : ℕ). x * 256 + y) (get_front m t u at (omega arith)) (get_or-append t u 0 (at + suc m) (omega arith))

-- a word of the second
pub get_behind : (m : ℕ) (t u : List ℕ) (at : ℕ) → get_word m (t ++ u) (length t + at) ≡ get_word m u at
unfolding get_word
get_behind zero t u at = get_or-append-add t u at 0
get_behind (suc m) t u at =
    let q : length t + at + suc m ≡ length t + (at + suc m) = omega arith in
    ap₂ (λ (x y : ℕ). x * 256 + y) (get_behind m t u at) (ap (λ k. get_or (t ++ u) k 0) q ∙ get_or-append-add t u (at + suc m) 0)

-- ---- a word and its bytes

pub word_byte : (m : ℕ) (t : List ℕ) (at j : ℕ) → Bytes t → j ≤ m → byte m (get_word m t at) j ≡ get_or t (at + j) 0
unfolding byte get_word
word_byte zero t at j bs h = let e : at + j ≡ at = omega arith in rw e
word_byte (suc m) t at j bs h =
    let x = get_word m t at in
    let y = get_or t (at + suc m) 0 in
    let hi : (x * 256 + y) / 256 ≡ x = omega (arith, bs (at + suc m)) in
    let lo : (x * 256 + y) % 256 ≡ y = omega (arith, bs (at + suc m)) in
    same? j (suc m)
    (λ e. rw (eq-eqb j (suc m) e, lo, e))
    (λ n. rw (ne_eqb j (suc m) n, hi) (word_byte m t at j bs (omega arith)))

pub bytes_word : (m : ℕ) (t : List ℕ) (at w : ℕ) → ((j : ℕ) → j ≤ m → get_or t (at + j) 0 ≡ byte m w j) → get_word m t at ≡ w
unfolding byte get_word
bytes_word zero t at w h = rw add-zero at (h 0 (omega arith))
bytes_word (suc m) t at w h =
    let l : get_or t (at + suc m) 0 ≡ w % 256 = h (suc m) (omega arith) ∙ rw (eq-eqb (suc m) (suc m) refl) in
    let r : get_word m t at ≡ w / 256 = bytes_word m t at (w / 256) (λ j k. h j (omega arith) ∙ rw (ne_eqb j (suc m) (omega arith))) in
    rw (l, r) (div-add-mod' w 256)

-- the bytes of a word that fits are bytes
pub byte_lt : (m w j : ℕ) → w < 256 ^ suc m → byte m w j < 256
unfolding byte
byte_lt zero w j h = omega arith
byte_lt (suc m) w j h =
    same? j (suc m)
    (λ e. rw (eq-eqb j (suc m) e) (omega arith))
    (λ n. rw (ne_eqb j (suc m) n) (byte_lt m (w / 256) j (omega arith)))

-- the bytes of a word whose first byte alone may be other than 0
pub byte_first : (m x j : ℕ) → j ≤ m → byte m (x * 256 ^ m) j ≡ cond (eqb j 0) x 0
unfolding byte
byte_first zero x j h =
    let e : j ≡ 0 = omega arith in
    let q : x * 256 ^ zero ≡ x = omega arith in
    rw (e, q)
byte_first (suc m) x j h =
    let w : ℕ = x * 256 ^ m in
    let q : x * 256 ^ suc m ≡ w * 256 = ap (λ n. x * n) (pow-suc 256 m) ∙ omega arith in
    let hi : w * 256 / 256 ≡ w = omega arith in
    let lo : w * 256 % 256 ≡ 0 = omega arith in
    same? j (suc m)
    (λ e. rw (q, eq-eqb j (suc m) e, lo, ne_eqb j 0 (omega arith)))
    (λ n. rw (q, ne_eqb j (suc m) n, hi) (byte_first m x j (omega arith)))

pub some_bytes : (k : ℕ) → 0 < 256 ^ k
some_bytes zero = omega arith
some_bytes (suc k) = omega (arith, some_bytes k)

-- a word is put as two, of m + 1 and of k + 1 bytes
pub put_parts : (m k : ℕ) (t : List ℕ) (at v : ℕ) → put_word k (put_word m t at (v / 256 ^ suc k)) (at + suc m) (v % 256 ^ suc k) ≡ put_word (suc (m + k)) t at v
unfolding put_word
put_parts m zero t at v =
    let e : m + 0 ≡ m = omega arith in
    rw e
put_parts m (suc k) t at v =
    let d : 256 ^ suc (suc k) ≡ 256 ^ suc k * 256 = pow-suc 256 (suc k) in
    let i : at + suc m + suc k ≡ at + suc (m + suc k) = omega arith in
    let j : m + suc k ≡ suc (m + k) = omega arith in
    let q : v / 256 ^ suc (suc k) ≡ v / 256 / 256 ^ suc k = ap (λ p. v / p) (d ∙ mul_comm (256 ^ suc k) 256) ∙ sym (div-div-eq-div-mul v 256 (256 ^ suc k)) in
    let n : v % 256 ^ suc (suc k) ≡ v / 256 % 256 ^ suc k * 256 + v % 256 = ap (λ p. v % p) d ∙ mod-mul v (some_bytes (suc k)) (omega arith) in
    let r : v % 256 ^ suc (suc k) / 256 ≡ v / 256 % 256 ^ suc k = ap (λ x. x / 256) n ∙ (joined (v / 256 % 256 ^ suc k) (v % 256) (omega arith)).0 in
    let w : v % 256 ^ suc (suc k) % 256 ≡ v % 256 = ap (λ x. x % 256) n ∙ (joined (v / 256 % 256 ^ suc k) (v % 256) (omega arith)).1 in
    rw (i, j, q, r, w) (ap (λ l. set l (at + suc (suc (m + k))) (v % 256)) (put_parts m k t at (v / 256)))
  where
    joined : (x y : ℕ) → y < 256 → ((x * 256 + y) / 256 ≡ x) × ((x * 256 + y) % 256 ≡ y)
    joined x y h = (omega arith, omega arith)

-- ---- a word whose first byte is the least significant

-- LAW: four bytes
pub low_four : (t : List ℕ) (at : ℕ) → low_word 3 t at ≡ get_or t at 0 + get_or t (at + 1) 0 * 256 + get_or t (at + 2) 0 * 65536 + get_or t (at + 3) 0 * 16777216
unfolding low_word
low_four t at =
    let a : at + 1 + 1 ≡ at + 2 = omega arith in
    let b : at + 2 + 1 ≡ at + 3 = omega arith in
    rw (a, b) (omega arith)

-- LAW: two words of four bytes
pub low_eight : (t : List ℕ) (at : ℕ) → low_word 7 t at ≡ low_word 3 t at + low_word 3 t (at + 4) * 4294967296
unfolding low_word
low_eight t at =
    let a : at + 1 + 1 ≡ at + 2 = omega arith in
    let b : at + 2 + 1 ≡ at + 3 = omega arith in
    let c : at + 3 + 1 ≡ at + 4 = omega arith in
    rw (a, b, c) (omega arith)
