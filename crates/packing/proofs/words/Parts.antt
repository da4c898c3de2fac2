-- The bytes of a word that are put so far, over plain numbers and lists. Assumes nothing.
use Rattle.std.specs.Prelude.{◌≡◌, refl, List, ℕ, zero, suc, ◌+◌, ◌-◌, ◌*◌, ◌/◌, ◌%◌, ◌^◌, ◌<◌, set}
use Rattle.std.proofs.Common.{sym, add-one, add-zero, pow-suc, arith}
use Rattle.std.proofs.Math.Nat.{div-lt_iff_lt-mul, div-div-eq-div-mul}
use Rattle.std.proofs.lemmas.Nat.{pow-add, and_mask}
use Rattle.std.specs.Int.Bits.{bit_and}
use Rattle.std.proofs.lemmas.Grind.{pow_more}
use Rattle.packing.specs.Words.{put_word, some_bytes}

-- ---- shifts by whole bytes

byte_pow : (k : ℕ) → 2 ^ (8 * k) ≡ 256 ^ k
byte_pow zero = refl
byte_pow (suc k) =
    let e : 8 * suc k ≡ 8 * k + 8 = omega arith in
    rw (e, pow-add 2 (8 * k) 8, byte_pow k) (sym (pow-suc 256 k))

-- the bytes that are put, the most significant first
unfoldable pub put_part : ℕ → List ℕ → ℕ → ℕ → List ℕ
put_part zero t at v = t
put_part (suc m) t at v = put_word m t at v

pub put_more : (k : ℕ) (t : List ℕ) (at v : ℕ) → v < 256 ^ (k + 1) → put_part (k + 1) t at v ≡ set (put_part k t at (v / 256)) (at + k) (v % 256)
unfolding put_part put_word
put_more zero t at v l = let e : v % 256 ≡ v = omega arith in rw (add-zero, e)
put_more (suc m) t at v l = rw add-one refl

-- the next byte is put
pub put_turn : (n k : ℕ) (t u : List ℕ) (at v : ℕ) → k < n → v < 256 ^ n → u ≡ put_part k t at (v / 256 ^ (n - k))
    → set u (at + k) (bit_and (v / 2 ^ (8 * (n - 1 - k))) 255) ≡ put_part (k + 1) t at (v / 256 ^ (n - (k + 1)))
put_turn n k t u at v l f e =
    let r = n - (k + 1) in
    let q : n - 1 - k ≡ r = omega arith in
    let p : n - k ≡ r + 1 = omega arith in
    let s : k + 1 + r ≡ n = omega arith in
    let m : v < 256 ^ (k + 1) * 256 ^ r = rw (← pow-add 256 (k + 1) r, s) f in
    let d : v / 256 ^ (n - k) ≡ v / 256 ^ r / 256 = rw (p, pow_more) (sym (div-div-eq-div-mul v (256 ^ r) 256)) in
    rw (q, byte_pow, and_mask (v / 256 ^ r) 8, e, d) (sym (put_more k t at (v / 256 ^ r) ((div-lt_iff_lt-mul (some_bytes r)).1 m)))

pub put_first : (t : List ℕ) (at v : ℕ) → t ≡ put_part 0 t at v
unfolding put_part
put_first t at v = refl

-- after the last byte
pub put_all : (n : ℕ) (t u : List ℕ) (at v : ℕ) → 0 < n → u ≡ put_part n t at (v / 256 ^ (n - n)) → u ≡ put_word (n - 1) t at v
unfolding put_part
put_all zero t u at v l e = absurd (omega arith)
put_all (suc m) t u at v l e =
    let p : suc m - 1 ≡ m = omega arith in
    let q : v / 256 ^ (suc m - suc m) ≡ v = let z : suc m - suc m ≡ 0 = omega arith in rw z (omega arith) in
    rw p (rw q at e)
