-- The head of a file from the first eight bytes of its record, the first the least significant. Assumes nothing.
use mathlib.Core.List.{List}
use mathlib.Core.Path.{ap, sym, ◌∙◌, ◌≡◌}
use Prim.Native.Nat.{◌%◌, ◌*◌, ◌+◌, ◌/◌, ◌<◌, ℕ}
use native.Mathlib.Omega.{arith}
use lib.ListN.{get_or}
use Rattle.base.specs.Logic.{same?}
use Rattle.packing.specs.Words.{Bytes, get_word, low_eight, low_four, low_word}
use Rattle.formed.specs.Files.{turned}

-- what is a multiple of 256 does not count
low_byte : (q h : ℕ) → (q + h * 256) % 256 ≡ q % 256
low_byte q h = omega arith

-- LAW: the bytes of the low half of v
pub head_low : (v : ℕ) → v % 4294967296 % 256 * 16777216 + v % 4294967296 / 256 % 256 * 65536 + v % 4294967296 / 65536 % 256 * 256 + v % 4294967296 / 16777216 ≡ turned v
unfolding turned
head_low v =
    let a : v % 4294967296 % 256 ≡ v % 256 = omega arith in
    let e : v / 256 ≡ v % 4294967296 / 256 + v / 4294967296 * 65536 * 256 = omega arith in
    let f : v / 65536 ≡ v % 4294967296 / 65536 + v / 4294967296 * 256 * 256 = omega arith in
    let g : v / 16777216 ≡ v % 4294967296 / 16777216 + v / 4294967296 * 256 = omega arith in
    let h : v % 4294967296 / 16777216 % 256 ≡ v % 4294967296 / 16777216 = omega arith in
    let b = sym (ap (λ x. x % 256) e ∙ low_byte (v % 4294967296 / 256) (v / 4294967296 * 65536)) in
    let c = sym (ap (λ x. x % 256) f ∙ low_byte (v % 4294967296 / 65536) (v / 4294967296 * 256)) in
    let d = sym (ap (λ x. x % 256) g ∙ low_byte (v % 4294967296 / 16777216) (v / 4294967296) ∙ h) in
    λ i. a i * 16777216 + b i * 65536 + c i * 256 + d i

first : (v a x : ℕ) → a < 256 → v ≡ a + x * 256 → (v % 256 ≡ a) × (v / 256 ≡ x)
first v a x l e = (omega arith, omega arith)

turned_is : (v a b c d e : ℕ) → a < 256 → b < 256 → c < 256 → d < 256 → v ≡ a + (b + (c + (d + e * 256) * 256) * 256) * 256
    → turned v ≡ a * 16777216 + b * 65536 + c * 256 + d
unfolding turned
turned_is v a b c d e la lb lc ld q =
    let w = first v a (b + (c + (d + e * 256) * 256) * 256) la q in
    let x = first (v / 256) b (c + (d + e * 256) * 256) lb w.1 in
    let y = first (v / 256 / 256) c (d + e * 256) lc x.1 in
    let z = first (v / 256 / 256 / 256) d e ld y.1 in
    let m : v / 65536 ≡ v / 256 / 256 = omega arith in
    let n : v / 16777216 ≡ v / 256 / 256 / 256 = omega arith in
    let k = ap (λ i. i % 256) m ∙ y.0 in
    let l = ap (λ i. i % 256) n ∙ z.0 in
    λ i. w.0 i * 16777216 + x.0 i * 65536 + k i * 256 + l i

-- LAW: a head is its bytes, the first the least significant
pub head_turned : (t : List ℕ) (at v : ℕ) → Bytes t → v ≡ low_word 7 t at → turned v ≡ get_word 3 t at
unfolding get_word
head_turned t at v bs e =
    let h = e ∙ low_eight t at ∙ ap (λ x. x + low_word 3 t (at + 4) * 4294967296) (low_four t at) in
    turned_is v (get_or t at 0) (get_or t (at + 1) 0) (get_or t (at + 2) 0) (get_or t (at + 3) 0) (low_word 3 t (at + 4)) (bs at) (bs (at + 1)) (bs (at + 2)) (bs (at + 3)) (omega arith)
    ∙ omega arith

-- LAW: the word of the head, where the eight bytes are 0 or 128
pub first_byte : (t : List ℕ) (at v : ℕ) → v ≡ low_word 7 t at → (0 < v → v ≡ 128) → v * 16777216 ≡ get_word 3 t at
unfolding get_word
first_byte t at v e h =
    let a = low_eight t at in
    let b = low_four t at in
    same? v 0 (λ z. omega arith) (λ z. let c : v ≡ 128 = h (omega arith) in omega arith)
