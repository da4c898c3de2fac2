-- The zero fields of words, as the code tests them. Assumes nothing.
use mathlib.Core.List.{List}
use mathlib.Core.Path.{ap, ◌∙◌, ◌≡◌}
use Prim.Native.Nat.{◌%◌, ◌/◌, ℕ}
use native.Mathlib.Omega.{arith}
use lib.Dec.{eqb}
use Rattle.packing.specs.Fields.{get_field}
use Rattle.setcheck.specs.Records.{header_zero, set_zero}
use Rattle.tables.specs.Layout.{header_widths, header_word, set_widths, set_word}

-- the zero field of the header and of a set record, from the word that the code reads
pub header_field : (t : List ℕ) (w : ℕ) → w ≡ header_word t → eqb (w % 128) 0 ≡ header_zero t
header_field t w e =
    let q : w % 128 ≡ get_field header_widths w 2 = omega arith in
    ap (λ x. eqb x 0) q ∙ ap (λ x. eqb (get_field header_widths x 2) 0) e

-- field by field: one omega for all is too much
low_field : (w : ℕ) → w % 128 ≡ get_field set_widths w 6
low_field w =
    let a : w % 128 ≡ w % 8388608 % 128 = omega arith in
    a ∙ b (w % 8388608)
  where
    e : (x : ℕ) → x % 128 ≡ x % 2048 % 128 / 1
    e x = omega arith

    d : (x : ℕ) → x % 128 ≡ x % 32768 % 2048 % 128 / 1
    d x = let q : x % 128 ≡ x % 32768 % 128 = omega arith in q ∙ e (x % 32768)

    c : (x : ℕ) → x % 128 ≡ x % 524288 % 32768 % 2048 % 128 / 1
    c x = let q : x % 128 ≡ x % 524288 % 128 = omega arith in q ∙ d (x % 524288)

    b : (x : ℕ) → x % 128 ≡ x % 4194304 % 524288 % 32768 % 2048 % 128 / 1
    b x = let q : x % 128 ≡ x % 4194304 % 128 = omega arith in q ∙ c (x % 4194304)

pub set_field : (t : List ℕ) (s w : ℕ) → w ≡ set_word t s → eqb (w % 128) 0 ≡ set_zero t s
set_field t s w e = ap (λ x. eqb x 0) (low_field w) ∙ ap (λ x. eqb (get_field set_widths x 6) 0) e
