-- The map of the blocks seen, where none is. Assumes nothing.
use mathlib.Core.List.{List}
use mathlib.Core.Path.{ap, fun_ext, ◌∙◌, ◌≡◌}
use Prim.Native.Nat.{◌+◌, ◌%◌, ◌-◌, ◌/◌, ℕ}
use native.Mathlib.Omega.{arith}
use lib.Dec.{ltb}
use lib.ListN.{get_or-eq_default, get_or, get_or-replicate, length, length-replicate, replicate}
use borrow.Author.Tests.{ltb-false, ltb-true}
use Rattle.base.specs.Logic.{test?}
use Rattle.packing.specs.Bitmap.{bit_at, is_one}
use Rattle.packing.specs.Bits.{bit, bit_none}
use Rattle.entrycheck.specs.Seeing.{none_seen}

unfoldable pub no_bits : List ℕ
no_bits = replicate 512 0

pub length_no_bits : length no_bits ≡ 512
unfolding no_bits
length_no_bits = length-replicate {A = ℕ} 512 0

byte_none : (i : ℕ) → get_or no_bits i 0 ≡ 0
unfolding no_bits
byte_none i =
    test? (ltb i 512)
    (λ e. get_or-replicate {A = ℕ} 512 i 0 0 (ltb-true i 512 e))
    (λ e. let h = ltb-false i 512 e in get_or-eq_default (replicate {A = ℕ} 512 0) 0 {n = i} (omega (arith, length-replicate {A = ℕ} 512 0)))

pub no_bits_seen : bit_at no_bits 0 ≡ none_seen
unfolding bit_at
no_bits_seen = fun_ext (λ b. ap (λ x. is_one (bit x (7 - b % 8))) (byte_none (0 + b / 8)) ∙ ap is_one (bit_none (7 - b % 8)))
