-- The masks of the pages of a map, as the code computes them: W i is word i of the map, whose four entries stand in 16 bits each, the kind in bits 7 and 6.
-- What they come to is shown in proofs/Tracks.antt. Assumes nothing.
use Rattle.std.specs.Prelude.{List, ◌%◌, ◌*◌, ◌+◌, ◌/◌, ◌^◌, ℕ}
use Rattle.std.specs.Int.Bits.{bit_and, bit_or}
use Rattle.packing.specs.Words.{low_word}

-- the words of 64 bits from byte `at` on, the first byte of each the least significant
abbrev pub words_at : List ℕ → ℕ → ℕ → ℕ
words_at t at i = low_word 7 t (at + i * 8)

-- 64 bits moved up and down
abbrev pub up : ℕ → ℕ → ℕ
up x s = x * 2 ^ s % 2 ^ 64

abbrev pub down : ℕ → ℕ → ℕ
down x s = x / 2 ^ s

-- the kinds of the four entries of a word
abbrev pub kinds_of : ℕ → ℕ
kinds_of w = bit_and (down w 6) 0x0003000300030003

-- of four words
abbrev pub kinds4 : ℕ → ℕ → ℕ → ℕ → ℕ
kinds4 a b c d = bit_or (bit_or (bit_or (up (kinds_of a) 12) (up (kinds_of b) 8)) (up (kinds_of c) 4)) (kinds_of d)

abbrev pub in_fields : ℕ → ℕ
in_fields k = bit_and (bit_or (up k 2) (down k 16)) 0x0000FFFF0000FFFF

unfoldable pub kinds16 : (ℕ → ℕ) → ℕ → ℕ
kinds16 W i = in_fields (kinds4 (W i) (W (i + 1)) (W (i + 2)) (W (i + 3)))

unfoldable pub kinds32 : (ℕ → ℕ) → ℕ → ℕ
kinds32 W i = bit_or (up (kinds16 W i) 16) (kinds16 W (i + 4))

abbrev pub pairs : ℕ → ℕ
pairs u = bit_and (bit_or u (down u 1)) 0x3333333333333333

abbrev pub ordered : ℕ → ℕ
ordered v = bit_and (bit_or (up v 2) (down v 32)) 0xFFFFFFFF

unfoldable pub gather : ℕ → ℕ
gather x = ordered (pairs (bit_and x 0x5555555555555555))

unfoldable pub stored_of : (ℕ → ℕ) → ℕ
stored_of W = bit_or (up (gather (down (kinds32 W 0) 1)) 32) (gather (down (kinds32 W 8) 1))

unfoldable pub holes_of : (ℕ → ℕ) → ℕ
holes_of W = bit_or (up (gather (kinds32 W 0)) 32) (gather (kinds32 W 8))
