-- Four entries in a word of 64 bits, the first the most significant: is one of them unmapped? Its kind, the two highest of its 16 bits, is then 0.
use Rattle.std.specs.Prelude.{Bool, ◌||◌, ℕ, ◌/◌, ◌%◌, ltb}

unfoldable pub unmapped_among : ℕ → Bool
unmapped_among w = ltb (w % 65536) 16384 || (ltb (w / 65536 % 65536) 16384 || (ltb (w / 4294967296 % 65536) 16384 || ltb (w / 281474976710656) 16384))
