-- What the blocks of entries must be. Assumes nothing.
use Rattle.std.specs.Prelude.{◌&&◌, Bool, not, ◌||◌, List, ◌%◌, ◌*◌, ◌+◌, ℕ, eqb, ltb}
use Rattle.packing.specs.Words.{get_word}

-- is the block of the entry w below 4,096, and 0 unless the entry is stored
unfoldable pub plain : ℕ → Bool
plain w = ltb (w % 16384) 4096 && (not (ltb w 32768) || eqb (w % 16384) 0)

-- page p of the map that begins at byte `at`
abbrev pub plain_at : List ℕ → ℕ → ℕ → Bool
plain_at t at p = plain (get_word 1 t (at + p * 2))
