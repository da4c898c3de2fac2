-- Blocks of the pages that a mask has become blocks seen, in whatever order: what is seen and what the pages left name are together what they were.
-- Assumes nothing.
use Rattle.std.specs.Prelude.{Option, None, Some, IfSome, ◌&&◌, Bool, false, true, List, ◌≡◌, ◌%◌, ◌*◌, ◌+◌, ◌/◌, ◌<◌, ℕ, ◌≤◌, eqb, length}
use Rattle.std.specs.Int.Bits.{bit_and}
use Rattle.base.specs.Count.{count}
use Rattle.base.specs.Logic.{digit}
use Rattle.masks.specs.Pages.{pages}
use Rattle.packing.specs.Bitmap.{bit_at, is_one}
use Rattle.packing.specs.Bits.{bit}
use Rattle.packing.specs.Words.{get_word}

abbrev pub no_page : ℕ → Bool
no_page p = false

-- the block of page p of the map that begins at byte `at`, below 4,096
abbrev pub block_at : List ℕ → ℕ → ℕ → ℕ
block_at t at p = get_word 1 t (at + p * 2) % 4096

-- how many of the pages left name block b
unfoldable pub times_left : (ℕ → ℕ) → (ℕ → Bool) → ℕ → ℕ
times_left block left b = count 64 (λ p. left p && eqb b (block p))

-- can the blocks of the pages left become seen: each is below the limit, is not seen, and is named once
pub record CanSee (limit : ℕ) (block : ℕ → ℕ) (left : ℕ → Bool) (seen : List ℕ) : Type 0 where
  pub low : (p : ℕ) → p < 64 → left p ≡ true → block p < limit
  pub once : (b : ℕ) → digit (bit_at seen 0 b) + times_left block left b ≤ 1

-- blocks of pages have become seen, and the pages left' are left of the pages left
pub record Moved (limit : ℕ) (block : ℕ → ℕ) (seen seen' : List ℕ) (left left' : ℕ → Bool) (ok : Bool) : Type 0 where
  pub len : length seen' ≡ 512
  pub within : (p : ℕ) → p < 64 → left' p ≡ true → left p ≡ true
  pub counts : ok ≡ true → (b : ℕ) → digit (bit_at seen' 0 b) + times_left block left' b ≡ digit (bit_at seen 0 b) + times_left block left b
  pub low : ok ≡ true → (p : ℕ) → p < 64 → left p ≡ true → left' p ≡ false → block p < limit
  pub fails : ok ≡ false → CanSee limit block left seen → ⊥

-- the bits k, .., k + 3 are set
abbrev pub Full : ℕ → ℕ → Type 0
Full m k = (j : ℕ) → j < 4 → is_one (bit m (k + j)) ≡ true

-- each bit whose four bits from there on are set, in every fourth place
unfoldable pub rows : ℕ → ℕ
rows m = let x = bit_and m (m / 2) in bit_and (bit_and x (x / 4)) 0x1111111111111111

-- the four entries from byte `at` on name blocks in a row, which stand in one word of 64 bits of the map
pub record FourInARow (t : List ℕ) (at : ℕ) : Type 0 where
  pub row : (j : ℕ) → j < 4 → block_at t at j ≡ block_at t at 0 + j
  pub room : block_at t at 0 % 64 < 61

-- pages of the mask m: those that are left, or None where a block cannot become seen
abbrev pub RowsMoved : (limit : ℕ) → (ℕ → ℕ) → List ℕ → List ℕ → ℕ → Option ℕ → Type 0
RowsMoved limit block seen seen' m None = Moved limit block seen seen' (pages m) no_page false
RowsMoved limit block seen seen' m (Some left) = Moved limit block seen seen' (pages m) (pages left) true

-- the pages of the bits k, .., k + 3 and no other
pub record RowMoved (limit : ℕ) (block : ℕ → ℕ) (seen seen' : List ℕ) (m k : ℕ) (r : Option ℕ) : Type 0 where
  pub moved : RowsMoved limit block seen seen' m r
  pub others : IfSome r (λ left. (j : ℕ) → j < 64 → (k ≤ j → j < k + 4 → ⊥) → bit left j ≡ bit m j)
