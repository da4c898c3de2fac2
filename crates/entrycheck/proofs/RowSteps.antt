-- Blocks that become seen, one page and four pages at a time, and the masks of what is left. Assumes nothing.
use Rattle.std.specs.Prelude.{None, Some}
use mathlib.Core.Bool.{false, true}
use mathlib.Core.List.{List}
use mathlib.Core.Path.{ap, refl, subst, sym, ◌∙◌, ◌≡◌}
use Prim.Native.Nat.{◌%◌, ◌*◌, ◌+◌, ◌-◌, ◌/◌, ◌<◌, ◌^◌, ℕ, ◌≤◌}
use native.Mathlib.Nat.{add-zero, lt_of_le_of_lt}
use native.Mathlib.Omega.{arith}
use lib.Bits.{and_le_r, bit_and}
use lib.Count.{count_trailing_zeros}
use lib.ListN.{length}
use Rattle.base.specs.Logic.{same?}
use Rattle.masks.proofs.LowestBit.{Lowest, lowest_is}
use Rattle.masks.specs.Pages.{pages}
use Rattle.entrycheck.proofs.MovedPages.{moved_left, moved_none, moved_not, moved_then, row_fails, row_moved, without}
use Rattle.entrycheck.proofs.PageBits.{cleared_pages, four_cleared, lowest_cleared, rest, rows_on}
use Rattle.entrycheck.proofs.Runs.{run_pass}
use Rattle.entrycheck.specs.Seeing.{Sees}
use Rattle.entrycheck.specs.Moving.{FourInARow, Full, Moved, RowMoved, block_at, no_page, rows}
use Rattle.packing.specs.Bitmap.{is_one}
use Rattle.packing.specs.Bits.{bit, bit_none}
use Rattle.packing.specs.Words.{get_word}

-- ---- one page

module _ (limit : ℕ) (t : List ℕ) (at : ℕ) (l₀ l l' : List ℕ) (m left k b : ℕ) (inv : Moved limit (block_at t at) l₀ l (pages m) (pages left) true)
    (h : 0 < left) (lt : left < 2 ^ 64) (z : k ≡ count_trailing_zeros 64 left) (e : b ≡ get_word 1 t (at + (63 - k) * 2) % 4096) where
  lowest : (k < 64) × Lowest left (bit_and left (left - 1)) k
  lowest = subst (λ k. (k < 64) × Lowest left (bit_and left (left - 1)) k) (sym z) (lowest_is 64 left h lt)

  on : (j : ℕ) → j < 1 → pages left (63 - k + j) ≡ true
  on j q = let c : 63 - (63 - k + j) ≡ k = omega (arith, lowest.0) in ap is_one (ap (bit left) c ∙ lowest.1.set_bit)

  row : (j : ℕ) → j < 1 → block_at t at (63 - k + j) ≡ b + j
  row j q =
      let c : 63 - k + j ≡ 63 - k = omega arith in
      let d : b + j ≡ b = omega arith in
      ap (block_at t at) c ∙ sym (d ∙ e)

  -- LAW: its block becomes seen
  pub page_next : Sees (run_pass limit b 1) l l' true → Moved limit (block_at t at) l₀ l' (pages m) (pages (bit_and left (left - 1))) true
  page_next s =
      moved_then limit (block_at t at) l₀ l l' (pages m) (pages left) _ true inv
      (moved_left limit (block_at t at) l l' (pages left) (without (63 - k) 1 (pages left)) _ true
      (cleared_pages left (bit_and left (left - 1)) k 1 (omega (arith, lowest.0)) (lowest_cleared left _ k lowest.1))
      (row_moved limit (block_at t at) l l' (pages left) (63 - k) 1 b (omega (arith, lowest.0)) on row s))

  -- LAW: it cannot
  pub page_not : Sees (run_pass limit b 1) l l' false → Moved limit (block_at t at) l₀ l' (pages m) no_page false
  page_not s =
      moved_not limit (block_at t at) l₀ l' (pages m) (pages left)
      (moved_then limit (block_at t at) l₀ l l' (pages m) (pages left) (pages left) false inv
      (row_fails limit (block_at t at) l l' (pages left) (63 - k) 1 b (omega (arith, lowest.0)) on row s))

-- LAW: no page is left
pub pages_done : (limit : ℕ) (t : List ℕ) (at : ℕ) (l₀ l : List ℕ) (m left : ℕ) → left ≡ 0
    → Moved limit (block_at t at) l₀ l (pages m) (pages left) true → Moved limit (block_at t at) l₀ l (pages m) no_page true
pages_done limit t at l₀ l m left e s =
    moved_left limit (block_at t at) l₀ l (pages m) (pages left) no_page true (λ p q. sym (ap (λ z. pages z p) e ∙ ap is_one (bit_none (63 - p)))) s

-- ---- four pages

module _ (limit : ℕ) (t : List ℕ) (at : ℕ) (l l' : List ℕ) (m k : ℕ) where
  -- LAW: they are left
  pub row_none : length l ≡ 512 → RowMoved limit (block_at t at) l l m k (Some m)
  row_none h = record { moved = moved_none limit (block_at t at) l (pages m) h; others = λ j q o. refl }

  module _ (hk : k < 61) (full : Full m k) (r : FourInARow t (at + (60 - k) * 2)) (b : ℕ) (e : b ≡ get_word 1 t (at + (60 - k) * 2) % 4096) where
    four_on : (j : ℕ) → j < 4 → pages m (60 - k + j) ≡ true
    four_on j q = let c : 63 - (60 - k + j) ≡ k + (3 - j) = omega arith in ap (λ z. is_one (bit m z)) c ∙ full (3 - j) (omega arith)

    four_row : (j : ℕ) → j < 4 → block_at t at (60 - k + j) ≡ b + j
    four_row j q =
        let c : at + (60 - k + j) * 2 ≡ at + (60 - k) * 2 + j * 2 = omega arith in
        ap (λ a. get_word 1 t a % 4096) c ∙ r.row j q ∙ ap (λ a. get_word 1 t a % 4096 + j) (add-zero (at + (60 - k) * 2)) ∙ ap (λ z. z + j) (sym e)

    -- LAW: one of their blocks is seen already, or is not below the limit
    pub row_no : Sees (run_pass limit b 4) l l' false → RowMoved limit (block_at t at) l l' m k None
    row_no s = record {
      moved = moved_not limit (block_at t at) l l' (pages m) (pages m) (row_fails limit (block_at t at) l l' (pages m) (60 - k) 4 b (omega arith) four_on four_row s);
      others = tt;
    }

    -- LAW: their blocks become seen
    pub row_yes : Sees (run_pass limit b 4) l l' true → RowMoved limit (block_at t at) l l' m k (Some (rest m k hk))
    row_yes s = record {
      moved = moved_left limit (block_at t at) l l' (pages m) (without (60 - k) 4 (pages m)) (pages (rest m k hk)) true
          (cleared_pages m (rest m k hk) k 4 (omega arith) (four_cleared m k hk))
          (row_moved limit (block_at t at) l l' (pages m) (60 - k) 4 b (omega arith) four_on four_row s);
      others = λ j q o. (four_cleared m k hk).others j q o;
    }

-- ---- the rows that are left to look at

-- each is a word of four pages that are all left
abbrev pub Whole : ℕ → ℕ → Type 0
Whole q left = (k : ℕ) → k < 64 → bit q k ≡ 1 → (k % 4 ≡ 0) × Full left k

pub whole_start : (m : ℕ) → Whole (rows m) m
whole_start m k h e = rows_on m k h e

pub rows_lt : (m : ℕ) → rows m < 2 ^ 64
unfolding rows
rows_lt m = let x = bit_and m (m / 2) in lt_of_le_of_lt (and_le_r (bit_and x (x / 4)) 0x1111111111111111) (omega arith)

module _ (q left k : ℕ) (h : 0 < q) (lt : q < 2 ^ 64) (w : Whole q left) (z : k ≡ count_trailing_zeros 64 q) where
  lowest_row : (k < 64) × Lowest q (bit_and q (q - 1)) k
  lowest_row = subst (λ k. (k < 64) × Lowest q (bit_and q (q - 1)) k) (sym z) (lowest_is 64 q h lt)

  -- LAW: the lowest
  pub row_at : (k < 61) × Full left k
  row_at = let r = w k lowest_row.0 lowest_row.1.set_bit in (omega (arith, r.0, lowest_row.0), r.1)

  -- LAW: the others, after it
  pub whole_next : (left' : ℕ) → ((j : ℕ) → j < 64 → (k ≤ j → j < k + 4 → ⊥) → bit left' j ≡ bit left j) → Whole (bit_and q (q - 1)) left'
  whole_next left' o i hi e = same? k i
      (λ s. absurd (let c : bit (bit_and q (q - 1)) i ≡ 0 = ap (bit (bit_and q (q - 1))) (sym s) ∙ lowest_row.1.clear in omega arith))
      (λ s. let r = w i hi (sym (lowest_row.1.others i s) ∙ e) in
      let r0 = w k lowest_row.0 lowest_row.1.set_bit in
      (r.0, λ j hj. ap is_one (o (i + j) (omega (arith, r.0)) (λ a c. s (omega (arith, r.0, r0.0)))) ∙ r.1 j hj))

-- ---- what the code asks and learns

pub room_of : (t : List ℕ) (at b : ℕ) → FourInARow t at → b ≡ get_word 1 t at % 4096 → b % 64 < 61
room_of t at b r e = subst (λ z. z % 64 < 61) (ap (λ a. get_word 1 t a % 4096) (add-zero at) ∙ sym e) r.room
