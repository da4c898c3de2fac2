-- What the search for a clear bit answers, and what its parts do: one word of the map, and the numbers from lo on and below hi. Assumes nothing.
use Rattle.std.specs.Prelude.{Some, None, ◌≡◌, refl, Bool, true, false, ℕ, ◌-◌, ◌*◌, ◌%◌, ◌^◌, ◌<◌, ◌≤◌}
use Rattle.std.specs.Prelude.{Option as Answer}
use Rattle.std.proofs.Math.Option.{Option, none, some}
use Rattle.std.proofs.Common.{arith}
use Rattle.std.specs.Int.Count.{count_leading_zeros}
use Rattle.base.specs.Search.{first_free, Free, first_says}

-- the answer, for each case of the search
abbrev pub found_of : Option ℕ → Answer ℕ
found_of none = None
found_of (some b) = Some b

pub found_at : (o : Option ℕ) (b : ℕ) → found_of o ≡ Some b → o ≡ some b
found_at none b e = absurd (let z : ◌≡◌ {A = ℕ} 0 1 = cc in omega arith)
found_at (some c) b e = cc

pub found_none : (o : Option ℕ) → found_of o ≡ None → o ≡ none
found_none none e = refl
found_none (some c) e = absurd (let z : ◌≡◌ {A = ℕ} 0 1 = cc in omega arith)

-- what was found is below n and not used
pub found_free : (n : ℕ) (used : ℕ → Bool) (start b : ℕ) → start < n → found_of (first_free n used start) ≡ Some b → Free n used b
found_free n used start b l e = first_says n used start b l (found_at (first_free n used start) b e)

-- r is the first of lo, .., hi - 1 that is not used
pub record FirstIn (used : ℕ → Bool) (lo hi r : ℕ) : Type 0 where
  pub low : lo ≤ r
  pub high : r < hi
  pub passed : (c : ℕ) → lo ≤ c → c < r → used c ≡ true
  pub free : used r ≡ false

-- the first of lo, .., hi - 1 that is not used, or none where all of them are used
abbrev pub FoundIn : (ℕ → Bool) → ℕ → ℕ → Answer ℕ → Type 0
FoundIn used lo hi None = (c : ℕ) → lo ≤ c → c < hi → used c ≡ true
FoundIn used lo hi (Some r) = FirstIn used lo hi r

-- how many bits of the word w in a row are 1 from bit s on, counted from the most significant: the leading zeros of the inverted word, shifted
abbrev pub scanned : ℕ → ℕ → ℕ
scanned w s = count_leading_zeros 64 (((2 ^ 64 - 1) - w) * 2 ^ s % 2 ^ 64)
