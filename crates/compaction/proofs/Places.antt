-- Places of entries: a place is its set, file and page, and back. Assumes nothing.
use mathlib.Core.Bool.{true, true≢false}
use mathlib.Core.Path.{refl, sym, ◌≡◌}
use Prim.Native.Nat.{◌<◌, ℕ}
use native.Mathlib.Omega.{arith}
use Rattle.rules.specs.State.{Entry, Files, hole, is_stored, stored, unmapped}
use Rattle.compaction.specs.Compact.{entry_in, file_at, page_at, place_of, set_at}

pub set_of : (s f p : ℕ) → f < 16 → p < 64 → set_at (place_of s f p) ≡ s
set_of s f p a b = omega arith

pub file_of : (s f p : ℕ) → f < 16 → p < 64 → file_at (place_of s f p) ≡ f
file_of s f p a b = omega arith

pub page_of_law : (s f p : ℕ) → p < 64 → page_at (place_of s f p) ≡ p
page_of_law s f p b = omega arith

pub place_low : (s f p : ℕ) → s < 8 → f < 16 → p < 64 → place_of s f p < 8192
place_low s f p a b c = omega arith

pub place_back : (n : ℕ) → place_of (set_at n) (file_at n) (page_at n) ≡ n
place_back n = omega arith

pub set_low : (n : ℕ) → n < 8192 → set_at n < 8
set_low n h = omega arith

pub file_low : (n : ℕ) → file_at n < 16
file_low n = omega arith

pub page_low : (n : ℕ) → page_at n < 64
page_low n = omega arith

-- two places of the same set, file and page are one
pub place_same : (n m : ℕ) → set_at n ≡ set_at m → file_at n ≡ file_at m → page_at n ≡ page_at m → n ≡ m
place_same n m a b c = omega arith

-- the entry of a page stands at its place
pub entry_at : {K : Type 0} (files : ℕ → Files K) (s f p : ℕ) → f < 16 → p < 64 → entry_in files (place_of s f p) ≡ (files f s).map p
entry_at files s f p a b = λ i. (files (file_of s f p a b i) (set_of s f p a b i)).map (page_of_law s f p b i)

-- the block of a stored entry
abbrev pub name_of : Entry ℕ → ℕ
name_of unmapped = 0
name_of hole = 0
name_of (stored b) = b

pub name_is : (e : Entry ℕ) → is_stored e ≡ true → e ≡ stored (name_of e)
name_is unmapped h = absurd (true≢false (sym h))
name_is hole h = absurd (true≢false (sym h))
name_is (stored b) h = refl
