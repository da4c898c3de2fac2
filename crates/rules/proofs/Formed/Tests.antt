-- Tests made of tests: what each says, and how each is passed. Assumes nothing.
use mathlib.Core.Bool.{◌&&◌, Bool, false, not, true, true≢false, ◌||◌}
use mathlib.Core.Path.{refl, sym, ◌≡◌}
use Prim.Native.Nat.{◌<◌, ℕ}
use Rattle.base.specs.Count.{all, all_at, all_of}
use Rattle.base.specs.Logic.{and_both, and_left, and_right}
use Rattle.rules.specs.WellFormed.{all_files, all_pages, all_sets}

-- CONJUNCTIONS of tests
pub and_3 : (a b c : Bool) → (a && b && c) ≡ true → (a ≡ true) × (b ≡ true) × (c ≡ true)
and_3 a b c h = let l = and_left (a && b) c h in (and_left a b l, and_right a b l, and_right (a && b) c h)

pub and_4 : (a b c d : Bool) → (a && b && c && d) ≡ true → (a ≡ true) × (b ≡ true) × (c ≡ true) × (d ≡ true)
and_4 a b c d h = let r = and_3 (a && b) c d h in (and_left a b r.0, and_right a b r.0, r.1, r.2)

pub and_5 : (a b c d e : Bool) → (a && b && c && d && e) ≡ true → (a ≡ true) × (b ≡ true) × (c ≡ true) × (d ≡ true) × (e ≡ true)
and_5 a b c d e h = let r = and_4 (a && b) c d e h in (and_left a b r.0, and_right a b r.0, r.1, r.2, r.3)

pub and_7 : (a b c d e f g : Bool) → (a && b && c && d && e && f && g) ≡ true
    → (a ≡ true) × (b ≡ true) × (c ≡ true) × (d ≡ true) × (e ≡ true) × (f ≡ true) × (g ≡ true)
and_7 a b c d e f g h = let r = and_3 (a && b && c && d && e) f g h in let q = and_5 a b c d e r.0 in (q.0, q.1, q.2, q.3, q.4, r.1, r.2)

pub all_3 : (a b c : Bool) → a ≡ true → b ≡ true → c ≡ true → (a && b && c) ≡ true
all_3 a b c h k l = and_both (a && b) c (and_both a b h k) l

pub all_4 : (a b c d : Bool) → a ≡ true → b ≡ true → c ≡ true → d ≡ true → (a && b && c && d) ≡ true
all_4 a b c d h k l m = and_both (a && b && c) d (all_3 a b c h k l) m

-- one of two tests
pub or_then : (a b : Bool) → (a || b) ≡ true → a ≡ false → b ≡ true
or_then true b h k = absurd (true≢false k)
or_then false b h k = h

pub not_then : (a b : Bool) → (not a || b) ≡ true → a ≡ true → b ≡ true
not_then true b h k = h
not_then false b h k = absurd (true≢false (sym k))

pub or_of : (a b : Bool) → (a ≡ false → b ≡ true) → (a || b) ≡ true
or_of true b h = refl
or_of false b h = h refl

pub not_of : (a b : Bool) → (a ≡ true → b ≡ true) → (not a || b) ≡ true
not_of true b h = h refl
not_of false b h = refl

-- every set below 8
pub sets_at : (f : ℕ → Bool) → all_sets f ≡ true → (s : ℕ) → s < 8 → f s ≡ true
unfolding all_sets
sets_at f h s l = all_at 8 f h s l

pub sets_of : (f : ℕ → Bool) → ((s : ℕ) → s < 8 → f s ≡ true) → all_sets f ≡ true
unfolding all_sets
sets_of f h = all_of 8 f h

-- every file below 16 of every set below 8
pub files_at_law : (g : ℕ → ℕ → Bool) → all_files g ≡ true → (f s : ℕ) → f < 16 → s < 8 → g f s ≡ true
unfolding all_files
files_at_law g h f s k l = all_at 16 (λ f. g f s) (all_at 8 (λ s. all 16 (λ f. g f s)) h s l) f k

pub files_of_law : (g : ℕ → ℕ → Bool) → ((f s : ℕ) → f < 16 → s < 8 → g f s ≡ true) → all_files g ≡ true
unfolding all_files
files_of_law g h = all_of 8 (λ s. all 16 (λ f. g f s)) (λ s l. all_of 16 (λ f. g f s) (λ f k. h f s k l))

-- every page below 64
pub pages_at : (g : ℕ → Bool) → all_pages g ≡ true → (p : ℕ) → p < 64 → g p ≡ true
unfolding all_pages
pages_at g h p l = all_at 64 g h p l

pub pages_of : (g : ℕ → Bool) → ((p : ℕ) → p < 64 → g p ≡ true) → all_pages g ≡ true
unfolding all_pages
pages_of g h = all_of 64 g h
