-- The bits of words that are masked, moved and joined: each bit of the result is 0, or one bit of one of the words. Which one is computed, so that a
-- whole network is shown right by one table. Assumes nothing.
use mathlib.Core.Bool.{◌&&◌, Bool, cond, false, true, true≢false}
use mathlib.Core.Path.{ap, ap₂, refl, sym, ◌∙◌, ◌≡◌}
use Prim.Native.Nat.{◌%◌, ◌*◌, ◌+◌, ◌-◌, ◌/◌, ◌<◌, ◌^◌, suc, zero, ℕ, ◌≤◌}
use native.Mathlib.Omega.{arith}
use lib.Bits.{and_zero_r, bit_and, bit_or, or_zero_r, shifted_even, shifted_half}
use lib.Dec.{eqb, ltb}
use borrow.Author.Tests.{eqb-true, ltb-false, ltb-true}
use Rattle.base.specs.Count.{all, all_at}
use Rattle.base.specs.Logic.{and_left, and_right}
use Rattle.masks.specs.Network.{down, gather, holes_of, kinds16, kinds32, kinds_of, stored_of, up}
use Rattle.packing.specs.Bitmap.{is_one}
use Rattle.packing.specs.Bits.{bit, bit_and_law, bit_lt, bit_mod, bit_or_law, bit_shl, bit_shr, bit_suc, bit_zero}

-- where a bit comes from: nowhere, bit p of word i, or something else
data From : Type 0 where
  zero_bit other : From
  place : ℕ → ℕ → From

-- a word, a mask of it, two words that have no bit in common, a word moved down and up
abbrev f_word : ℕ → ℕ → From
f_word i k = place i k

abbrev keep : Bool → From → From
keep true s = s
keep false s = zero_bit

abbrev f_and : ℕ → (ℕ → From) → ℕ → From
f_and c f k = keep (is_one (bit c k)) (f k)

abbrev join : From → From → From
join zero_bit s = s
join other s = other
join (place i p) zero_bit = place i p
join (place i p) other = other
join (place i p) (place j q) = other

abbrev f_or : (ℕ → From) → (ℕ → From) → ℕ → From
f_or f g k = join (f k) (g k)

abbrev f_down : ℕ → (ℕ → From) → ℕ → From
f_down s f k = f (s + k)

abbrev f_up : ℕ → (ℕ → From) → ℕ → From
f_up s f k = cond (ltb k 64) (cond (ltb k s) zero_bit (f (k - s))) other

-- ---- numbers below 2, and their conjunction and disjunction

and_bit : (x c : ℕ) → c < 2 → bit_and x c ≡ bit_and x (cond (is_one c) 1 0)
and_bit x zero h = refl
and_bit x (suc zero) h = refl
and_bit x (suc (suc c)) h = absurd (omega arith)

pub and_one : (x : ℕ) → x < 2 → bit_and x 1 ≡ x
and_one zero h = refl
and_one (suc zero) h = refl
and_one (suc (suc x)) h = absurd (omega arith)

-- ---- a number moved up

pub bit_above : (x s k : ℕ) → s ≤ k → bit (x * 2 ^ s) k ≡ bit x (k - s)
bit_above x s k h = let e : k ≡ s + (k - s) = omega arith in ap (bit (x * 2 ^ s)) e ∙ bit_shl x s (k - s)

pub bit_below : (x s k : ℕ) → k < s → bit (x * 2 ^ s) k ≡ 0
bit_below x zero k h = absurd (omega arith)
bit_below x (suc s) zero h = bit_zero (x * 2 ^ suc s) ∙ shifted_even x s
bit_below x (suc s) (suc k) h = bit_suc (x * 2 ^ suc s) k ∙ ap (λ y. bit y k) (shifted_half x s) ∙ bit_below x s k (omega arith)

module _ (W : ℕ → ℕ) where
  -- the bit x is what is said of it
  abbrev Means : From → ℕ → Type 0
  Means zero_bit x = x ≡ 0
  Means other x = Unit {0}
  Means (place i p) x = x ≡ bit (W i) p

  record Tracks (x : ℕ) (f : ℕ → From) : Type 0 where
    says : (k : ℕ) → Means (f k) (bit x k)

  t_word : (i : ℕ) → Tracks (W i) (f_word i)
  t_word i = record { says = λ k. refl }

  t_and : {x : ℕ} (c : ℕ) {f : ℕ → From} → Tracks x f → Tracks (bit_and x c) (f_and c f)
  t_and {x} c {f} h = record { says = λ k. go k (is_one (bit c k)) refl (f k) (h.says k) }
    where
      go : (k : ℕ) (o : Bool) → is_one (bit c k) ≡ o → (s : From) → Means s (bit x k) → Means (keep o s) (bit (bit_and x c) k)
      go k false e s m = bit_and_law x c k ∙ and_bit (bit x k) (bit c k) (bit_lt c k) ∙ ap (λ o. bit_and (bit x k) (cond o 1 0)) e ∙ and_zero_r (bit x k)
      go k true e s m = on s m (bit_and_law x c k ∙ and_bit (bit x k) (bit c k) (bit_lt c k) ∙ ap (λ o. bit_and (bit x k) (cond o 1 0)) e ∙ and_one (bit x k) (bit_lt x k))
        where
          on : (s : From) → Means s (bit x k) → bit (bit_and x c) k ≡ bit x k → Means s (bit (bit_and x c) k)
          on zero_bit m q = q ∙ m
          on other m q = tt
          on (place i p) m q = q ∙ m

  t_or : {x y : ℕ} {f g : ℕ → From} → Tracks x f → Tracks y g → Tracks (bit_or x y) (f_or f g)
  t_or {x} {y} {f} {g} h e = record { says = λ k. go k (f k) (g k) (h.says k) (e.says k) }
    where
      go : (k : ℕ) (s r : From) → Means s (bit x k) → Means r (bit y k) → Means (join s r) (bit (bit_or x y) k)
      go k zero_bit zero_bit m n = bit_or_law x y k ∙ ap₂ bit_or m n
      go k zero_bit other m n = tt
      go k zero_bit (place j q) m n = bit_or_law x y k ∙ ap (λ z. bit_or z (bit y k)) m ∙ n
      go k other r m n = tt
      go k (place i p) zero_bit m n = bit_or_law x y k ∙ ap (bit_or (bit x k)) n ∙ or_zero_r (bit x k) ∙ m
      go k (place i p) other m n = tt
      go k (place i p) (place j q) m n = tt

  t_down : {x : ℕ} (s : ℕ) {f : ℕ → From} → Tracks x f → Tracks (down x s) (f_down s f)
  t_down {x} s {f} h = record { says = λ k. go k (f (s + k)) (h.says (s + k)) }
    where
      go : (k : ℕ) (r : From) → Means r (bit x (s + k)) → Means r (bit (down x s) k)
      go k zero_bit m = bit_shr x s k ∙ m
      go k other m = tt
      go k (place i p) m = bit_shr x s k ∙ m

  t_up : {x : ℕ} (s : ℕ) {f : ℕ → From} → Tracks x f → Tracks (up x s) (f_up s f)
  t_up {x} s {f} h = record { says = λ k. go k (ltb k 64) refl (ltb k s) refl }
    where
      go : (k : ℕ) (a : Bool) → ltb k 64 ≡ a → (b : Bool) → ltb k s ≡ b → Means (cond a (cond b zero_bit (f (k - s))) other) (bit (up x s) k)
      go k false e b d = tt
      go k true e true d = bit_mod 64 k (x * 2 ^ s) (ltb-true k 64 e) ∙ bit_below x s k (ltb-true k s d)
      go k true e false d = at (f (k - s)) (h.says (k - s)) (bit_mod 64 k (x * 2 ^ s) (ltb-true k 64 e) ∙ bit_above x s k (ltb-false k s d))
        where
          at : (r : From) → Means r (bit x (k - s)) → bit (up x s) k ≡ bit x (k - s) → Means r (bit (up x s) k)
          at zero_bit m q = q ∙ m
          at other m q = tt
          at (place i p) m q = q ∙ m

-- ---- the masks of the pages

abbrev f_kinds : ℕ → ℕ → From
f_kinds i = f_and 0x0003000300030003 (f_down 6 (f_word i))

abbrev f4 : ℕ → ℕ → From
f4 i = f_or (f_or (f_or (f_up 12 (f_kinds i)) (f_up 8 (f_kinds (i + 1)))) (f_up 4 (f_kinds (i + 2)))) (f_kinds (i + 3))

abbrev f16 : ℕ → ℕ → From
f16 i = f_and 0x0000FFFF0000FFFF (f_or (f_up 2 (f4 i)) (f_down 16 (f4 i)))

abbrev f32 : ℕ → ℕ → From
f32 i = f_or (f_up 16 (f16 i)) (f16 (i + 4))

abbrev f_pairs : (ℕ → From) → ℕ → From
f_pairs f = f_and 0x3333333333333333 (f_or f (f_down 1 f))

abbrev f_gather : (ℕ → From) → ℕ → From
f_gather f = let v = f_pairs (f_and 0x5555555555555555 f) in f_and 0xFFFFFFFF (f_or (f_up 2 v) (f_down 32 v))

abbrev f_stored : ℕ → From
f_stored = f_or (f_up 32 (f_gather (f_down 1 (f32 0)))) (f_gather (f_down 1 (f32 8)))

abbrev f_holes : ℕ → From
f_holes = f_or (f_up 32 (f_gather (f32 0))) (f_gather (f32 8))

abbrev is_place : From → ℕ → ℕ → Bool
is_place zero_bit i p = false
is_place other i p = false
is_place (place j q) i p = eqb j i && eqb q p

-- page p is entry p % 4 of word p / 4
stored_table : all 64 (λ p. is_place (f_stored (63 - p)) (p / 4) (p % 4 * 16 + 7)) ≡ true
unfolding all bit
stored_table = refl

holes_table : all 64 (λ p. is_place (f_holes (63 - p)) (p / 4) (p % 4 * 16 + 6)) ≡ true
unfolding all bit
holes_table = refl

module _ (W : ℕ → ℕ) where
  t_kinds : (i : ℕ) → Tracks W (kinds_of (W i)) (f_kinds i)
  t_kinds i = t_and W _ (t_down W 6 (t_word W i))

  t_16 : (i : ℕ) → Tracks W (kinds16 W i) (f16 i)
  unfolding kinds16
  t_16 i =
      let k = t_or W (t_or W (t_or W (t_up W 12 (t_kinds i)) (t_up W 8 (t_kinds (i + 1)))) (t_up W 4 (t_kinds (i + 2)))) (t_kinds (i + 3)) in
      t_and W _ (t_or W (t_up W 2 k) (t_down W 16 k))

  t_32 : (i : ℕ) → Tracks W (kinds32 W i) (f32 i)
  unfolding kinds32
  t_32 i = t_or W (t_up W 16 (t_16 i)) (t_16 (i + 4))

  t_gather : {x : ℕ} {f : ℕ → From} → Tracks W x f → Tracks W (gather x) (f_gather f)
  unfolding gather
  t_gather h =
      let u = t_and W 0x5555555555555555 h in
      let v = t_and W 0x3333333333333333 (t_or W u (t_down W 1 u)) in
      t_and W _ (t_or W (t_up W 2 v) (t_down W 32 v))

  t_stored : Tracks W (stored_of W) f_stored
  unfolding stored_of
  t_stored = t_or W (t_up W 32 (t_gather (t_down W 1 (t_32 0)))) (t_gather (t_down W 1 (t_32 8)))

  t_holes : Tracks W (holes_of W) f_holes
  unfolding holes_of
  t_holes = t_or W (t_up W 32 (t_gather (t_32 0))) (t_gather (t_32 8))

  at_place : (x k i p : ℕ) (s : From) → Means W s (bit x k) → is_place s i p ≡ true → bit x k ≡ bit (W i) p
  at_place x k i p zero_bit m h = absurd (true≢false (sym h))
  at_place x k i p other m h = absurd (true≢false (sym h))
  at_place x k i p (place j q) m h = m ∙ ap₂ (λ a b. bit (W a) b) (eqb-true j i (and_left (eqb j i) (eqb q p) h)) (eqb-true q p (and_right (eqb j i) (eqb q p) h))

  -- LAW: the bit of page p in the mask of the stored pages, and in that of the holes
  pub stored_bit : (p : ℕ) → p < 64 → bit (stored_of W) (63 - p) ≡ bit (W (p / 4)) (p % 4 * 16 + 7)
  stored_bit p h = at_place (stored_of W) (63 - p) (p / 4) (p % 4 * 16 + 7) (f_stored (63 - p)) (t_stored.says (63 - p)) (all_at 64 (λ p. is_place (f_stored (63 - p)) (p / 4) (p % 4 * 16 + 7)) stored_table p h)

  pub holes_bit : (p : ℕ) → p < 64 → bit (holes_of W) (63 - p) ≡ bit (W (p / 4)) (p % 4 * 16 + 6)
  holes_bit p h = at_place (holes_of W) (63 - p) (p / 4) (p % 4 * 16 + 6) (f_holes (63 - p)) (t_holes.says (63 - p)) (all_at 64 (λ p. is_place (f_holes (63 - p)) (p / 4) (p % 4 * 16 + 6)) holes_table p h)
