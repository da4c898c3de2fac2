-- Answers for the sets as the binary digits of one number. Assumes nothing.
use Rattle.std.specs.Prelude.{◌≡◌, refl, Bool, ℕ, zero, suc, ◌+◌, ◌-◌, ◌*◌, ◌/◌, ◌%◌, ◌^◌, ◌≤◌, ◌<◌}
use Rattle.std.proofs.Common.{arith, add-one, pow_mono}
use Rattle.base.specs.Logic.{digit}
use Rattle.packing.specs.Bitmap.{digit_lt}

-- the answers for s, s + 1, .. as the digits of a number, the first the lowest
pub packs : (ℕ → Bool) → ℕ → ℕ → ℕ
packs g s zero = 0
packs g s (suc n) = digit (g s) + 2 * packs g (suc s) n

pub packs_none : (g : ℕ → Bool) (s n : ℕ) → n ≡ 0 → packs g s n ≡ 0
unfolding packs
packs_none g s n e = rw e

-- the lowest digit is the answer for the first set
pub packs_more : (g : ℕ → Bool) (s : ℕ) → s < 8 → packs g s (8 - s) ≡ packs g (suc s) (8 - suc s) * 2 + digit (g s)
unfolding packs
packs_more g s l =
    let a : 8 - s ≡ suc (8 - suc s) = omega arith in
    rw a (omega arith)

packs_below : (g : ℕ → Bool) (s n : ℕ) → packs g s n < 2 ^ n
unfolding packs
packs_below g s zero = omega arith
packs_below g s (suc n) = omega (arith, packs_below g (suc s) n, digit_lt (g s))

pub packs_lt : (g : ℕ → Bool) (s n : ℕ) → n ≤ 8 → packs g s n < 256
packs_lt g s n h =
    let b = packs_below g s n in
    let c : 2 ^ n ≤ 2 ^ 8 = pow_mono h in
    omega arith

module _ (g : ℕ → Bool) (s m : ℕ) (l : s < 8) (e : m ≡ packs g s (8 - s)) where
  -- the answer for set s
  pub packs_bit : m % 2 ≡ digit (g s)
  packs_bit = let x = packs_more g s l in let y = digit_lt (g s) in omega arith

  -- the answers for the sets after it
  pub packs_rest : m / 2 ≡ packs g (s + 1) (8 - (s + 1))
  packs_rest = let x = packs_more g s l in let y = digit_lt (g s) in rw add-one (omega arith)

-- one more digit, the lowest
pub mask_more : (g : ℕ → Bool) (s m x : ℕ) → (s ≡ 0 → ⊥) → s ≤ 8 → m ≡ packs g s (8 - s) → x ≡ digit (g (s - 1)) → m * 2 + x ≡ packs g (s - 1) (8 - (s - 1))
mask_more g zero m x h l e q = absurd (h refl)
mask_more g (suc s) m x h l e q =
    let a : suc s - 1 ≡ s = omega arith in
    let q' : x ≡ digit (g s) = rw a at q in
    rw a (let z = packs_more g s (omega arith) in omega arith)
