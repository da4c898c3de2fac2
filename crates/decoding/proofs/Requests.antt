-- Requests: tests of fields, and copies of a byte. Assumes nothing.
use mathlib.Core.Bool.{Bool, false, true}
use mathlib.Core.List.{List, ◌∷◌, []}
use mathlib.Core.Path.{ap, refl, ◌≡◌}
use Prim.Native.Nat.{◌%◌, ◌/◌, ◌<◌, suc, zero, ℕ, ◌≤◌}
use native.Mathlib.Omega.{arith}
use lib.ListN.{get_or, length, replicate, take}
use borrow.Author.Tests.{eq-eqb, eqb-true}
use Rattle.std.specs.Prelude.{Option}
use Rattle.std.specs.Bool.{then_some}
use Rattle.base.specs.Logic.{and_left, and_right, same_test}
use Rattle.decoding.specs.Decoding.{all_zero, call_fits, call_meant, op_of, request_fits, request_meant, unless}
use Rattle.decoding.specs.declared.decoding.Asked.{Asked}

-- the first of at least n copies
pub take_copies : (k n v : ℕ) → n ≤ k → take n (replicate k v) ≡ replicate n v
take_copies k zero v h = refl
take_copies zero (suc n) v h = absurd (omega arith)
take_copies (suc k) (suc n) v h = ap (λ (l : List ℕ). v ∷ l) (take_copies k n v (omega arith))

-- a test that each number of a list is zero
zeros_each : (xs : List ℕ) → all_zero xs ≡ true → (k : ℕ) → k < length xs → get_or xs k 0 ≡ 0
zeros_each [] e k l = absurd (omega arith)
zeros_each (x ∷ xs) e zero l = eqb-true x 0 (and_left _ _ e)
zeros_each (x ∷ xs) e (suc k) l = zeros_each xs (and_right _ _ e) k (omega arith)

each_zero : (xs : List ℕ) → ((k : ℕ) → k < length xs → get_or xs k 0 ≡ 0) → all_zero xs ≡ true
each_zero [] h = refl
each_zero (x ∷ xs) h = simp (eq-eqb x 0 (h 0 (omega arith)), each_zero xs (λ k l. h (suc k) (omega arith)))

pub zeros : (xs : List ℕ) (b : Bool) → (b ≡ true → (k : ℕ) → k < length xs → get_or xs k 0 ≡ 0)
    → (((k : ℕ) → k < length xs → get_or xs k 0 ≡ 0) → b ≡ true) → b ≡ all_zero xs
zeros xs b h k = same_test b (all_zero xs) (λ e. each_zero xs (h e)) (λ e. k (zeros_each xs e))

-- a call is kept where the fields that its op does not use are zero
kept_some : (unused : List ℕ) (b : Bool) (c : Asked) → call_fits c → b ≡ all_zero unused →
    (request_meant (then_some b c) ≡ unless unused (op_of c) (call_meant c)) × request_fits (then_some b c)
unfolding unless
kept_some unused true c f e = (rw (← e), f)
kept_some unused false c f e = (rw (← e), tt)

pub kept : (unused : List ℕ) (b : Bool) (c : Asked) {r : Option Asked} → r ≡ then_some b c → call_fits c → b ≡ all_zero unused →
    (request_meant r ≡ unless unused (op_of c) (call_meant c)) × request_fits r
kept unused b c h f e = rw h (kept_some unused b c f e)

-- fields of a word
pub div_one : (n : ℕ) → n ≡ n / 1
div_one n = omega arith

pub length_low : (n : ℕ) → n % 4294967296 / 65536 < 65536
length_low n = omega arith

pub fill_low : (n : ℕ) → n % 65536 / 256 < 256
fill_low n = omega arith
