-- Every number that a call gives fits a byte, as a register of the front panel has to show it. Assumes nothing.
use mathlib.Core.Bool.{◌&&◌, Bool, true}
use mathlib.Core.List.{List, ◌∷◌, []}
use mathlib.Core.Path.{refl, ◌≡◌}
use Prim.Native.Nat.{◌<◌, suc, zero, ℕ}
use native.Mathlib.Omega.{arith}
use lib.Dec.{ltb}
use borrow.Author.Tests.{ltb-true}
use Rattle.base.specs.Logic.{and_left, and_right, test?}
use Rattle.rules.specs.Calls.{accepted, worked}
use Rattle.rules.specs.Numbers.{Call, View, conditions, create, delete, format, lowest, make, number_of, read, remove, tell_free, tell_size, truncate, write}
use Rattle.tables.specs.Calls.{accepted_on, call_on, outcome_of, view_on}

lows : List (Bool × ℕ) → Bool
lows [] = true
lows (x ∷ xs) = ltb x.1 256 && lows xs

lowest-low : (xs : List (Bool × ℕ)) → lows xs ≡ true → lowest xs < 256
unfolding lows lowest
lowest-low [] h = omega arith
lowest-low (x ∷ xs) h =
    test? x.0 (λ e. rw e (ltb-true x.1 256 (and_left (ltb x.1 256) (lows xs) h)))
    (λ e. rw e (lowest-low xs (and_right (ltb x.1 256) (lows xs) h)))

number_low : (v : View) (c : Call) → number_of v c < 256
unfolding number_of conditions lows
number_low v format = lowest-low (conditions v format) refl
number_low v (create s f) = lowest-low (conditions v (create s f)) refl
number_low v (write g s f off bs) = lowest-low (conditions v (write g s f off bs)) refl
number_low v (read s f off buffer) = lowest-low (conditions v (read s f off buffer)) refl
number_low v (truncate s f n) = lowest-low (conditions v (truncate s f n)) refl
number_low v (delete s f) = lowest-low (conditions v (delete s f)) refl
number_low v (make s c w) = lowest-low (conditions v (make s c w)) refl
number_low v (remove s) = lowest-low (conditions v (remove s)) refl
number_low v (tell_size s f) = lowest-low (conditions v (tell_size s f)) refl
number_low v tell_free = lowest-low (conditions v tell_free) refl

-- an accepted call gives 0
accepted_zero : (c : Call) (t p : List ℕ) → (accepted_on c t p).answer.number ≡ 0
unfolding accepted_on accepted worked
accepted_zero format t p = refl
accepted_zero (create s f) t p = refl
accepted_zero (write g s f off []) t p = refl
accepted_zero (write g s f off (x ∷ bs)) t p = refl
accepted_zero (read s f off buffer) t p = refl
accepted_zero (truncate s f n) t p = refl
accepted_zero (delete s f) t p = refl
accepted_zero (make s c w) t p = refl
accepted_zero (remove s) t p = refl
accepted_zero (tell_size s f) t p = refl
accepted_zero tell_free t p = refl

outcome_low : (n : ℕ) (c : Call) (t p : List ℕ) → n < 256 → (outcome_of n c t p).answer.number < 256
unfolding outcome_of
outcome_low zero c t p h = rw (accepted_zero c t p) (omega arith)
outcome_low (suc n) c t p h = h

pub answer_low : (c : Call) (t p : List ℕ) → (call_on c t p).answer.number < 256
unfolding call_on
answer_low c t p = outcome_low (number_of (view_on t p) c) c t p (number_low (view_on t p) c)
