-- `setcheck::chains::times_from` meets its contract. Assumes nothing.
use mathlib.Core.Bool.{Bool, cond, false, true}
use mathlib.Core.Path.{refl, ◌∙◌, ◌≡◌}
use Prim.Native.Nat.{ℕ, ◌≤◌}
use native.Mathlib.Omega.{arith}
use Rattle.std.specs.Int.{from_bool}
use Rattle.setcheck.proofs.Links.{times_over, times_more, times_done}
use Rattle.setcheck.proofs.chains.times_from.Goals as goal

one_at_most : (b : Bool) (n : ℕ) → n ≡ from_bool b → n ≤ 1
one_at_most true n e = omega arith
one_at_most false n e = omega arith

as_cond : (b : Bool) → from_bool b ≡ cond b 1 0
as_cond true = refl
as_cond false = refl

pub returns-then-at-ge8 : goal.returns-then-at-ge8
returns-then-at-ge8 c = (times_over _ _ _ _ _ _ (omega arith) c.loop.invariant.1, omega arith)

pub loop-preserved : goal.loop-preserved
loop-preserved c = (
  omega (arith, one_at_most _ _ c.from-m.ensures),
  times_more _ _ _ _ _ _ _ _ _ (omega arith) (omega arith) c.loop.invariant.1 (c.from-m.ensures ∙ as_cond _) c.next_sibling_of-at.ensures.0,
)

pub returns : goal.returns
returns c = (times_done _ _ _ _ _ _ (omega arith) c.loop.invariant.1, omega arith)
