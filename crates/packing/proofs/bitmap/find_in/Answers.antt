-- `packing::bitmap::find_in` meets its contract. The loop's invariant: every bit from lo on and below b is set. Assumes nothing.
use mathlib.Core.Path.{ap, ◌∙◌}
use Prim.Native.Nat.{ℕ, ◌%◌}
use native.Mathlib.Omega.{arith}
use Rattle.packing.specs.FirstFree.{scanned}
use Rattle.packing.proofs.bitmap.Turns.{Turn, hit, past, next, done}
use Rattle.packing.proofs.bitmap.find_in.Goals as goal
use Rattle.packing.proofs.bitmap.find_in.Goals.{After-run-z}

pub loop-b-init : goal.loop-b-init
loop-b-init c = record { from = omega arith; passed = λ k a b. absurd (omega arith) }

turn : (c : After-run-z) → let a = c.args in
    Turn a.t.now a.at a.lo c.loop-b.b c.run-z.result
turn c = record {
  bytes = λ i. (c.type_inv.t i).fits;
  run = c.run-z.ensures.0 ∙ ap (λ (w : ℕ). scanned w (c.loop-b.b % 64)) c.read-w.ensures.0;
  before = c.loop-b.invariant;
}

pub returns-then-r-hi : goal.returns-then-r-hi
returns-then-r-hi c = hit _ _ _ _ _ _ (turn (goal.at.returns-then-r-hi c).After-run-z) c.if-z-s-lt64.true c.if-r-hi.true

pub returns-then-z-s-lt64 : goal.returns-then-z-s-lt64
returns-then-z-s-lt64 c = past _ _ _ _ _ _ (turn (goal.at.returns-then-z-s-lt64 c).After-run-z) c.if-z-s-lt64.true c.if-r-hi.false c.loop-b-test.true

pub loop-b-preserved : goal.loop-b-preserved
loop-b-preserved c = next _ _ _ 0 _ _ (turn (goal.at.loop-b-preserved c).After-run-z) c.if-z-s-lt64.false

pub returns : goal.returns
returns c = done _ _ _ _ c.loop-b.invariant c.loop-b-test.false
