-- `setcheck::chains::chain_below` meets its contract. Assumes nothing.
use Prim.Native.Nat.{◌+◌, ◌-◌}
use native.Mathlib.Omega.{arith}
use Rattle.setcheck.proofs.Links.{below_over, below_other, below_more, below_done}
use Rattle.setcheck.proofs.chains.chain_below.Goals as goal

pub returns-then-at-ge8 : goal.returns-then-at-ge8
returns-then-at-ge8 c = below_over _ _ _ _ _ (omega arith) c.loop.invariant

pub returns-then-r-s : goal.returns-then-r-s
returns-then-r-s c =
    below_other _ _ _ _ (8 - (c.loop.counter + 1)) _ _ (omega arith) (omega arith) c.loop.invariant c.set_at-r.ensures.0 c.if-r-s.true

pub loop-preserved : goal.loop-preserved
loop-preserved c = below_more _ _ _ _ _ _ _ (omega arith) (omega arith) c.loop.invariant c.set_at-r.ensures.0 c.if-r-s.false

pub returns : goal.returns
returns c = below_done _ _ _ _ _ (omega arith) c.loop.invariant
