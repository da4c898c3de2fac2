-- `formed::blank_from` meets its contract. Assumes nothing.
use native.Mathlib.Omega.{arith}
use Rattle.formed.proofs.Blank.{blank_from, zero_next, zero_start}
use Rattle.formed.proofs.blank_from.Goals as goal

pub loop-s-init : goal.loop-s-init
loop-s-init c = zero_start _ _

pub all_zero-requires : goal.all_zero-requires
all_zero-requires c = omega (arith, c.requires.1)

pub loop-s-preserved : goal.loop-s-preserved
loop-s-preserved c = zero_next _ _ _ c.loop-s.invariant c.if-not-all_zero.ensures

pub returns : goal.returns
returns c = let u = c.used_to-n in (blank_from _ _ u.ensures.most (λ k a b. c.loop-s.invariant k a (omega arith)), u.ensures.after)
