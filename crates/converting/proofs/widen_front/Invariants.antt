-- `converting::widen_front` meets its contract. Assumes nothing.
use Rattle.converting.specs.Front.{FrontTo}
use Rattle.converting.proofs.widen_front.Given as goal

abbrev pub invariant-loop-s : goal.invariant-loop-s
invariant-loop-s l = FrontTo l.old l.front l.s
