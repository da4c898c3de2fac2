-- The search starts at a block.
use Rattle.std.proofs.Common.{◌<◌}
use Rattle.bitmap_walk.proofs.take_all.Given as goal

abbrev pub invariant-loop : goal.invariant-loop
invariant-loop g l = l.start < 13
