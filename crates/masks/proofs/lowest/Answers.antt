-- `masks::lowest` meets its contract. Assumes nothing.
use mathlib.Core.Path.{refl}
use native.Mathlib.Omega.{arith}
use native.Mathlib.Nat.{lt_of_le_of_lt}
use lib.Count.{trailing_le}
use Rattle.masks.proofs.LowestBit.{lowest_is}
use Rattle.masks.proofs.lowest.Goals as goal

pub overflow_cast-result : goal.overflow_cast-result
overflow_cast-result c = record { fits = lt_of_le_of_lt (trailing_le 64 _) (omega arith) }

pub returns : goal.returns
returns c = (refl, (lowest_is 64 c.args.m (omega arith) (omega arith)).0)
