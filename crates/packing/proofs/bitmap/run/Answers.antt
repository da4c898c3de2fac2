-- `packing::bitmap::run` meets its contract. Assumes nothing.
use mathlib.Core.Path.{refl}
use native.Mathlib.Omega.{arith}
use native.Mathlib.Nat.{lt_of_le_of_lt}
use lib.Count.{leading_le}
use Rattle.packing.proofs.bitmap.run.Goals as goal

pub overflow_cast-result : goal.overflow_cast-result
overflow_cast-result c = record { fits = lt_of_le_of_lt (leading_le 64 _) (omega arith) }

pub returns : goal.returns
returns c = (refl, leading_le 64 _)
