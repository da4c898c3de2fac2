-- `packing::bitmap::clear_bit` meets its contract. Assumes nothing.
use Prim.Native.Nat.{◌-◌, ◌%◌}
use native.Mathlib.Omega.{arith}
use Rattle.packing.specs.Bitmap.{clear_bit}
use Rattle.packing.proofs.bitmap.Turns.{one_shl}
use Rattle.packing.proofs.bitmap.clear_bit.Goals as goal

pub returns : goal.returns
unfolding clear_bit
returns c = rw (one_shl (7 - c.args.b % 8) (omega arith))
