-- `packing::bitmap::set_bit` meets its contract. Assumes nothing.
use Prim.Native.Nat.{◌-◌, ◌%◌}
use native.Mathlib.Omega.{arith}
use Rattle.packing.specs.Bitmap.{set_bit}
use Rattle.packing.proofs.bitmap.Turns.{one_shl}
use Rattle.packing.proofs.bitmap.set_bit.Goals as goal

pub returns : goal.returns
unfolding set_bit
returns c = rw (one_shl (7 - c.args.b % 8) (omega arith))
