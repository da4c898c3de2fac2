-- `packing::bitmap::bit_at` meets its contract. Assumes nothing.
use Prim.Native.Nat.{◌+◌, ◌-◌, ◌/◌, ◌%◌}
use lib.ListN.{get_or}
use Rattle.packing.specs.Bits.{bit, bit_lt}
use Rattle.packing.specs.Bitmap.{bit_at}
use Rattle.packing.specs.Bitmap.{is_one_law}
use Rattle.packing.proofs.bitmap.bit_at.Goals as goal

pub returns : goal.returns
unfolding bit_at bit
returns c = let a = c.args in is_one_law _ (bit_lt (get_or a.t.now (a.at + a.b / 8) 0) (7 - a.b % 8))
