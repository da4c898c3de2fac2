-- `packing::bitmap::find_in` meets its contract. The loop's invariant: every bit from lo on and below b is set. Assumes nothing.
use Prim.Native.Nat.{◌-◌}
use Rattle.packing.specs.Bitmap.{bit_at}
use Rattle.packing.proofs.bitmap.Turns.{UsedTo}
use Rattle.packing.proofs.bitmap.find_in.Given as goal

abbrev pub invariant-loop-b : goal.invariant-loop-b
invariant-loop-b l = UsedTo (bit_at l.t l.at) l.lo l.b

abbrev pub decreases-loop-b : goal.decreases-loop-b
decreases-loop-b l = l.hi - l.b
