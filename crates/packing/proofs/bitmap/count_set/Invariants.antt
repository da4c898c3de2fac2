-- `packing::bitmap::count_set` meets its contract. The loop's invariant: n counts the set bits of the first i words. Assumes nothing.
use Rattle.std.proofs.Common.{◌≡◌, ◌≤◌, ◌*◌}
use Rattle.base.specs.Count.{count}
use Rattle.packing.specs.Bitmap.{bit_at}
use Rattle.packing.proofs.bitmap.count_set.Given as goal

abbrev pub invariant-loop-i : goal.invariant-loop-i
invariant-loop-i l = (l.n ≤ 64 * l.i) × (l.n ≡ count (64 * l.i) (bit_at l.t l.at))
