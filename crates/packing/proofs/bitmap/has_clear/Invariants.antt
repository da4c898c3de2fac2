-- `packing::bitmap::has_clear` meets its contract. The loop's invariant: of the bits of the first j words n are clear. Assumes nothing.
use Rattle.std.proofs.Common.{◌≡◌, ◌+◌, ◌*◌}
use Rattle.base.specs.Count.{count}
use Rattle.packing.specs.Bitmap.{bit_at}
use Rattle.packing.proofs.bitmap.has_clear.Given as goal

abbrev pub invariant-loop-j : goal.invariant-loop-j
invariant-loop-j l = l.n + count (64 * l.j) (bit_at l.t l.at) ≡ 64 * l.j
