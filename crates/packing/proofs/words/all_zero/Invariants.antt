-- `packing::words::all_zero` meets its contract. The loop's invariant: x is zero exactly where the bytes so far are. Assumes nothing.
use Rattle.std.proofs.Common.{◌≡◌, eqb}
use Rattle.packing.specs.Zeros.{zero_bytes}
use Rattle.packing.proofs.words.all_zero.Given as goal

abbrev pub invariant-loop-y : goal.invariant-loop-y
invariant-loop-y l = eqb l.x 0 ≡ zero_bytes l.fn.t l.at l.y-index
