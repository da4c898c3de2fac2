-- `packing::words::write` meets its contract. The loop's invariant: the first i bytes are put. Assumes nothing.
use Rattle.std.proofs.Common.{◌≡◌, ◌^◌, ◌/◌, ◌-◌}
use Rattle.packing.proofs.words.Parts.{put_part}
use Rattle.packing.proofs.words.write.Given as goal

abbrev pub invariant-loop-i : goal.invariant-loop-i
invariant-loop-i g l = l.t ≡ put_part l.i l.fn.t l.at (l.v / 256 ^ (g.row.N - l.i))
