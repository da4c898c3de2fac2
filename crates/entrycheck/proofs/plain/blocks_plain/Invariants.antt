-- `entrycheck::plain::blocks_plain` meets its contract. The loop's invariant: the two words have the bits of the first i entries. Assumes nothing.
use mathlib.Core.Path.{◌≡◌}
use Prim.Native.Nat.{◌<◌}
use Rattle.base.specs.Count.{all}
use Rattle.entrycheck.specs.Plain.{plain_at}
use Rattle.entrycheck.proofs.PlainBlocks.{clean}
use Rattle.entrycheck.proofs.plain.blocks_plain.Given as goal

abbrev pub invariant-loop-i : goal.invariant-loop-i
invariant-loop-i l = (l.any < 65536) × (l.plain < 65536) × (clean l.any l.plain ≡ all l.i (plain_at l.t l.at))
