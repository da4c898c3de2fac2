-- `entrycheck::maps_equal` meets its contract. The loop's invariant: x is zero exactly where the first i bytes are the same; and after a turn it is known
-- that the map has bytes. Assumes nothing.
use mathlib.Core.Path.{◌≡◌}
use Prim.Native.Nat.{◌<◌}
use lib.Dec.{eqb}
use Rattle.packing.specs.Words.{Bytes}
use Rattle.entrycheck.proofs.BytesEqual.{same_to}
use Rattle.entrycheck.proofs.maps_equal.Given as goal

abbrev pub invariant-loop-i : goal.invariant-loop-i
invariant-loop-i l = (eqb l.x 0 ≡ same_to l.t l.seen l.i) × (0 < l.i → Bytes l.seen)
