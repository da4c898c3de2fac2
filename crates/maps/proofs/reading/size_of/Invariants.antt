-- `maps::reading::size_of` meets its contract. The loop's invariant: the size by reading is that from set `at`, at most as many parents up as
-- turns are left.
use mathlib.Core.Path.{◌≡◌}
use Prim.Native.Nat.{◌-◌}
use Rattle.rules.specs.Reading.{size_by_reading}
use Rattle.rules.specs.State.{tree_of}
use Rattle.tables.specs.Packed.{unpack}
use Rattle.maps.specs.Upward.{size_from}
use Rattle.maps.proofs.reading.size_of.Given as goal

abbrev pub invariant-loop : goal.invariant-loop
invariant-loop l = size_by_reading (tree_of (unpack l.t).sets) ((unpack l.t).files l.f) l.s ≡ size_from (unpack l.t) l.f l.at (l.end - l.counter)
