-- `maps::marking::some_unmapped` meets its contract. The loop's invariant: some page is unmapped exactly if one of the first 4 * n is.
use mathlib.Core.Path.{◌≡◌}
use Prim.Native.Nat.{◌*◌}
use Rattle.rules.specs.Reading.{some_unmapped}
use Rattle.tables.specs.Packed.{unpack}
use Rattle.maps.proofs.marking.some_unmapped.Given as goal

abbrev pub invariant-loop-n : goal.invariant-loop-n
invariant-loop-n l = some_unmapped 64 ((unpack l.t).files l.f l.s).map ≡ some_unmapped (4 * l.n) ((unpack l.t).files l.f l.s).map
