-- `maps::marking::depends_on` meets its contract. The loop's invariant: the file of set s is marked with that of set c exactly if that of set `at`
-- is, with as many parents above it as turns are left.
use mathlib.Core.Path.{◌≡◌}
use Prim.Native.Nat.{◌-◌}
use Rattle.rules.specs.Reading.{depends_on, reaches}
use Rattle.rules.specs.State.{tree_of}
use Rattle.tables.specs.Packed.{unpack}
use Rattle.maps.proofs.marking.depends_on.Given as goal

abbrev pub invariant-loop : goal.invariant-loop
invariant-loop l = reaches (tree_of (unpack l.t).sets) ((unpack l.t).files l.f) l.c l.s ≡ depends_on (tree_of (unpack l.t).sets) ((unpack l.t).files l.f) l.c (l.end - l.counter) l.at
