-- `compacting::compact::place_map` meets its contract. The loop's invariant: the places before group g are done, and the owners' window is right. Assumes nothing.
use Prim.Native.Nat.{◌*◌, ◌+◌}
use Rattle.compacting.specs.Gathering.{Gathered}
use Rattle.compacting.specs.Owners.{OwnersOf}
use Rattle.compacting.proofs.compact.place_map.Given as goal

abbrev pub invariant-loop-g : goal.invariant-loop-g
invariant-loop-g l =
    Gathered l.initial.t l.initial.p l.t l.p (l.r * 64 + l.g * 4) l.k × OwnersOf l.t l.owners (l.r * 64 + l.g * 4)
