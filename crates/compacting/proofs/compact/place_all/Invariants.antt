-- `compacting::compact::place_all` meets its contract. The loop's invariant: the records before record r are done, and the owners' window is right. Assumes nothing.
use Prim.Native.Nat.{◌*◌}
use Rattle.compacting.specs.Gathering.{Gathered}
use Rattle.compacting.specs.Owners.{OwnersOf}
use Rattle.compacting.proofs.compact.place_all.Given as goal

abbrev pub invariant-loop-r : goal.invariant-loop-r
invariant-loop-r l =
    Gathered l.initial.t l.initial.p l.t l.p (l.r * 64) l.k × OwnersOf l.t l.owners (l.r * 64)
