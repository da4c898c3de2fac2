-- `compacting::compact::place_four` meets its contract. The loop's invariant: the places before page q are done, k blocks are given, and the owners' window is right. Assumes nothing.
use Prim.Native.Nat.{◌*◌, ◌+◌}
use Rattle.compacting.specs.Gathering.{Gathered}
use Rattle.compacting.specs.Owners.{OwnersOf}
use Rattle.compacting.proofs.compact.place_four.Given as goal

abbrev pub invariant-loop-q : goal.invariant-loop-q
invariant-loop-q l =
    Gathered l.initial.t l.initial.p l.t l.p (l.r * 64 + l.g * 4 + l.q) l.k × OwnersOf l.t l.owners (l.r * 64 + l.g * 4 + l.q)
