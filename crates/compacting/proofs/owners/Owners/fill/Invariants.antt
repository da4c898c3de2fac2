-- `compacting::owners::Owners::fill` meets its contract. The loop's invariant: the entries of the records before record r are noted. Assumes nothing.
use Prim.Native.Nat.{◌*◌, ◌-◌}
use Rattle.compacting.specs.Owners.{Become, noted_from}
use Rattle.compacting.proofs.owners.Owners.fill.Given as goal

abbrev pub invariant-loop-r : goal.invariant-loop-r
invariant-loop-r l = Become l.initial.self l.self (noted_from l.t l.initial.self.places l.initial.self.first (l.from * 64) (l.r * 64 - l.from * 64))
