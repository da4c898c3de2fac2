-- `compacting::owners::Owners::note_map` meets its contract. The loop's invariant: the entries before group g are noted. Assumes nothing.
use Prim.Native.Nat.{◌*◌}
use Rattle.compacting.specs.Owners.{Become, noted_from}
use Rattle.compacting.proofs.owners.Owners.note_map.Given as goal

abbrev pub invariant-loop-g : goal.invariant-loop-g
invariant-loop-g l = Become l.initial.self l.self (noted_from l.t l.initial.self.places l.initial.self.first (l.r * 64) (l.g * 4))
