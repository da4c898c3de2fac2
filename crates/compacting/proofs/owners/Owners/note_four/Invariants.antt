-- `compacting::owners::Owners::note_four` meets its contract. The loop's invariant: the entries before page q are noted. Assumes nothing.
use Prim.Native.Nat.{◌*◌, ◌+◌}
use Rattle.compacting.specs.Owners.{Become, noted_from}
use Rattle.compacting.proofs.owners.Owners.note_four.Given as goal

abbrev pub invariant-loop-q : goal.invariant-loop-q
invariant-loop-q l = Become l.initial.self l.self (noted_from l.t l.initial.self.places l.initial.self.first (l.r * 64 + l.g * 4) l.q)
