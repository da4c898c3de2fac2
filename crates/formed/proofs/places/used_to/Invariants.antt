-- `formed::places::used_to` meets its contract. The loop's invariant: the sets from s on are unused. Assumes nothing.
use Rattle.formed.specs.Heads.{UnusedFrom}
use Rattle.tables.specs.Packed.{unpack}
use Rattle.formed.proofs.places.used_to.Given as goal

abbrev pub invariant-loop-s : goal.invariant-loop-s
invariant-loop-s l = UnusedFrom (unpack l.front).sets l.s
