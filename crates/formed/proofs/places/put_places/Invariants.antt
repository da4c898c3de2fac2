-- `formed::places::put_places` meets its contract. The loop's invariant: the digits and the parents of the sets before set s are there. Assumes nothing.
use Rattle.tables.specs.Packed.{unpack}
use Rattle.formed.proofs.PlaceDigits.{PlacesTo}
use Rattle.formed.proofs.places.put_places.Given as goal

abbrev pub invariant-loop-s : goal.invariant-loop-s
invariant-loop-s l = PlacesTo (unpack l.front).sets l.initial.places.parents l.places.digits l.places.parents l.s
