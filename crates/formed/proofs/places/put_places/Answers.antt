-- `formed::places::put_places` meets its contract. The loop's invariant: the digits and the parents of the sets before set s are there. Assumes nothing.
use native.Mathlib.Omega.{arith}
use Rattle.tables.specs.Meaning.{set_meant}
use Rattle.formed.proofs.PlaceDigits.{places_done, places_next, places_start}
use Rattle.formed.proofs.places.put_places.Goals as goal

pub loop-s-init : goal.loop-s-init
loop-s-init c = let p = c.requires in places_start _ _ _ p.1 (omega arith)

pub set_at-r-requires : goal.set_at-r-requires
set_at-r-requires c = let p = c.requires in (p.0, omega arith)

pub digit_of-requires : goal.digit_of-requires
digit_of-requires c = (omega (arith, c.set_at-r.ensures.1), omega arith)

pub loop-s-preserved : goal.loop-s-preserved
loop-s-preserved c = places_next _ _ _ _ _ c.loop-s.invariant (omega arith) (set_meant c.set_at-r.result) _ c.set_at-r.ensures.0 c.digit_of.ensures

pub returns : goal.returns
returns c = places_done _ _ _ _ _ c.loop-s.invariant _ (omega arith) c.requires.3
