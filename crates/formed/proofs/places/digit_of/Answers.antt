-- `formed::places::digit_of` meets its contract. Assumes nothing.
use Rattle.tables.specs.Meaning.{set_meant}
use Rattle.formed.proofs.PlaceDigits.{digit_none, digit_shl}
use Rattle.formed.proofs.places.digit_of.Goals as goal

pub returns-then-r : goal.returns-then-r
returns-then-r c = digit_shl (set_meant c.args.r) c.args.s c.if-r.true c.requires.0 c.requires.1

pub returns-else-r : goal.returns-else-r
returns-else-r c = digit_none (set_meant c.args.r) c.args.s c.if-r.false
