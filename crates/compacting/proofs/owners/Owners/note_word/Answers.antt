-- `compacting::owners::Owners::note_word` meets its contract. Assumes nothing.
use mathlib.Core.Path.{refl}
use Rattle.compacting.proofs.Tracking.{word_away, word_here}
use Rattle.compacting.proofs.owners.Owners.note_word.Goals as goal

pub returns-then-d-ne256 : goal.returns-then-d-ne256
returns-then-d-ne256 c =
    record { first = refl; places = word_away c.args.self.now.places c.args.self.now.first c.args.x c.args.o c.requires.1 c.requires.2 c.if-d-ne256.true }

pub returns : goal.returns
returns c =
    record { first = refl; places = word_here c.args.self.now.places c.args.self.now.first c.args.x c.args.o c.requires.1 c.requires.2 c.if-d-ne256.false }
