-- `setchanges::create::create_file` meets its contract. Assumes nothing.
use mathlib.Core.Path.{refl}
use Rattle.tables.specs.Meaning.{state_meant}
use Rattle.setchanges.proofs.Holes.{create_turns}
use Rattle.setchanges.proofs.create.create_file.Goals as goal

pub returns : goal.returns
unfolding state_meant
returns c =
    create_turns _ _ _ refl c.put_holes.ensures c.put_head.ensures
