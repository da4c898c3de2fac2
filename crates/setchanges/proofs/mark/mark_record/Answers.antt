-- `setchanges::mark::mark_record` meets its contract. Assumes nothing.
use mathlib.Core.Path.{refl}
use Rattle.tables.specs.Meaning.{state_meant}
use Rattle.setchanges.proofs.Marking.{mark_turns}
use Rattle.setchanges.proofs.mark.mark_record.Goals as goal

pub returns : goal.returns
unfolding state_meant
returns c =
    mark_turns _ _ _ refl c.free_map.ensures c.erase_record.ensures c.put_head.ensures
