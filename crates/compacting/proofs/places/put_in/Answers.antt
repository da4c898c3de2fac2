-- `compacting::places::put_in` meets its contract. Assumes nothing.
use Rattle.compacting.proofs.Turning.{put_as}
use Rattle.compacting.proofs.places.put_in.Goals as goal

pub returns : goal.returns
returns c = put_as _ _ c.args.n _ _ c.put_entry.ensures c.new.ensures
