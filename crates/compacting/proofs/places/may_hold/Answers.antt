-- `compacting::places::may_hold` meets its contract. Assumes nothing.
use mathlib.Core.Path.{ap, ◌∙◌}
use Rattle.compacting.specs.Exchange.{may_hold}
use Rattle.compacting.proofs.places.may_hold.Goals as goal

pub returns : goal.returns
returns c = c.holds.ensures ∙ ap may_hold c.state_at.ensures
