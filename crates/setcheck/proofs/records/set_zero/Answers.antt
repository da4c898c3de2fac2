-- `setcheck::records::set_zero` meets its contract. Assumes nothing.
use Rattle.setcheck.proofs.HeaderTests.{set_field}
use Rattle.setcheck.proofs.records.set_zero.Goals as goal

pub returns : goal.returns
returns c = set_field _ _ _ c.read.ensures.0
