-- `setcheck::header::header_zero` meets its contract. Assumes nothing.
use Rattle.setcheck.proofs.HeaderTests.{header_field}
use Rattle.setcheck.proofs.header.header_zero.Goals as goal

pub returns : goal.returns
returns c = header_field _ _ c.read.ensures.0
