-- `calls::checks::check_blocks` meets its contract. Assumes nothing.
use mathlib.Core.Path.{ap}
use Rattle.calls.specs.Outcomes.{answer_meant}
use Rattle.calls.proofs.Checked.{accepted_as, refused_as}
use Rattle.calls.proofs.checks.check_blocks.Goals as goal

pub returns-then-not-blocks_formed : goal.returns-then-not-blocks_formed
returns-then-not-blocks_formed c =
    refused_as _ _ _ _ _ c.blocks_formed.ensures c.if-not-blocks_formed.true c.refused.ensures

pub returns : goal.returns
returns c =
    accepted_as _ _ _ _ _ c.blocks_formed.ensures c.if-not-blocks_formed.false (ap answer_meant c.accepted.ensures)
