-- `calls::format::format` meets its contract. Assumes nothing.
use mathlib.Core.Path.{ap}
use Rattle.calls.specs.Outcomes.{answer_meant}
use Rattle.calls.proofs.Formatting.{refused_as, accepted_as, format_fits}
use Rattle.calls.proofs.format.format.Goals as goal

pub returns-then-not-lengths_fit : goal.returns-then-not-lengths_fit
returns-then-not-lengths_fit c = refused_as _ _ _ _ c.refused.ensures c.lengths_fit.ensures c.if-not-lengths_fit.true

pub format_tables-requires : goal.format_tables-requires
format_tables-requires c = format_fits _ _ _ c.lengths_fit.ensures c.if-not-lengths_fit.false

pub returns : goal.returns
returns c =
    accepted_as _ _ _ _ _ _ (ap answer_meant c.accepted.ensures) c.lengths_fit.ensures c.if-not-lengths_fit.false c.format_tables.ensures c.zero_bytes.ensures
