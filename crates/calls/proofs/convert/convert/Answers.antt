-- `calls::convert::convert` meets its contract. Assumes nothing.
use mathlib.Core.Path.{ap}
use Rattle.calls.specs.Outcomes.{answer_meant}
use Rattle.calls.proofs.TermCases.{convert_done, convert_refused}
use Rattle.calls.proofs.convert.convert.Goals as goal

pub returns-then-not-convert_tables : goal.returns-then-not-convert_tables
returns-then-not-convert_tables c =
    convert_refused _ _ _ _ _ _ c.convert_tables.ensures.0 c.convert_tables.ensures.1 c.if-not-convert_tables.true c.refused.ensures

pub returns : goal.returns
returns c =
    convert_done _ _ _ _ _ _ c.convert_tables.ensures.0 c.convert_tables.ensures.1 c.if-not-convert_tables.false (ap answer_meant c.accepted.ensures)
