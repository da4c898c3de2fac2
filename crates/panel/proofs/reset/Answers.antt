-- `panel::reset` meets its contract. Assumes nothing.
use mathlib.Core.Path.{ap}
use Rattle.calls.specs.Outcomes.{answer_meant}
use Rattle.panel.proofs.RegisterCases.{refused_call, reset_done, sixteen}
use Rattle.tables.specs.Panel.{panel_reset_on}
use Rattle.panel.proofs.reset.Goals as goal

pub returns-then-no_register : goal.returns-then-no_register
unfolding panel_reset_on
returns-then-no_register c = refused_call _ _ _ _ _ _ _ c.refused.ensures c.no_register.ensures c.if-no_register.true

pub reset_all-requires : goal.reset_all-requires
reset_all-requires c = (sixteen _ _ _ c.no_register.ensures c.if-no_register.false).0

pub returns : goal.returns
returns c =
    reset_done _ _ _ _ (ap answer_meant c.accepted.ensures) c.no_register.ensures c.if-no_register.false c.reset_all.ensures
