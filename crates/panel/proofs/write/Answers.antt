-- `panel::write` meets its contract. Assumes nothing.
use mathlib.Core.Path.{ap}
use Rattle.calls.specs.Outcomes.{answer_meant}
use Rattle.panel.proofs.CommandCases.{entered_length, write_command, write_entered}
use Rattle.panel.proofs.RegisterCases.{refused_call, sixteen}
use Rattle.tables.specs.Panel.{panel_write_on}
use Rattle.panel.proofs.write.Goals as goal

pub returns-then-no_register : goal.returns-then-no_register
unfolding panel_write_on
returns-then-no_register c = refused_call _ _ _ _ _ _ _ c.refused.ensures c.no_register.ensures c.if-no_register.true

pub enter-requires : goal.enter-requires
enter-requires c = sixteen _ _ _ c.no_register.ensures c.if-no_register.false

pub returns-then-offset-ne-COMMAND : goal.returns-then-offset-ne-COMMAND
returns-then-offset-ne-COMMAND c =
    write_entered _ _ _ _ _ _ _ _ (ap answer_meant c.accepted.ensures) c.no_register.ensures c.if-no_register.false c.if-offset-ne-COMMAND.true c.enter.ensures

pub command-requires : goal.command-requires
command-requires c =
    let r = c.args.r.now in
    entered_length _ _ r _ c.enter.ensures (sixteen _ _ _ c.no_register.ensures c.if-no_register.false).0

pub returns : goal.returns
returns c =
    write_command _ _ _ _ _ _ _ _ _ _ _ c.no_register.ensures c.if-no_register.false c.if-offset-ne-COMMAND.false c.enter.ensures c.command.ensures
