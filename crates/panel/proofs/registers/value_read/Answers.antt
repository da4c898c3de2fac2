-- `panel::registers::value_read` meets its contract. Assumes nothing.
use mathlib.Core.Path.{◌∙◌}
use borrow.Author.Tests.{eq-eqb, ne_eqb}
use Rattle.tables.specs.Panel.{value_read}
use Rattle.panel.proofs.registers.value_read.Goals as goal

pub returns-then-offset-eq-COMMAND : goal.returns-then-offset-eq-COMMAND
unfolding value_read
returns-then-offset-eq-COMMAND c =
    rw (eq-eqb c.args.offset 0 c.if-offset-eq-COMMAND.true) (c.from.ensures ∙ c.reset_of.ensures)

pub returns : goal.returns
unfolding value_read
returns c =
    rw (ne_eqb c.args.offset 0 c.if-offset-eq-COMMAND.false) c.from-2.ensures
