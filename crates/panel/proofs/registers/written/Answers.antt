-- `panel::registers::written` meets its contract. Assumes nothing.
use mathlib.Core.Path.{refl}
use borrow.Author.Tests.{eq-eqb, ne_eqb}
use Rattle.tables.specs.Panel.{written}
use Rattle.panel.proofs.registers.written.Goals as goal

pub returns-then-offset-eq-CAUSE : goal.returns-then-offset-eq-CAUSE
unfolding written
returns-then-offset-eq-CAUSE c = rw (eq-eqb c.args.offset 2 c.if-offset-eq-CAUSE.true, c.writable_of-mask.ensures) refl

pub returns : goal.returns
unfolding written
returns c = rw (ne_eqb c.args.offset 2 c.if-offset-eq-CAUSE.false, c.writable_of-mask.ensures) refl
