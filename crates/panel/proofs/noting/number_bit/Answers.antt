-- `panel::noting::number_bit` meets its contract. Assumes nothing.
use mathlib.Core.Path.{refl}
use native.Mathlib.Omega.{arith}
use borrow.Author.Tests.{eq-eqb, ne_eqb}
use Rattle.panel.proofs.noting.number_bit.Goals as goal

pub returns-then-number-eq0 : goal.returns-then-number-eq0
returns-then-number-eq0 c = (rw (eq-eqb c.args.number 0 c.if-number-eq0.true) refl, omega arith)

pub returns : goal.returns
returns c = (rw (ne_eqb c.args.number 0 c.if-number-eq0.false) refl, omega arith)
