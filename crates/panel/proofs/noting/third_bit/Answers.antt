-- `panel::noting::third_bit` meets its contract. Assumes nothing.
use mathlib.Core.Path.{refl}
use native.Mathlib.Omega.{arith}
use borrow.Author.Tests.{eq-eqb, ne_eqb}
use Rattle.panel.proofs.noting.third_bit.Goals as goal

pub returns-then-third-eq0 : goal.returns-then-third-eq0
returns-then-third-eq0 c = (rw (eq-eqb c.args.third 0 c.if-third-eq0.true) refl, omega arith)

pub returns : goal.returns
returns c = (rw (ne_eqb c.args.third 0 c.if-third-eq0.false) refl, omega arith)
