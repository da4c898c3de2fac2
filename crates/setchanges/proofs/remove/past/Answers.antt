-- `setchanges::remove::past` meets its contract. Assumes nothing.
use native.Mathlib.Omega.{arith}
use borrow.Author.Tests.{eq-eqb, ne_eqb}
use Rattle.setchanges.proofs.remove.past.Goals as goal

pub returns-then-c-link : goal.returns-then-c-link
returns-then-c-link c = (rw (eq-eqb _ _ c.if-c-link.true), omega arith)

pub returns : goal.returns
returns c = (rw (ne_eqb _ _ c.if-c-link.false), omega arith)
