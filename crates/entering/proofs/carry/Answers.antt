-- `entering::carry` meets its contract. Assumes nothing.
use native.Mathlib.Omega.{arith}
use Rattle.tables.specs.Calls.{pages_of}
use Rattle.tables.specs.Meaning.{entry_meant}
use Rattle.copying.proofs.Given.{resolve_below}
use Rattle.entering.proofs.Pending.{carried_all, carried_none}
use Rattle.entering.proofs.carry.Goals as goal

pub returns-then-covers : goal.returns-then-covers
returns-then-covers c =
    let a = c.args in
    carried_none a.p.now a.b.0 a.page.0 a.off a.n _ c.covers.result c.covers.ensures c.if-covers.true

pub prepare-requires : goal.prepare-requires
prepare-requires c =
    let a = c.args in
    (omega (arith, c.requires.0.size, c.requires.3), λ x h. omega (arith, c.requires.0.size, resolve_below c.requires.0 a.s a.page.0 c.resolve_in-r.ensures.0 x h))

pub returns : goal.returns
returns c =
    let a = c.args in
    carried_all (pages_of a.p.now) _ a.b.0 a.page.0 a.off a.n (entry_meant c.resolve_in-r.result.entry) _ c.resolve_in-r.ensures.0 c.prepare.ensures
