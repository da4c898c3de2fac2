-- `copying::giving::give` meets its contract. Assumes nothing.
use mathlib.Core.Bool.{true}
use mathlib.Core.Path.{◌≡◌, sym, ◌∙◌}
use Rattle.rules.specs.Reading as Reading
use Rattle.tables.specs.Meaning.{entry_meant}
use Rattle.tables.specs.Packed.{unpack}
use Rattle.copying.proofs.Given.{give_not, give_so, needs_live}
use Rattle.copying.proofs.giving.give.Goals as goal
use Rattle.copying.proofs.giving.give.Goals.{Else-not-needs}

pub returns-then-not-needs : goal.returns-then-not-needs
returns-then-not-needs c =
    let a = c.args in
    give_not a.must (entry_meant a.e) a.page.0 a.c c.requires.0 (sym c.needs.ensures ∙ c.if-not-needs.true)

-- the child needs the page
needed : (c : Else-not-needs) → let a = c.args in Reading.needs ((unpack a.t.now).files a.f) a.c a.page.0 ≡ true
needed c = sym c.needs.ensures ∙ c.if-not-needs.false

pub supply-requires : goal.supply-requires
supply-requires c =
    let a = c.args in
    (c.requires.0, c.requires.3, c.requires.1, c.requires.2, needs_live ((unpack a.t.now).files a.f) a.c a.page.0 (needed (goal.at.supply-requires c).Else-not-needs))

pub returns : goal.returns
returns c =
    let a = c.args in
    give_so a.must (entry_meant a.e) a.page.0 a.c (needed (goal.at.returns c).Else-not-needs) c.supply.ensures
