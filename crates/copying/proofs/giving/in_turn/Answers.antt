-- `copying::giving::in_turn` meets its contract. Assumes nothing.
use Rattle.tables.specs.Packed.{unpack}
use Rattle.copying.proofs.Handed.{turns_all, turns_heir}
use Rattle.copying.proofs.giving.in_turn.Goals as goal

pub returns-then-not-over : goal.returns-then-not-over
returns-then-not-over c =
    let a = c.args in
    turns_all (unpack a.t.now) a.f a.page.0 a.child a.over c.if-not-over.true

pub returns : goal.returns
returns c =
    let a = c.args in
    turns_heir (unpack a.t.now) a.f a.page.0 a.child a.over c.behind_heir.result c.if-not-over.false c.behind_heir.ensures
