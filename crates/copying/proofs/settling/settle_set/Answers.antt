-- `copying::settling::settle_set` meets its contract. Assumes nothing.
use mathlib.Core.Path.{◌≡◌, ap, sym, ◌∙◌}
use Rattle.rules.specs.State.{is_virgin}
use Rattle.tables.specs.Meaning.{state_meant}
use Rattle.tables.specs.Packed.{unpack}
use Rattle.copying.proofs.Settled.{settled_not, settled_so}
use Rattle.copying.proofs.settling.settle_set.Goals as goal
use Rattle.copying.proofs.settling.settle_set.Goals.{After-is_virgin}

-- what the test says of the file
test : (c : After-is_virgin) → let a = c.args in is_virgin ((unpack a.t.now).files a.f a.c).state ≡ c.is_virgin.result
test c = ap is_virgin (sym c.state_at.ensures) ∙ sym c.is_virgin.ensures

pub returns-then-not-is_virgin : goal.returns-then-not-is_virgin
returns-then-not-is_virgin c =
    settled_not c.args.f c.args.c c.requires.0 (test (goal.at.returns-then-not-is_virgin c).After-is_virgin ∙ c.if-not-is_virgin.true)

pub returns : goal.returns
unfolding state_meant
returns c =
    let a = c.args in
    settled_so a.f a.c c.size_of-z.result (test (goal.at.returns c).After-is_virgin ∙ c.if-not-is_virgin.false) c.size_of-z.ensures.0 c.put_head.ensures
