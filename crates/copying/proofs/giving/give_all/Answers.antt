-- `copying::giving::give_all_law` meets its contract. Assumes nothing.
use mathlib.Core.Logic.{inr}
use Prim.Native.Nat.{◌+◌}
use native.Mathlib.Omega.{arith}
use Rattle.rules.specs.Rules.{copied, from}
use Rattle.tables.specs.Packed.{unpack}
use Rattle.copying.specs.Work.{FirstChild}
use Rattle.copying.proofs.Handed.{both_given, both_none, kept_apart}
use Rattle.copying.proofs.Steps.{step_first}
use Rattle.copying.proofs.giving.give_all.Goals as goal
use Rattle.copying.proofs.giving.give_all.Goals.{After-first_child_of-child}

-- the first child
first-child : (c : After-first_child_of-child) → let a = c.args in FirstChild (unpack a.t.now).sets a.s c.first_child_of-child.result
first-child c = record { used = c.requires.3; first = c.first_child_of-child.ensures.0 }

pub returns-then-child-ge8 : goal.returns-then-child-ge8
returns-then-child-ge8 c =
    let a = c.args in
    both_none a.s c.first_child_of-child.result (from a.first a.m) (from (a.first + a.m) a.d) c.requires.0 (first-child (goal.at.returns-then-child-ge8 c).After-first_child_of-child) c.if-child-ge8.true

pub give_pages-a-requires : goal.give_pages-a-requires
give_pages-a-requires c =
    let e = c.resolve_range-r.ensures in
    let ch = first-child (goal.at.give_pages-a-requires c).After-first_child_of-child in
    (c.requires.0, c.requires.1, omega (arith, c.requires.2), ch, λ x lo hi. e.found x lo (omega (arith, hi)))

pub give_pages-requires : goal.give_pages-requires
give_pages-requires c =
    let a = c.args in
    let x = c.give_pages-a.ensures in
    let e = c.resolve_range-r.ensures in (
      x.ready,
      c.requires.1,
      c.requires.2,
      step_first a.s _ x (first-child (goal.at.give_pages-requires c).After-first_child_of-child),
      kept_apart c.resolve_range-r.result.kept copied a.s a.first a.m (a.first + a.m) a.d (inr (omega arith)) c.requires.0
          (λ y lo hi. e.found y (omega (arith, lo)) (omega (arith, hi))) x,
    )

pub returns : goal.returns
returns c =
    let a = c.args in
    both_given a.s (from a.first a.m) (from (a.first + a.m) a.d) c.give_pages-a.ensures c.give_pages.ensures
