-- `copying::giving::give_groups` meets its contract. Assumes nothing.
use mathlib.Core.Logic.{inl, inr}
use Prim.Native.Nat.{◌+◌, ◌-◌}
use native.Mathlib.Omega.{arith}
use Rattle.rules.specs.Rules.{copied, extra, from}
use Rattle.tables.specs.Packed.{unpack}
use Rattle.copying.specs.Work.{FirstChild}
use Rattle.copying.proofs.Handed.{groups_given, groups_none, kept_apart}
use Rattle.copying.proofs.Steps.{step_first}
use Rattle.copying.proofs.giving.give_groups.Goals as goal
use Rattle.copying.proofs.giving.give_groups.Goals.{After-first_child_of-child}

-- the first child
first-child : (c : After-first_child_of-child) → let a = c.args in FirstChild (unpack a.t.now).sets a.s c.first_child_of-child.result
first-child c = record { used = c.requires.5; first = c.first_child_of-child.ensures.0 }

pub returns-then-child-gt7 : goal.returns-then-child-gt7
returns-then-child-gt7 c =
    let a = c.args in
    groups_none a.s c.first_child_of-child.result (from a.first a.m) (from a.lo (a.first - a.lo)) (from (a.first + a.m) (a.hi - (a.first + a.m))) c.requires.0 (first-child (goal.at.returns-then-child-gt7 c).After-first_child_of-child) (omega arith)

pub give_pages-a-requires : goal.give_pages-a-requires
give_pages-a-requires c =
    let e = c.resolve_range-r.ensures in
    (c.requires.0, c.requires.1, omega (arith, c.requires.3, c.requires.4), first-child (goal.at.give_pages-a-requires c).After-first_child_of-child, λ x l h. e.found x (omega (arith, l, c.requires.2)) (omega (arith, h, c.requires.2, c.requires.3)))

pub give_pages-b-requires : goal.give_pages-b-requires
give_pages-b-requires c =
    let a = c.args in
    let x = c.give_pages-a.ensures in
    let e = c.resolve_range-r.ensures in (
      x.ready,
      c.requires.1,
      omega (arith, c.requires.2, c.requires.3, c.requires.4),
      step_first a.s _ x (first-child (goal.at.give_pages-b-requires c).After-first_child_of-child),
      kept_apart c.resolve_range-r.result.kept copied a.s a.first a.m a.lo (a.first - a.lo) (inl (omega (arith, c.requires.2))) c.requires.0
          (λ y l h. e.found y l (omega (arith, h, c.requires.2, c.requires.3))) x,
    )

pub give_pages-requires : goal.give_pages-requires
give_pages-requires c =
    let a = c.args in
    let x = c.give_pages-a.ensures in
    let y = c.give_pages-b.ensures in
    let e = c.resolve_range-r.ensures in
    let kept = c.resolve_range-r.result.kept in
    let behind = kept_apart kept copied a.s a.first a.m (a.first + a.m) (a.hi - (a.first + a.m)) (inr (omega arith)) c.requires.0
    (λ z l u. e.found z (omega (arith, l, c.requires.2)) (omega (arith, u, c.requires.2, c.requires.3))) x in (
      y.ready,
      c.requires.1,
      omega (arith, c.requires.3, c.requires.4),
      step_first a.s _ y (step_first a.s _ x (first-child (goal.at.give_pages-requires c).After-first_child_of-child)),
      kept_apart kept extra a.s a.lo (a.first - a.lo) (a.first + a.m) (a.hi - (a.first + a.m)) (inr (omega (arith, c.requires.2))) x.ready behind y,
    )

pub returns : goal.returns
returns c =
    let a = c.args in
    groups_given a.s (from a.first a.m) (from a.lo (a.first - a.lo)) (from (a.first + a.m) (a.hi - (a.first + a.m))) c.give_pages-a.ensures c.give_pages-b.ensures c.give_pages.ensures
