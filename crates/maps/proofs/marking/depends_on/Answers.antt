-- `maps::marking::depends_on` meets its contract. The loop's invariant: the file of set s is marked with that of set c exactly if that of set `at`
-- is, with as many parents above it as turns are left.
use mathlib.Core.Path.{ap₂, sym, ◌∙◌, ◌≡◌}
use Prim.Native.Nat.{ℕ, ◌+◌, ◌-◌}
use native.Mathlib.Omega.{arith}
use Rattle.rules.specs.Reading.{depends_on}
use Rattle.rules.specs.State.{tree_of}
use Rattle.tables.specs.Packed.{unpack}
use Rattle.maps.proofs.Steps.{dep_here, dep_last, dep_stop, dep_up, reaches_level}
use Rattle.maps.proofs.marking.depends_on.Goals as goal

pub loop-init : goal.loop-init
loop-init c =
    let a = c.args in
    sym (reaches_level (unpack a.t.now) a.f a.c a.s (c.level_of-end.result - 0) (omega (arith, c.level_of-end.ensures.0)))

pub returns-then-c-at : goal.returns-then-c-at
returns-then-c-at c =
    let a = c.args in
    sym (c.loop.invariant ∙ dep_here (unpack a.t.now) a.f a.c c.loop.at (c.level_of-end.result - c.loop.counter) c.if-c-at.true)

pub returns-then-not-dependent : goal.returns-then-not-dependent
returns-then-not-dependent c =
    let a = c.args in
    sym (c.loop.invariant
    ∙ dep_stop (unpack a.t.now) a.f a.c c.loop.at (c.level_of-end.result - c.loop.counter) c.if-c-at.false (sym c.if-not-dependent.ensures))

pub loop-preserved : goal.loop-preserved
loop-preserved c =
    let a = c.args in
    let tb = unpack a.t.now in
    let left = c.level_of-end.result - c.loop.counter in
    let q : left - 1 ≡ c.level_of-end.result - (c.loop.counter + 1) = omega arith in
    c.loop.invariant
    ∙ dep_up tb a.f a.c c.loop.at left (omega arith) c.if-c-at.false (sym c.if-not-dependent.ensures)
    ∙ ap₂ (λ (n x : ℕ). depends_on (tree_of tb.sets) (tb.files a.f) a.c n x) q (sym c.parent_in-at.ensures.0)

pub returns : goal.returns
returns c =
    let a = c.args in
    sym (c.loop.invariant ∙ dep_last (unpack a.t.now) a.f a.c c.loop.at (c.level_of-end.result - c.loop.counter) (omega arith))
