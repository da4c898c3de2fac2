-- `maps::reading::size_of` meets its contract. The loop's invariant: the size by reading is that from set `at`, at most as many parents up as
-- turns are left.
use mathlib.Core.Path.{ap, ap₂, sym, ◌∙◌, ◌≡◌}
use Prim.Native.Nat.{ℕ, ◌+◌, ◌-◌}
use native.Mathlib.Omega.{arith}
use Rattle.rules.specs.State.{is_virgin}
use Rattle.tables.specs.Packed.{unpack}
use Rattle.maps.specs.Upward.{size_from}
use Rattle.maps.proofs.Steps.{size_above, size_here, size_level, size_low}
use Rattle.maps.proofs.reading.size_of.Goals as goal

pub loop-init : goal.loop-init
loop-init c =
    let a = c.args in
    sym (size_level (unpack a.t.now) a.f a.s (c.level_of-end.result - 0) (omega (arith, c.level_of-end.ensures.0)))

pub returns-then-not-is_virgin : goal.returns-then-not-is_virgin
returns-then-not-is_virgin c =
    let a = c.args in (
      c.size_in.ensures.0
          ∙ sym (c.loop.invariant ∙ size_here (unpack a.t.now) a.f c.loop.at (c.level_of-end.result - c.loop.counter)
          (ap is_virgin (sym c.state_in.ensures) ∙ sym c.if-not-is_virgin.ensures)),
      c.size_in.ensures.1,
    )

pub loop-preserved : goal.loop-preserved
loop-preserved c =
    let a = c.args in
    let tb = unpack a.t.now in
    let left = c.level_of-end.result - c.loop.counter in
    let q : left - 1 ≡ c.level_of-end.result - (c.loop.counter + 1) = omega arith in
    c.loop.invariant
    ∙ size_above tb a.f c.loop.at left (omega arith) (ap is_virgin (sym c.state_in.ensures) ∙ sym c.if-not-is_virgin.ensures)
    ∙ ap₂ (λ (n x : ℕ). size_from tb a.f x n) q (sym c.parent_in-at.ensures.0)

pub returns-then-is_virgin : goal.returns-then-is_virgin
returns-then-is_virgin c =
    let a = c.args in (
      sym (c.loop.invariant ∙ size_low (unpack a.t.now) a.f c.loop.at (c.level_of-end.result - c.loop.counter) (omega arith)
          (ap is_virgin (sym c.state_in-2.ensures) ∙ sym c.if-is_virgin.ensures)),
      omega arith,
    )

pub returns : goal.returns
returns c =
    let a = c.args in (
      c.size_in-2.ensures.0
          ∙ sym (c.loop.invariant ∙ size_here (unpack a.t.now) a.f c.loop.at (c.level_of-end.result - c.loop.counter)
          (ap is_virgin (sym c.state_in-2.ensures) ∙ sym c.if-is_virgin.ensures)),
      c.size_in-2.ensures.1,
    )
