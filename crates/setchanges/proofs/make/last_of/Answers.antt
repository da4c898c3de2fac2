-- `setchanges::make::last_of` meets its contract. Assumes nothing.
use mathlib.Core.Path.{refl, sym, ◌∙◌}
use Prim.Native.Nat.{◌+◌, ◌-◌}
use native.Mathlib.Omega.{arith}
use Rattle.setchanges.proofs.Linking.{last_turn, last_stop, last_end}
use Rattle.setchanges.proofs.make.last_of.Goals as goal

pub loop-init : goal.loop-init
loop-init c = (c.requires.1, refl)

pub next_sibling_of-next-requires : goal.next_sibling_of-next-requires
next_sibling_of-next-requires c = (omega (arith, c.requires.0), c.loop.invariant.0)

pub returns-then-next-ge8 : goal.returns-then-next-ge8
returns-then-next-ge8 c =
    (sym (c.loop.invariant.1 ∙ last_stop _ _ (6 - c.loop.counter) c.loop.x _ (omega arith) c.next_sibling_of-next.ensures.0 c.if-next-ge8.true), c.loop.invariant.0)

pub loop-preserved : goal.loop-preserved
loop-preserved c =
    (omega arith, c.loop.invariant.1 ∙ last_turn _ _ (7 - (c.loop.counter + 1)) c.loop.x _ (omega arith) c.next_sibling_of-next.ensures.0 (omega arith))

pub returns : goal.returns
returns c =
    (sym (c.loop.invariant.1 ∙ last_end _ (7 - c.loop.counter) c.loop.x (omega arith)), c.loop.invariant.0)
