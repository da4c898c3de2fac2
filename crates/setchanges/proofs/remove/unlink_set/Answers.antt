-- `setchanges::remove::unlink_set` meets its contract. The loop's invariant: the links of the first x sets are past set c. Assumes nothing.
use mathlib.Core.Path.{sym, ◌∙◌}
use native.Mathlib.Omega.{arith}
use borrow.Author.Rules.{rules}
use Rattle.setchanges.proofs.Unlinking.{past_start, past_turn, past_end}
use Rattle.setchanges.proofs.remove.unlink_set.Goals as goal

pub loop-x-init : goal.loop-x-init
loop-x-init c = past_start _ _ c.requires.0

pub link_past-requires : goal.link_past-requires
link_past-requires c =
    (c.loop-x.invariant.packed, omega arith, c.next_sibling_of-next.ensures.1)

pub loop-x-preserved : goal.loop-x-preserved
loop-x-preserved c =
    past_turn _ _ c.loop-x.x c.loop-x.invariant c.link_past.ensures

pub put_set-requires : goal.put_set-requires
put_set-requires c =
    (c.loop-x.invariant.packed, c.requires.2, search rules)

pub shape_of-t : goal.shape_of-t
shape_of-t c =
    c.put_set.ensures.packed.len ∙ sym c.requires.0.len

pub returns : goal.returns
returns c =
    past_end _ _ c.loop-x.x (omega arith) (c.requires.1, c.requires.2) c.next_sibling_of-next.ensures.0 c.loop-x.invariant c.put_set.ensures
