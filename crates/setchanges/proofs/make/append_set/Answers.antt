-- `setchanges::make::append_set` meets its contract. Assumes nothing.
use native.Mathlib.Omega.{arith}
use Rattle.setchanges.proofs.Linking.{append_first, append_behind}
use Rattle.setchanges.proofs.make.append_set.Goals as goal

pub returns-then-first-ge8 : goal.returns-then-first-ge8
returns-then-first-ge8 c =
    append_first _ _ _ c.requires.3 _ c.first_child_of-first.ensures.0 c.if-first-ge8.true c.put_child.ensures c.put_first_child.ensures

pub returns : goal.returns
returns c =
    append_behind _ _ _ c.requires.3 _ _ c.first_child_of-first.ensures.0 (omega (arith, c.if-first-ge8.false)) c.last_of-last.ensures.0
    c.put_child-2.ensures c.put_next_sibling.ensures
