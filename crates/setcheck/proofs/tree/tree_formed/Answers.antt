-- `setcheck::tree::tree_formed` meets its contract. Assumes nothing.
use mathlib.Core.Path.{sym}
use native.Mathlib.Omega.{arith}
use Rattle.base.specs.Count.{all_next, all_none}
use Rattle.setcheck.proofs.Places.{tree_root, tree_set, tree_all}
use Rattle.setcheck.proofs.tree.tree_formed.Goals as goal

pub returns-then-not-root_formed : goal.returns-then-not-root_formed
returns-then-not-root_formed c = tree_root _ c.if-not-root_formed.ensures

pub loop-s-init : goal.loop-s-init
loop-s-init c = all_none _

pub returns-then-not-set_in_tree : goal.returns-then-not-set_in_tree
returns-then-not-set_in_tree c = tree_set _ _ (omega arith) c.if-not-set_in_tree.ensures

pub loop-s-preserved : goal.loop-s-preserved
loop-s-preserved c = all_next _ _ c.loop-s.invariant (sym c.if-not-set_in_tree.ensures)

pub returns : goal.returns
returns c = tree_all _ _ (omega arith) c.if-not-root_formed.ensures c.loop-s.invariant
