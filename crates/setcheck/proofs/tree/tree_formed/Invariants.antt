-- `setcheck::tree::tree_formed` meets its contract. Assumes nothing.
use mathlib.Core.Path.{◌≡◌}
use mathlib.Core.Bool.{true}
use Rattle.base.specs.Count.{all}
use Rattle.tables.specs.Packed.{unpack}
use Rattle.setcheck.specs.Records.{set_in_tree}
use Rattle.setcheck.proofs.tree.tree_formed.Given as goal

abbrev pub invariant-loop-s : goal.invariant-loop-s
invariant-loop-s l = all l.s (set_in_tree (unpack l.t)) ≡ true
