-- The tree of sets, set by set. Assumes nothing.
use mathlib.Core.Bool.{false, true}
use mathlib.Core.Path.{sym, ◌≡◌}
use Prim.Native.Nat.{◌<◌, ℕ}
use Rattle.base.specs.Count.{all, all_not}
use Rattle.base.specs.Logic.{and_both, and_false}
use Rattle.rules.specs.State.{Tables}
use Rattle.rules.specs.WellFormed.{all_sets, root_formed, tree_formed}
use Rattle.setcheck.specs.Records.{set_in_tree}

module _ (tb : Tables) where
  pub tree_root : false ≡ root_formed tb → false ≡ tree_formed tb
  unfolding tree_formed
  tree_root h = rw (← h)

  pub tree_set : (s : ℕ) → s < 8 → false ≡ set_in_tree tb s → false ≡ tree_formed tb
  unfolding tree_formed all_sets set_in_tree
  tree_set s l h = rw (all_not 8 (set_in_tree tb) s l (sym h), and_false)

  pub tree_all : (s : ℕ) → s ≡ 8 → true ≡ root_formed tb → all s (set_in_tree tb) ≡ true → true ≡ tree_formed tb
  unfolding tree_formed all_sets set_in_tree
  tree_all s e h z = sym (and_both (root_formed tb) (all 8 (set_in_tree tb)) (sym h) (rw e at z))
