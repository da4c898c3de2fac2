-- The sets of the plain store and of the tally: a tree whose children are lists. Document 01, "Demand 3".
-- This is stated apart from the set records of the store, and shares no rule with them.
use Rattle.std.specs.Prelude.{Bool, cond, false, true, ◌++◌, List, ◌∷◌, [], suc, ℕ, eqb}
use Rattle.base.specs.Update.{upd}
use Rattle.rules.specs.State.{Tree, no_set}

-- "Format leaves set 0 alone"
unfoldable pub root_tree : Tree
root_tree = record {
  used = λ s. eqb s 0;
  writeable = λ s. eqb s 0;
  level = λ s. 0;
  parent = λ s. cond (eqb s 0) no_set 0;
  children = λ s. [];
}

-- "Making adds a last child, one level on, writeable as asked"
unfoldable pub add_child : Tree → ℕ → ℕ → Bool → Tree
add_child t s c w = record {
  used = upd t.used c true;
  writeable = upd t.writeable c w;
  level = upd t.level c (suc (t.level s));
  parent = upd t.parent c s;
  children = upd (upd t.children c []) s (t.children s ++ (c ∷ []));
}

-- a list without c
unfoldable pub without : ℕ → List ℕ → List ℕ
without c [] = []
without c (x ∷ xs) = cond (eqb c x) (without c xs) (x ∷ without c xs)

-- "Removing takes the set away."
unfoldable pub take_away : Tree → ℕ → Tree
take_away t c = record {
  used = upd t.used c false;
  writeable = upd t.writeable c false;
  level = upd t.level c 0;
  parent = upd t.parent c 0;
  children = upd (upd t.children (t.parent c) (without c (t.children (t.parent c)))) c [];
}
