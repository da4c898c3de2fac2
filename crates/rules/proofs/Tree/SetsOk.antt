-- The rules on sets as propositions over set records, and what follows from them for the tree of sets; format. Assumes nothing.
use mathlib.Core.Bool.{cond, false, true, true≢false}
use mathlib.Core.List.{List, Memᴰ, ◌∷◌, []}
use mathlib.Core.Logic.{inl, inr, ◌⊎◌, ⊎_elim}
use mathlib.Core.Path.{ap, refl, subst, sym, ◌∙◌, ◌≡◌}
use Prim.Native.Nat.{◌-◌, ◌<◌, suc, ℕ, ◌≤◌}
use native.Mathlib.Omega.{arith}
use lib.Dec.{eqb, ltb}
use borrow.Author.Tests.{ltb-false, ltb-true, ne_eqb}
use Rattle.base.specs.Logic.{same?, test?}
use Rattle.rules.proofs.Tree.Chains.{Follows, children_are, children_none, children_used, count_once, follows_next, follows_once}
use Rattle.rules.proofs.Steps.Handing.{ProperTree}
use Rattle.rules.proofs.Steps.OneStep.{TreeOk}
use Rattle.rules.proofs.Steps.WriterSteps.{NoDup}
use Rattle.rules.specs.Rules.{count_in}
use Rattle.rules.specs.Sets.{root_alone}
use Rattle.rules.specs.State.{SetRecord, Tree, children_of, no_set, tree_of, unused_set}
use Rattle.rules.specs.Terms.{default_term}
use Rattle.rules.specs.Trees.{root_tree}
use Rattle.rules.specs.WellFormed.{term_formed}

-- "Set 0 is used, writeable, level 0, with no parent or sibling"; unused sets are all zero, as are those out of range; the chains end; levels rise by one from the parent, up to 5;
-- the terms of used sets are well formed.
pub record SetsOk (sets : ℕ → SetRecord) : Type 0 where
  pub root_used : (sets 0).used ≡ true
  pub root_writeable : (sets 0).writeable ≡ true
  pub root_level : (sets 0).level ≡ 0
  pub root_parent : (sets 0).parent ≡ no_set
  pub root_sibling : (sets 0).next_sibling ≡ no_set
  pub out : (s : ℕ) → 8 ≤ s → sets s ≡ unused_set
  pub blank : (s : ℕ) → (sets s).used ≡ false → sets s ≡ unused_set
  pub follows : (s : ℕ) → (sets s).used ≡ true → Follows sets (children_of sets s) (sets s).first_child
  pub deep : (s : ℕ) → (sets s).used ≡ true → (s ≡ 0 → ⊥) → 0 < (sets s).level
  pub highest : (s : ℕ) → (sets s).level ≤ 5
  pub tree : TreeOk (tree_of sets)
  pub terms : (s : ℕ) → (sets s).used ≡ true → term_formed (sets s).term ≡ true

-- trees are equal by their parts
pub tree_ext : (a b : Tree) → ((x : ℕ) → a.used x ≡ b.used x) → ((x : ℕ) → a.writeable x ≡ b.writeable x) → ((x : ℕ) → a.level x ≡ b.level x) →
    ((x : ℕ) → a.parent x ≡ b.parent x) → ((x : ℕ) → a.children x ≡ b.children x) → a ≡ b
tree_ext a b u w l p c = λ i. record { used = λ x. u x i; writeable = λ x. w x i; level = λ x. l x i; parent = λ x. p x i; children = λ x. c x i }

-- nothing out of range is used
pub out_below : (sets : ℕ → SetRecord) → ((s : ℕ) → 8 ≤ s → sets s ≡ unused_set) → (s : ℕ) → (sets s).used ≡ true → s < 8
out_below sets out s u = test? (ltb s 8) (λ e. ltb-true s 8 e) (λ e. absurd (true≢false (sym u ∙ ap (λ (r : SetRecord). r.used) (out s (ltb-false s 8 e)))))

-- WHAT FOLLOWS
module _ (sets : ℕ → SetRecord) (ok : SetsOk sets) where
  pub used_below : (s : ℕ) → (sets s).used ≡ true → s < 8
  used_below = out_below sets ok.out

  pub child_below : (s c : ℕ) → Memᴰ c (children_of sets s) → c < 8
  child_below s c m = used_below c (ok.tree.kid_used s c m)

  pub children_once : (s : ℕ) → NoDup (children_of sets s)
  children_once s =
      test? (sets s).used (λ u. follows_once sets (children_of sets s) (sets s).first_child (ok.follows s u)) (λ u. rw (children_none sets s u) tt)

  -- the tree of sets in order
  pub proper_tree : ProperTree (tree_of sets)
  proper_tree = record { ok = ok.tree; once = children_once }

  -- every used set but the root stands in its parent's list, one level on
  pub set_listed : (c : ℕ) → (sets c).used ≡ true → (c ≡ 0 → ⊥) → Memᴰ c (children_of sets (sets c).parent)
  set_listed c u n = let d = ok.deep c u n in ok.tree.child c ((sets c).level - 1) (omega arith)

  pub set_level : (c : ℕ) → (sets c).used ≡ true → (c ≡ 0 → ⊥) → (sets c).level ≡ suc (sets (sets c).parent).level
  set_level c u n = ok.tree.kid_lvl (sets c).parent c (set_listed c u n)

  pub parent_below : (c : ℕ) → (sets c).used ≡ true → (c ≡ 0 → ⊥) → (sets c).parent < 8
  parent_below c u n = used_below (sets c).parent (children_used sets (sets c).parent c (set_listed c u n))

  -- it stands there once
  pub set_once : (c : ℕ) → (sets c).used ≡ true → (c ≡ 0 → ⊥) → count_in (children_of sets (sets c).parent) (λ x. eqb c x) ≡ 1
  set_once c u n = count_once c (children_of sets (sets c).parent) (children_once (sets c).parent) (set_listed c u n)

  -- "links are 8 or used sets"
  list_link : (s k : ℕ) (xs : List ℕ) → children_of sets s ≡ xs → Follows sets xs k → (k ≡ no_set) ⊎ ((sets k).used ≡ true)
  list_link s k [] e f = inl f
  list_link s k (x ∷ xs) e f = inr (ok.tree.kid_used s k (rw e (Memᴰ.head f.0)))

  pub first_used : (s : ℕ) → (sets s).used ≡ true → ((sets s).first_child ≡ no_set) ⊎ ((sets (sets s).first_child).used ≡ true)
  first_used s u = list_link s (sets s).first_child (children_of sets s) refl (ok.follows s u)

  pub next_used : (s : ℕ) → (sets s).used ≡ true → ((sets s).next_sibling ≡ no_set) ⊎ ((sets (sets s).next_sibling).used ≡ true)
  next_used s u =
      same? s 0 (λ e. inl (ap (λ x. (sets x).next_sibling) e ∙ ok.root_sibling))
      (λ n. let m = set_listed s u n in let p : ℕ = (sets s).parent in
      ⊎_elim (λ q. inl q) (λ q. inr (ok.tree.kid_used p (sets s).next_sibling q))
      (follows_next sets (children_of sets p) (sets p).first_child s (ok.follows p (children_used sets p s m)) m))

  -- the root is no child, and no set is its own
  pub root_no_child : (s : ℕ) → Memᴰ 0 (children_of sets s) → ⊥
  root_no_child s m = let l = ok.tree.kid_lvl s 0 m in let z = ok.root_level in omega arith

  pub not_own_child : (s : ℕ) → Memᴰ s (children_of sets s) → ⊥
  not_own_child s m = let l = ok.tree.kid_lvl s s m in omega arith

-- FORMAT
root_0 : root_alone 0 ≡ record { used = true; writeable = true; level = 0; parent = no_set; first_child = no_set; next_sibling = no_set; term = default_term }
unfolding root_alone
root_0 = refl

root_x : (x : ℕ) → (0 ≡ x → ⊥) → root_alone x ≡ unused_set
unfolding root_alone
root_x x n = rw (ne_eqb 0 x n)

-- what holds of set 0 and of an unused set
by_root : (P : ℕ → SetRecord → Type 0) → P 0 (root_alone 0) → ((x : ℕ) → (0 ≡ x → ⊥) → P x unused_set) → (x : ℕ) → P x (root_alone x)
by_root P a b x = same? 0 x (λ e. subst (λ y. P y (root_alone y)) e a) (λ n. rw (root_x x n) (b x n))

root_children : (x : ℕ) → children_of root_alone x ≡ []
root_children x = same? 0 x (λ e. subst (λ y. children_of root_alone y ≡ []) e (children_are root_alone 0 [] (rw root_0) (omega arith) (rw root_0)))
    (λ n. children_none root_alone x (rw (root_x x n)))

pub root_alone_tree : tree_of root_alone ≡ root_tree
unfolding root_tree
root_alone_tree = tree_ext (tree_of root_alone) root_tree
    (by_root (λ x r. r.used ≡ eqb x 0) (rw root_0) (λ x n. sym (ne_eqb x 0 (λ e. n (sym e)))))
    (by_root (λ x r. r.writeable ≡ eqb x 0) (rw root_0) (λ x n. sym (ne_eqb x 0 (λ e. n (sym e)))))
    (by_root (λ x r. r.level ≡ 0) (rw root_0) (λ x n. refl))
    (by_root (λ x r. r.parent ≡ cond (eqb x 0) no_set 0) (rw root_0) (λ x n. rw (ne_eqb x 0 (λ e. n (sym e)))))
    root_children

-- the default term is well formed
pub default_formed : term_formed default_term ≡ true
unfolding term_formed
default_formed = refl

pub format_sets : SetsOk root_alone
format_sets =
    let level : (x : ℕ) → (root_alone x).level ≡ 0 = by_root (λ x r. r.level ≡ 0) (rw root_0) (λ x n. refl) in
    let no_child : (x c : ℕ) → Memᴰ c (children_of root_alone x) → ⊥ = λ x c m. elim (subst (λ l. Memᴰ c l) (root_children x) m) [ ] in
    record {
      root_used = rw root_0;
      root_writeable = rw root_0;
      root_level = rw root_0;
      root_parent = rw root_0;
      root_sibling = rw root_0;
      out = λ x l. root_x x (λ e. omega arith);
      blank = by_root (λ x r. r.used ≡ false → r ≡ unused_set) (rw root_0 (λ u. absurd (true≢false u))) (λ x n u. refl);
      follows = λ x u. rw (root_children x) (by_root (λ x r. r.used ≡ true → r.first_child ≡ 8) (rw root_0 (λ u. refl)) (λ x n u. absurd (true≢false (sym u))) x u);
      deep = λ x u n. absurd (by_root (λ x r. r.used ≡ true → (x ≡ 0 → ⊥) → ⊥) (λ u n. n refl) (λ x m u n. true≢false (sym u)) x u n);
      highest = λ x. let l = level x in omega arith;
      tree = record {
        lower = λ x n e. let l = level x in absurd (omega arith);
        kid_par = λ x c m. absurd (no_child x c m);
        kid_lvl = λ x c m. absurd (no_child x c m);
        kid_used = λ x c m. absurd (no_child x c m);
        above = λ x n e. let l = level x in absurd (omega arith);
        child = λ x n e. let l = level x in absurd (omega arith);
      };
      terms = by_root (λ x r. r.used ≡ true → term_formed r.term ≡ true) (λ u. rw root_0 default_formed) (λ x n u. absurd (true≢false (sym u)));
    }
