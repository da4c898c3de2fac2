-- Removing a set on set records does to the tree what the plain store does, and keeps the rules on sets. Assumes nothing.
use mathlib.Core.Bool.{false, true, true≢false}
use mathlib.Core.List.{Memᴰ, []}
use mathlib.Core.Path.{ap, refl, subst, sym, ◌∙◌, ◌≡◌}
use Prim.Native.Nat.{ℕ, ◌≤◌}
use native.Mathlib.Omega.{arith}
use borrow.Author.Tests.{eq-eqb, ne_eqb}
use Rattle.base.specs.Logic.{same?, test?}
use Rattle.base.specs.Update.{upd, upd_all, upd_other, upd_same}
use Rattle.rules.proofs.Tree.Chains.{Follows, children_are, children_length, children_none, unlink_follows, unlink_other, without_length, without_out}
use Rattle.rules.proofs.Agreement.Remove.{remove_tree}
use Rattle.rules.proofs.Tree.SetsOk.{SetsOk, children_once, tree_ext, used_below}
use Rattle.rules.specs.Sets.{unlink_set, with_first_child, with_next_sibling}
use Rattle.rules.specs.State.{SetRecord, children_of, no_term, tree_of, unused_set}
use Rattle.rules.specs.Trees.{take_away, without}

-- REMOVE
module _ (sets : ℕ → SetRecord) (ok : SetsOk sets) (c : ℕ) (uc : (sets c).used ≡ true) (c0 : c ≡ 0 → ⊥) (leaf : children_of sets c ≡ []) where
  abbrev left : ℕ → SetRecord
  left = unlink_set c sets

  left_c : left c ≡ unused_set
  unfolding unlink_set
  left_c = rw (eq-eqb c c refl)

  left_field : {A : Type 0} (g : SetRecord → A) → ((r : SetRecord) (a b : ℕ) → g (with_next_sibling (with_first_child r a) b) ≡ g r) →
      (x : ℕ) → g (left x) ≡ upd (λ y. g (sets y)) c (g unused_set) x
  left_field g h x =
      same? c x
      (λ e. subst (λ z. g (left z) ≡ upd (λ y. g (sets y)) c (g unused_set) z) e (ap g left_c ∙ sym (upd_same (λ y. g (sets y)) c (g unused_set))))
      (λ n. ap g (unlink_other sets c x n) ∙ h (sets x) _ _ ∙ sym (upd_other (λ y. g (sets y)) c (g unused_set) x n))

  left_used : (x : ℕ) → (left x).used ≡ upd (λ y. (sets y).used) c false x
  left_used = left_field (λ r. r.used) (λ r a b. refl)

  left_level : (x : ℕ) → (left x).level ≡ upd (λ y. (sets y).level) c 0 x
  left_level = left_field (λ r. r.level) (λ r a b. refl)

  left_parent : (x : ℕ) → (left x).parent ≡ upd (λ y. (sets y).parent) c 0 x
  left_parent = left_field (λ r. r.parent) (λ r a b. refl)

  left_writeable : (x : ℕ) → (left x).writeable ≡ upd (λ y. (sets y).writeable) c false x
  left_writeable = left_field (λ r. r.writeable) (λ r a b. refl)

  left_term : (x : ℕ) → (left x).term ≡ upd (λ y. (sets y).term) c no_term x
  left_term = left_field (λ r. r.term) (λ r a b. refl)

  -- the record of another unused set stays all zero
  left_blank : (x : ℕ) → (c ≡ x → ⊥) → sets x ≡ unused_set → left x ≡ unused_set
  left_blank x n e = unlink_other sets c x n ∙ rw (e, ne_eqb c 0 c0)

  left_not : (x : ℕ) → (left x).used ≡ true → c ≡ x → ⊥
  left_not x u e = true≢false (sym u ∙ ap (λ y. (left y).used) (sym e) ∙ ap (λ (r : SetRecord). r.used) left_c)

  left_was : (x : ℕ) → (c ≡ x → ⊥) → (left x).used ≡ (sets x).used
  left_was x n = left_used x ∙ upd_other (λ y. (sets y).used) c false x n

  left_follows : (x : ℕ) → (c ≡ x → ⊥) → (sets x).used ≡ true → Follows left (without c (children_of sets x)) (left x).first_child
  left_follows x n u =
      rw (unlink_other sets c x n)
      (unlink_follows sets c (children_of sets x) (sets x).first_child (used_below sets ok c uc) (children_once sets ok x) (ok.follows x u))

  left_children : (x : ℕ) → (c ≡ x → ⊥) → children_of left x ≡ without c (children_of sets x)
  unfolding without
  left_children x n =
      test? (sets x).used
      (λ u. children_are left x (without c (children_of sets x)) (left_was x n ∙ u)
      (let a = without_length c (children_of sets x) in let b = children_length sets x in omega arith) (left_follows x n u))
      (λ u. children_none left x (left_was x n ∙ u) ∙ rw (children_none sets x u))

  left_lists : (x : ℕ) → children_of left x ≡ (take_away (tree_of sets) c).children x
  unfolding take_away
  left_lists x =
      same? c x
      (λ e. subst (λ y. children_of left y ≡ (take_away (tree_of sets) c).children y) e
      (children_none left c (ap (λ (r : SetRecord). r.used) left_c) ∙ sym (upd_same _ c [])))
      (λ n. same? (sets c).parent x
      (λ e. subst (λ y. children_of left y ≡ upd (children_of sets) (sets c).parent (without c (children_of sets (sets c).parent)) y) e
      (left_children (sets c).parent (λ q. n (q ∙ e)) ∙ sym (upd_same (children_of sets) (sets c).parent _))
      ∙ sym (upd_other _ c [] x n))
      (λ d. left_children x n ∙ without_out c (children_of sets x) (λ m. d (ok.tree.kid_par x c m))
      ∙ sym (upd_other _ c [] x n ∙ upd_other (children_of sets) (sets c).parent _ x d)))

  -- REMOVE does to the tree what the plain store does
  pub remove_same : tree_of (unlink_set c sets) ≡ take_away (tree_of sets) c
  unfolding take_away
  remove_same = tree_ext (tree_of left) (take_away (tree_of sets) c) left_used left_writeable left_level left_parent left_lists

  -- and keeps the rules on sets
  pub remove_sets : SetsOk (unlink_set c sets)
  remove_sets = record {
    root_used = left_was 0 c0 ∙ ok.root_used;
    root_writeable = left_writeable 0 ∙ upd_other (λ y. (sets y).writeable) c false 0 c0 ∙ ok.root_writeable;
    root_level = left_level 0 ∙ upd_other (λ y. (sets y).level) c 0 0 c0 ∙ ok.root_level;
    root_parent = left_parent 0 ∙ upd_other (λ y. (sets y).parent) c 0 0 c0 ∙ ok.root_parent;
    root_sibling = let l = used_below sets ok c uc in
        ap (λ (r : SetRecord). r.next_sibling) (unlink_other sets c 0 c0) ∙ rw (ok.root_sibling, ne_eqb c 8 (λ e. omega arith));
    out = λ x l. let b = used_below sets ok c uc in left_blank x (λ e. omega arith) (ok.out x l);
    blank = λ x u. same? c x (λ e. subst (λ y. left y ≡ unused_set) e left_c) (λ n. left_blank x n (ok.blank x (sym (left_was x n) ∙ u)));
    follows = λ x u. let n = left_not x u in rw (left_children x n) (left_follows x n (sym (left_was x n) ∙ u));
    deep = λ x u n. let m = left_not x u in rw (left_level x, upd_other (λ y. (sets y).level) c 0 x m) (ok.deep x (sym (left_was x m) ∙ u) n);
    highest = λ x. rw (left_level x) (upd_all (λ n. n ≤ 5) (λ z. (sets z).level) c 0 (omega arith) ok.highest x);
    tree = rw remove_same (remove_tree (tree_of sets) ok.tree c (λ x m. elim (subst (λ l. Memᴰ x l) leaf m) [ ]));
    terms = λ x u. let n = left_not x u in rw (left_term x, upd_other (λ y. (sets y).term) c no_term x n) (ok.terms x (sym (left_was x n) ∙ u));
  }
