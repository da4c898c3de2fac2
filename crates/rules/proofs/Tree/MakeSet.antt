-- Making a set on set records does to the tree what the plain store does, and keeps the rules on sets. Assumes nothing.
use mathlib.Core.Bool.{Bool, false, true, true≢false}
use mathlib.Core.List.Memᴰ
use mathlib.Core.List.{◌++◌, List, Memᴰ, ◌∷◌, []}
use mathlib.Core.Logic.{⊎_elim}
use mathlib.Core.Path.{ap, refl, subst, sym, ◌∙◌, ◌≡◌}
use Prim.Native.Nat.{◌<◌, suc, ℕ, ◌≤◌}
use native.Mathlib.Omega.{arith}
use lib.ListN.{length, length-append}
use Rattle.base.specs.Logic.{same?, test?}
use Rattle.base.specs.Update.{upd, upd_all, upd_map, upd_other, upd_same}
use Rattle.rules.proofs.Tree.Chains.{Follows, children_are, children_length, children_none, few_below, follows_frame, last_first, last_follows, last_keeps, last_other, last_sibling}
use Rattle.rules.proofs.Agreement.CreateMake.{make_tree}
use Rattle.rules.proofs.Tree.SetsOk.{SetsOk, child_below, children_once, default_formed, not_own_child, root_no_child, tree_ext}
use Rattle.rules.specs.Sets.{append_set, with_first_child, with_next_sibling}
use Rattle.rules.specs.State.{SetRecord, children_of, no_set, tree_of}
use Rattle.rules.specs.Terms.{default_term}
use Rattle.rules.specs.Trees.{add_child}
use Rattle.rules.specs.WellFormed.{term_formed}

-- MAKE
module _ (sets : ℕ → SetRecord) (ok : SetsOk sets) (s c : ℕ) (w : Bool) (us : (sets s).used ≡ true) (c8 : c < 8) (uc : (sets c).used ≡ false) where
  abbrev fresh : SetRecord
  fresh = record { used = true; writeable = w; level = suc (sets s).level; parent = s; first_child = no_set; next_sibling = no_set; term = default_term }

  abbrev kids : List ℕ
  kids = children_of sets s

  -- the records after the make, and before the last link
  abbrev grown : ℕ → SetRecord
  grown = append_set s c w sets

  abbrev first : ℕ → SetRecord
  first = upd sets c fresh

  used_not : (x : ℕ) → (sets x).used ≡ true → c ≡ x → ⊥
  used_not x u e = true≢false (sym u ∙ ap (λ y. (sets y).used) (sym e) ∙ uc)

  kid_not : (x y : ℕ) → Memᴰ y (children_of sets x) → c ≡ y → ⊥
  kid_not x y m = used_not y (ok.tree.kid_used x y m)

  apart : s ≡ c → ⊥
  apart e = used_not s us (sym e)

  grown_field : {A : Type 0} (g : SetRecord → A) → ((r : SetRecord) → g (with_first_child r c) ≡ g r) → ((r : SetRecord) → g (with_next_sibling r c) ≡ g r) →
      (x : ℕ) → g (grown x) ≡ upd (λ y. g (sets y)) c (g fresh) x
  unfolding append_set
  grown_field g hf hs x = last_keeps first g c hs s kids x hf ∙ upd_map (λ _. g) sets c fresh x

  grown_other : (x : ℕ) → (s ≡ x → ⊥) → (c ≡ x → ⊥) → (Memᴰ x kids → ⊥) → grown x ≡ sets x
  unfolding append_set
  grown_other x n m o = last_other first c s kids x n o ∙ upd_other sets c fresh x m

  grown_sibling : (x : ℕ) → (c ≡ x → ⊥) → (Memᴰ x kids → ⊥) → (grown x).next_sibling ≡ (sets x).next_sibling
  unfolding append_set
  grown_sibling x m o = last_sibling first c s kids x o ∙ ap (λ (r : SetRecord). r.next_sibling) (upd_other sets c fresh x m)

  grown_first : (x : ℕ) → (s ≡ x → ⊥) → (c ≡ x → ⊥) → (grown x).first_child ≡ (sets x).first_child
  unfolding append_set
  grown_first x n m = last_first first c s kids x n ∙ ap (λ (r : SetRecord). r.first_child) (upd_other sets c fresh x m)

  grown_used : (x : ℕ) → (grown x).used ≡ upd (λ y. (sets y).used) c true x
  grown_used = grown_field (λ r. r.used) (λ r. refl) (λ r. refl)

  grown_level : (x : ℕ) → (grown x).level ≡ upd (λ y. (sets y).level) c (suc (sets s).level) x
  grown_level = grown_field (λ r. r.level) (λ r. refl) (λ r. refl)

  grown_parent : (x : ℕ) → (grown x).parent ≡ upd (λ y. (sets y).parent) c s x
  grown_parent = grown_field (λ r. r.parent) (λ r. refl) (λ r. refl)

  grown_writeable : (x : ℕ) → (grown x).writeable ≡ upd (λ y. (sets y).writeable) c w x
  grown_writeable = grown_field (λ r. r.writeable) (λ r. refl) (λ r. refl)

  grown_term : (x : ℕ) → (grown x).term ≡ upd (λ y. (sets y).term) c default_term x
  grown_term = grown_field (λ r. r.term) (λ r. refl) (λ r. refl)

  was_used : (x : ℕ) → (c ≡ x → ⊥) → (grown x).used ≡ (sets x).used
  was_used x n = grown_used x ∙ upd_other (λ y. (sets y).used) c true x n

  -- the children afterwards
  abbrev lists : ℕ → List ℕ
  lists = upd (upd (children_of sets) c []) s (kids ++ (c ∷ []))

  lists_s : lists s ≡ kids ++ (c ∷ [])
  lists_s = upd_same _ s _

  lists_c : lists c ≡ []
  lists_c = upd_other _ s _ c apart ∙ upd_same (children_of sets) c []

  lists_x : (x : ℕ) → (s ≡ x → ⊥) → (c ≡ x → ⊥) → lists x ≡ children_of sets x
  lists_x x n m = upd_other _ s _ x n ∙ upd_other (children_of sets) c [] x m

  follows_s : Follows grown (kids ++ (c ∷ [])) (grown s).first_child
  unfolding append_set
  follows_s =
      last_follows first c s kids c8 (ap (λ (r : SetRecord). r.next_sibling) (upd_same sets c fresh)) apart (λ m. kid_not s c m refl) (not_own_child sets ok s)
      (rw (upd_other sets c fresh s (used_not s us))
      (follows_frame sets first kids (sets s).first_child (λ x m. ap (λ (r : SetRecord). r.next_sibling) (upd_other sets c fresh x (kid_not s x m))) (ok.follows s us)))

  follows_c : (grown c).first_child ≡ 8
  unfolding append_set
  follows_c = last_first first c s kids c apart ∙ ap (λ (r : SetRecord). r.first_child) (upd_same sets c fresh)

  follows_x : (x : ℕ) → (s ≡ x → ⊥) → (c ≡ x → ⊥) → (sets x).used ≡ true → Follows grown (children_of sets x) (grown x).first_child
  follows_x x n m u =
      rw (grown_first x n m)
      (follows_frame sets grown (children_of sets x) (sets x).first_child
      (λ y k. grown_sibling y (kid_not x y k) (λ j. n (sym (ok.tree.kid_par s y j) ∙ ok.tree.kid_par x y k))) (ok.follows x u))

  length_s : length (kids ++ (c ∷ [])) ≤ 8
  length_s =
      let l = few_below 8 (c ∷ kids) (λ m. kid_not s c m refl, children_once sets ok s)
      (λ x m. ⊎_elim (λ e. subst (λ y. y < 8) (sym e) c8) (λ k. child_below sets ok s x k) (Memᴰ.cases_cons m)) in
      simp length-append (omega arith)

  after_follows : (x : ℕ) → (grown x).used ≡ true → Follows grown (lists x) (grown x).first_child
  after_follows x u =
      same? s x (λ e. subst (λ y. Follows grown (lists y) (grown y).first_child) e (rw lists_s follows_s))
      (λ n. same? c x (λ e. subst (λ y. Follows grown (lists y) (grown y).first_child) e (rw lists_c follows_c))
      (λ m. rw (lists_x x n m) (follows_x x n m (sym (was_used x m) ∙ u))))

  after_length : (x : ℕ) → length (lists x) ≤ 8
  after_length x =
      upd_all (λ l. length l ≤ 8) (upd (children_of sets) c []) s (kids ++ (c ∷ [])) length_s
      (upd_all (λ l. length l ≤ 8) (children_of sets) c [] (omega arith) (children_length sets)) x

  after_children : (x : ℕ) → children_of grown x ≡ lists x
  after_children x =
      test? (grown x).used
      (λ u. children_are grown x (lists x) u (after_length x) (after_follows x u))
      (λ u. let m : c ≡ x → ⊥ = λ e. true≢false (sym (upd_same (λ y. (sets y).used) c true) ∙ sym (grown_used c) ∙ ap (λ y. (grown y).used) e ∙ u) in
      let v = sym (was_used x m) ∙ u in
      children_none grown x u ∙ sym (lists_x x (λ e. true≢false (sym us ∙ ap (λ y. (sets y).used) e ∙ v)) m ∙ children_none sets x v))

  -- MAKE does to the tree what the plain store does
  pub make_same : tree_of (append_set s c w sets) ≡ add_child (tree_of sets) s c w
  unfolding add_child
  make_same = tree_ext (tree_of grown) (add_child (tree_of sets) s c w) grown_used grown_writeable grown_level grown_parent after_children

  -- and keeps the rules on sets
  pub make_sets : (sets s).level < 5 → SetsOk (append_set s c w sets)
  make_sets under =
      let c0 : c ≡ 0 → ⊥ = used_not 0 ok.root_used in
      let root : (x : ℕ) → (sets x).used ≡ false → (s ≡ x → ⊥) × (Memᴰ x kids → ⊥) =
      λ x v. (λ e. true≢false (sym us ∙ ap (λ y. (sets y).used) e ∙ v), λ m. true≢false (sym (ok.tree.kid_used s x m) ∙ v)) in
      record {
        root_used = was_used 0 c0 ∙ ok.root_used;
        root_writeable = grown_writeable 0 ∙ upd_other (λ y. (sets y).writeable) c w 0 c0 ∙ ok.root_writeable;
        root_level = grown_level 0 ∙ upd_other (λ y. (sets y).level) c (suc (sets s).level) 0 c0 ∙ ok.root_level;
        root_parent = grown_parent 0 ∙ upd_other (λ y. (sets y).parent) c s 0 c0 ∙ ok.root_parent;
        root_sibling = grown_sibling 0 c0 (root_no_child sets ok s) ∙ ok.root_sibling;
        out = λ x l.
            let v : (sets x).used ≡ false = ap (λ (r : SetRecord). r.used) (ok.out x l) in
            grown_other x (root x v).0 (λ e. omega arith) (root x v).1 ∙ ok.out x l;
        blank = λ x u.
            let m : c ≡ x → ⊥ = λ e. true≢false (sym (upd_same (λ y. (sets y).used) c true) ∙ sym (grown_used c) ∙ ap (λ y. (grown y).used) e ∙ u) in
            let v = sym (was_used x m) ∙ u in
            grown_other x (root x v).0 m (root x v).1 ∙ ok.blank x v;
        follows = λ x u. rw (after_children x) (after_follows x u);
        deep = λ x u n. rw (grown_level x)
            (same? c x (λ e. subst (λ y. 0 < upd (λ z. (sets z).level) c (suc (sets s).level) y) e (rw (upd_same (λ z. (sets z).level) c (suc (sets s).level)) (omega arith)))
            (λ m. rw (upd_other (λ z. (sets z).level) c (suc (sets s).level) x m) (ok.deep x (sym (was_used x m) ∙ u) n)));
        highest = λ x. rw (grown_level x) (upd_all (λ n. n ≤ 5) (λ z. (sets z).level) c (suc (sets s).level) (omega arith) ok.highest x);
        tree = rw make_same (make_tree (tree_of sets) s c w ok.tree us uc);
        terms = λ x u. rw (grown_term x)
            (same? c x (λ e. subst (λ y. term_formed (upd (λ z. (sets z).term) c default_term y) ≡ true) e (rw (upd_same (λ z. (sets z).term) c default_term) default_formed))
            (λ m. rw (upd_other (λ z. (sets z).term) c default_term x m) (ok.terms x (sym (was_used x m) ∙ u))));
      }
