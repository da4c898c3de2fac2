-- A set record with another term: the tree stays, the rules on sets hold again, and a store in order is in order again. Assumes nothing.
use mathlib.Core.Bool.{true, true≢false}
use mathlib.Core.Path.{◌≡◌, ap, refl, subst, sym, ◌∙◌}
use Prim.Native.Nat.{suc, zero, ℕ}
use lib.Dec.{ltb}
use Rattle.base.specs.Logic.{same?, test?}
use Rattle.base.specs.Update.{upd, upd_keeps, upd_other, upd_same}
use Rattle.rules.proofs.Formed.Shape.{FilesFormed}
use Rattle.rules.proofs.Storages.CountCalls.{model_of}
use Rattle.rules.proofs.Tree.Chains.{follows_frame}
use Rattle.rules.proofs.Tree.SetsOk.{SetsOk, tree_ext}
use Rattle.rules.proofs.Whole.Order.{InOrder}
use Rattle.rules.specs.Calls.{Store}
use Rattle.rules.specs.State.{SetRecord, Term, Tree, chain, children_of, tree_of, unused_set}
use Rattle.rules.specs.Storage.{real}
use Rattle.rules.specs.Terms.{with_term}
use Rattle.rules.specs.WellFormed.{term_formed}

-- the sets, one of them with another term
abbrev termed : (ℕ → SetRecord) → ℕ → Term → ℕ → SetRecord
termed sets s x = upd sets s (with_term (sets s) x)

module _ (sets : ℕ → SetRecord) (s : ℕ) (x : Term) where
  -- every other field stays
  field_kept : {A : Type 0} (g : SetRecord → A) → ((r : SetRecord) → g (with_term r x) ≡ g r) → (y : ℕ) → g (termed sets s x y) ≡ g (sets y)
  field_kept g h = upd_keeps g sets s (with_term (sets s) x) (h (sets s))

  used_kept : (y : ℕ) → (termed sets s x y).used ≡ (sets y).used
  used_kept = field_kept (λ r. r.used) (λ r. refl)

  level_kept : (y : ℕ) → (termed sets s x y).level ≡ (sets y).level
  level_kept = field_kept (λ r. r.level) (λ r. refl)

  first_kept : (y : ℕ) → (termed sets s x y).first_child ≡ (sets y).first_child
  first_kept = field_kept (λ r. r.first_child) (λ r. refl)

  next_kept : (y : ℕ) → (termed sets s x y).next_sibling ≡ (sets y).next_sibling
  next_kept = field_kept (λ r. r.next_sibling) (λ r. refl)

  chain_kept : (n k : ℕ) → chain (termed sets s x) n k ≡ chain sets n k
  unfolding chain
  chain_kept zero k = refl
  chain_kept (suc n) k = test? (ltb k 8) (λ e. rw (e, next_kept k, chain_kept n (sets k).next_sibling)) (λ e. rw e)

  children_kept : (y : ℕ) → children_of (termed sets s x) y ≡ children_of sets y
  unfolding children_of
  children_kept y = rw (used_kept y, first_kept y, chain_kept 8 (sets y).first_child)

  -- LAW: the tree stays
  pub term_tree : tree_of (termed sets s x) ≡ tree_of sets
  term_tree = tree_ext (tree_of (termed sets s x)) (tree_of sets) used_kept
      (field_kept (λ r. r.writeable) (λ r. refl)) level_kept (field_kept (λ r. r.parent) (λ r. refl)) children_kept

  -- LAW: the rules on sets
  module _ (ok : SetsOk sets) (u : (sets s).used ≡ true) (f : term_formed x ≡ true) where
    other_kept : (y : ℕ) → sets y ≡ unused_set → termed sets s x y ≡ unused_set
    other_kept y e = upd_other sets s (with_term (sets s) x) y (λ q. true≢false (sym u ∙ ap (λ z. (sets z).used) q ∙ ap (λ (r : SetRecord). r.used) e)) ∙ e

    term_here : (y : ℕ) → (sets y).used ≡ true → term_formed (termed sets s x y).term ≡ true
    term_here y h = same? s y
        (λ e. subst (λ z. term_formed (termed sets s x z).term ≡ true) e (ap (λ (r : SetRecord). term_formed r.term) (upd_same sets s (with_term (sets s) x)) ∙ f))
        (λ n. ap (λ (r : SetRecord). term_formed r.term) (upd_other sets s (with_term (sets s) x) y n) ∙ ok.terms y h)

    term_sets : SetsOk (termed sets s x)
    term_sets = record {
      root_used = used_kept 0 ∙ ok.root_used;
      root_writeable = field_kept (λ r. r.writeable) (λ r. refl) 0 ∙ ok.root_writeable;
      root_level = level_kept 0 ∙ ok.root_level;
      root_parent = field_kept (λ r. r.parent) (λ r. refl) 0 ∙ ok.root_parent;
      root_sibling = next_kept 0 ∙ ok.root_sibling;
      out = λ y l. other_kept y (ok.out y l);
      blank = λ y h. other_kept y (ok.blank y (sym (used_kept y) ∙ h));
      follows = λ y h. rw (children_kept y, first_kept y) (follows_frame sets (termed sets s x) (children_of sets y) (sets y).first_child (λ z m. next_kept z) (ok.follows y (sym (used_kept y) ∙ h)));
      deep = λ y h n. rw (level_kept y) (ok.deep y (sym (used_kept y) ∙ h) n);
      highest = λ y. rw (level_kept y) (ok.highest y);
      tree = rw term_tree ok.tree;
      terms = λ y h. term_here y (sym (used_kept y) ∙ h);
    }

-- THE STORE with another term of one set
module _ (B : ℕ) (r : Store real) (o : InOrder B r) (s : ℕ) (x : Term) (u : (r.sets s).used ≡ true) (f : term_formed x ≡ true) where
  abbrev pub with_term_of : Store real
  with_term_of = record { memory = r.memory; sets = termed r.sets s x; files = r.files }

  -- LAW: it is in order
  pub term_order : InOrder B with_term_of
  term_order =
      let b = o.kept.blocks_ok in
      let p = b.placed in
      record {
        kept = record {
          blocks = o.kept.blocks;
          blocks_ok = record {
            next = b.next;
            used = b.used;
            apart = b.apart;
            only = λ n h. let q = b.only n h in record { file = q.file; set = q.set; page = q.page; names = q.names };
            placed = record {
              file_low = p.file_low;
              page_low = p.page_low;
              present = p.present;
              lives = λ g y a. used_kept r.sets s x y ∙ p.lives g y a;
              set_low = λ y h. p.set_low y (sym (used_kept r.sets s x y) ∙ h);
            };
          };
          pages_in = o.kept.pages_in;
        };
        formed = record {
          sets_ok = term_sets r.sets s x o.formed.sets_ok u f;
          files_ok = λ g. subst (λ (t : Tree). FilesFormed t ((model_of r).files g)) (sym (term_tree r.sets s x)) (o.formed.files_ok g);
          numbers = o.formed.numbers;
        };
      }
