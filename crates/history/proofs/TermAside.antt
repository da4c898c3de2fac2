-- What setting a term leaves of any well-formed bytes: the set is current by the term that was set, and nothing else depends on it. Assumes nothing.
use mathlib.Core.Bool.{true}
use mathlib.Core.List.{List}
use mathlib.Core.Path.{◌≡◌, ap, refl, subst, sym, ◌∙◌}
use Prim.Native.Nat.{◌<◌, suc, zero, ℕ, ◌≤◌}
use native.Mathlib.Omega.{arith}
use lib.ListN.{length}
use borrow.Author.Tests.{lt-ltb}
use Rattle.base.specs.Update.{upd_other, upd_same}
use Rattle.history.proofs.CallImage.{gave_image}
use Rattle.history.proofs.Formed.{of_image}
use Rattle.history.proofs.Image.{image_formed, image_store, image_of}
use Rattle.history.proofs.TermSet.{new_image, new_order, new_store, set_low, set_used}
use Rattle.history.specs.Image.{Image, gave}
use Rattle.history.specs.Terms.{TermSet, TermSetClaim, term_set}
use Rattle.rules.proofs.Terms.TermSet.{term_tree}
use Rattle.rules.proofs.Whole.Order.{InOrder}
use Rattle.rules.proofs.Whole.Quiet.{gives_quiet}
use Rattle.rules.specs.Calls.{Store, view_of}
use Rattle.rules.specs.Numbers.{Answer, Call, lowest, no_counts, refusal}
use Rattle.rules.specs.State.{SetRecord, Term, set_count}
use Rattle.rules.specs.Storage.{real}
use Rattle.rules.specs.Terms.{is_current, term_from}
use Rattle.tables.proofs.TermCalls.{current_told, current_in, term_refused, term_in}
use Rattle.tables.specs.Calls.{Outcome, store_of}
use Rattle.tables.specs.Packed.{unpack, well_formed}
use Rattle.tables.specs.Terms.{current_conditions, current_on, set_term_on, told_or_refused}

-- a used set may be asked for
not_refused : (st : Store real) (s : ℕ) → s < set_count → (st.sets s).used ≡ true → 0 ≡ lowest (current_conditions (view_of real true true st) s)
unfolding current_conditions lowest
not_refused st s l u = rw (lt-ltb s set_count l, u)

-- ---- a setting that is accepted, on the image of a store in order

module _ (B : ℕ) (least : 1 ≤ B) (most : B ≤ 4096) (r : Store real) (o : InOrder B r) (s y m d k : ℕ) where
  abbrev t : List ℕ
  t = (image_of r).tables

  abbrev p : List ℕ
  p = (image_of r).pages

  accepted_number : (n : ℕ) → n ≡ lowest (term_in t p s y m d k) → (set_term_on s y m d k t p).answer ≡ no_counts → 0 ≡ lowest (term_in t p s y m d k)
  accepted_number zero e a = e
  accepted_number (suc n) e a =
      let q : refusal (suc n) ≡ no_counts = ap (λ (x : Outcome). x.answer) (sym (term_refused s y m d k t p (image_formed B most r o) (suc n) e (λ w. omega (arith, w)))) ∙ a in
      absurd (omega (arith, ap (λ (x : Answer). x.number) q))

  module _ (z : 0 ≡ lowest (term_in t p s y m d k)) where
    abbrev new : Store real
    new = new_store B most r o s y m d k z

    abbrev order : InOrder B new
    order = new_order B most r o s y m d k z

    abbrev image : term_set s y m d k (image_of r) ≡ image_of new
    image = new_image B most r o s y m d k z

    back : store_of (image_of new).tables p ≡ new
    back = image_store B most new order

    formed : well_formed (image_of new).tables (length p) ≡ true
    formed = image_formed B most new order

    term_is : (new.sets s).term ≡ term_from y m d k
    term_is = ap (λ (x : SetRecord). x.term) (upd_same r.sets s _)

    used_is : (new.sets s).used ≡ true
    used_is = ap (λ (x : SetRecord). x.used) (upd_same r.sets s _) ∙ set_used B most r o s y m d k z

    current_number : 0 ≡ lowest (current_in (image_of new).tables p s)
    current_number =
        not_refused (store_of (image_of new).tables p) s (set_low B most r o s y m d k z) (ap (λ (x : Store real). (x.sets s).used) back ∙ used_is)

    told : (day : ℕ) → (current_on s day (image_of new).tables p).answer ≡ told_or_refused 0 (is_current (term_from y m d k) day)
    told day =
        ap (λ (x : Outcome). x.answer) (current_told s day (image_of new).tables p formed current_number)
        ∙ ap (λ (x : Term). told_or_refused 0 (is_current x day)) (ap (λ (x : Store real). (x.sets s).term) back ∙ term_is)

    others : (x : ℕ) → (s ≡ x → ⊥) → (unpack (image_of new).tables).sets x ≡ (unpack t).sets x
    others x n =
        ap (λ (q : Store real). q.sets x) back ∙ upd_other r.sets s _ x n ∙ ap (λ (q : Store real). q.sets x) (sym (image_store B most r o))

    aside : (c : Call) → gave c (image_of new) ≡ gave c (image_of r)
    aside c =
        gave_image B least most new order c
        ∙ gives_quiet B least r new (term_tree r.sets s (term_from y m d k)) (λ f. refl) refl o order c
        ∙ sym (gave_image B least most r o c)

    pub set_leaves : TermSet (image_of r) s y m d k
    unfolding told_or_refused
    set_leaves = record {
      formed = subst (λ (x : Image). well_formed x.tables (length p) ≡ true) (sym image) formed;
      current = λ day. subst (λ (x : Image). (current_on s day x.tables p).answer ≡ told_or_refused 0 (is_current (term_from y m d k) day)) (sym image) (told day);
      others = λ x n. subst (λ (q : Image). (unpack q.tables).sets x ≡ (unpack t).sets x) (sym image) (others x n);
      aside = λ c. subst (λ (q : Image). gave c q ≡ gave c (image_of r)) (sym image) (aside c);
    }

-- THEOREM
pub term_set_law : TermSetClaim
term_set_law i bs f s y m d k a =
    of_image i bs f (λ (x : Image). (set_term_on s y m d k x.tables x.pages).answer ≡ no_counts → TermSet x s y m d k)
    (λ B least most r o h. set_leaves B least most r o s y m d k (accepted_number B least most r o s y m d k _ refl h)) a
