-- Making a set, the set records: the last of a chain, and the new set behind it. Assumes nothing.
use mathlib.Core.Bool.{Bool, true}
use mathlib.Core.List.{List, ◌∷◌, []}
use mathlib.Core.Path.{ap, subst, sym, ◌∙◌, ◌≡◌}
use Prim.Native.Nat.{◌+◌, ◌-◌, ◌<◌, suc, zero, ℕ, ◌≤◌}
use native.Mathlib.Numerals.{add-one}
use native.Mathlib.Omega.{arith}
use lib.Dec.{ltb}
use borrow.Author.Tests.{ltb-false, ltb-true}
use Rattle.base.specs.Logic.{test?}
use Rattle.base.specs.Update.{upd}
use Rattle.rules.proofs.Tree.Chains.{chain_more, chain_past}
use Rattle.rules.specs.Sets.{append_set, link_behind, link_last, with_first_child, with_next_sibling}
use Rattle.rules.specs.State.{SetRecord, Tables, chain, children_of, no_set, set_count}
use Rattle.rules.specs.Terms.{default_term}
use Rattle.setchanges.specs.Changes.{appended_in, child_put_in, child_record, first_child_in, last_done, last_here, last_next, last_of, next_sibling_in, with_sets}
use Rattle.tables.proofs.Operations.{turns_as, turns_more}
use Rattle.tables.specs.Packed.{unpack}
use Rattle.tables.specs.Views.{Turns, put_set_in}

-- ---- the last of a chain

module _ (sets : ℕ → SetRecord) where
  -- LAWS of the loop
  pub last_turn : (m n x next : ℕ) → m ≡ suc n → next ≡ (sets x).next_sibling → next < set_count → last_of sets m x ≡ last_of sets n next
  last_turn m n x next q e l = ap (λ k. last_of sets k x) q ∙ last_next sets n x (subst (λ k. k < set_count) e l) ∙ ap (last_of sets n) (sym e)

  pub last_stop : (m n x next : ℕ) → m ≡ suc n → next ≡ (sets x).next_sibling → set_count ≤ next → last_of sets m x ≡ x
  last_stop m n x next q e l = ap (λ k. last_of sets k x) q ∙ last_here sets n x (subst (λ k. set_count ≤ k) e l)

  pub last_end : (n x : ℕ) → n ≡ 0 → last_of sets n x ≡ x
  last_end n x e = ap (λ m. last_of sets m x) e ∙ last_done sets x

  -- behind the chain that goes on from x is behind its last
  behind_last : (c : ℕ) (after : ℕ → SetRecord) (n x : ℕ) → link_behind c x (chain sets n (sets x).next_sibling) after ≡ upd after (last_of sets n x) (with_next_sibling (after (last_of sets n x)) c)
  unfolding link_behind chain
  behind_last c after zero x = ap (λ y. upd after y (with_next_sibling (after y) c)) (sym (last_done sets x))
  behind_last c after (suc n) x =
      let next : ℕ = (sets x).next_sibling in
      let at_last : ℕ → ℕ → SetRecord = λ y. upd after y (with_next_sibling (after y) c) in
      test? (ltb next set_count)
      (λ e. let l = ltb-true next set_count e in
      let m : suc n - 1 ≡ n = omega arith in
      ap (λ (xs : List ℕ). link_behind c x xs after) (chain_more sets (suc n) next (omega arith) l ∙ ap (λ k. next ∷ chain sets k (sets next).next_sibling) m) ∙ behind_last c after n next ∙ ap at_last (sym (last_next sets n x l)))
      (λ e. let l = ltb-false next set_count e in
      ap (λ (xs : List ℕ). link_behind c x xs after) (chain_past sets (suc n) next l) ∙ ap at_last (sym (last_here sets n x l)))

  -- the children of a used set
  children_first : (s : ℕ) → (sets s).used ≡ true → (sets s).first_child < set_count → children_of sets s ≡ (sets s).first_child ∷ chain sets 7 (sets (sets s).first_child).next_sibling
  unfolding children_of
  children_first s u l = rw u (chain_more sets 8 (sets s).first_child (omega arith) l)

  children_empty : (s : ℕ) → (sets s).used ≡ true → set_count ≤ (sets s).first_child → children_of sets s ≡ []
  unfolding children_of
  children_empty s u l = rw u (chain_past sets set_count (sets s).first_child l)

-- ---- the set records of a make

module _ (s c : ℕ) (w : Bool) (tb : Tables) (used : (tb.sets s).used ≡ true) where
  abbrev before_link : ℕ → SetRecord
  before_link = upd tb.sets c (child_record s w tb.sets)

  appended_first : set_count ≤ (tb.sets s).first_child → first_child_in s c (child_put_in s c w tb) ≡ appended_in s c w tb
  unfolding first_child_in child_put_in put_set_in appended_in append_set link_last
  appended_first l = ap (λ (xs : List ℕ). with_sets (link_last c s xs before_link) tb) (sym (children_empty tb.sets s used l))

  appended_behind : (tb.sets s).first_child < set_count → next_sibling_in (last_of tb.sets 7 (tb.sets s).first_child) c (child_put_in s c w tb) ≡ appended_in s c w tb
  unfolding next_sibling_in child_put_in put_set_in appended_in append_set link_last
  appended_behind l =
      ap (λ (x : ℕ → SetRecord). with_sets x tb) (sym (behind_last tb.sets c before_link 7 (tb.sets s).first_child))
      ∙ ap (λ (xs : List ℕ). with_sets (link_last c s xs before_link) tb) (sym (children_first tb.sets s used l))

-- LAWS: what the code stores
module _ {t t' : List ℕ} where
  pub child_put : (s c level : ℕ) (w : Bool) → level ≡ ((unpack t).sets s).level
      → Turns t t' (put_set_in c (record { used = true; writeable = w; level = level + 1; parent = s; first_child = no_set; next_sibling = no_set; term = default_term }))
      → Turns t t' (child_put_in s c w)
  unfolding child_put_in
  child_put s c level w e a =
      turns_as (put_set_in c (record { used = true; writeable = w; level = level + 1; parent = s; first_child = no_set; next_sibling = no_set; term = default_term })) (child_put_in s c w) a
      (ap (λ n. put_set_in c (record { used = true; writeable = w; level = n; parent = s; first_child = no_set; next_sibling = no_set; term = default_term }) (unpack t)) (add-one level ∙ ap suc e))

  pub first_child_put : (s c : ℕ) (r : SetRecord) → r ≡ (unpack t).sets s → Turns t t' (put_set_in s (with_first_child r c)) → Turns t t' (first_child_in s c)
  unfolding first_child_in
  first_child_put s c r e a = turns_as (put_set_in s (with_first_child r c)) (first_child_in s c) a (ap (λ (x : SetRecord). put_set_in s (with_first_child x c) (unpack t)) e)

  pub next_sibling_put : (x c : ℕ) (r : SetRecord) → r ≡ (unpack t).sets x → Turns t t' (put_set_in x (with_next_sibling r c)) → Turns t t' (next_sibling_in x c)
  unfolding next_sibling_in
  next_sibling_put x c r e a = turns_as (put_set_in x (with_next_sibling r c)) (next_sibling_in x c) a (ap (λ (y : SetRecord). put_set_in x (with_next_sibling y c) (unpack t)) e)

-- LAWS: the new set is linked
module _ {t t₁ t₂ : List ℕ} (s c : ℕ) (w : Bool) (used : ((unpack t).sets s).used ≡ true) where
  pub append_first : (first : ℕ) → first ≡ ((unpack t).sets s).first_child → set_count ≤ first → Turns t t₁ (child_put_in s c w) → Turns t₁ t₂ (first_child_in s c) → Turns t t₂ (appended_in s c w)
  append_first first e l a b =
      turns_more (child_put_in s c w) (first_child_in s c) (appended_in s c w) a b (appended_first s c w (unpack t) used (subst (λ k. set_count ≤ k) e l))

  pub append_behind : (first last : ℕ) → first ≡ ((unpack t).sets s).first_child → first < set_count → last ≡ last_of (unpack t).sets 7 first
      → Turns t t₁ (child_put_in s c w) → Turns t₁ t₂ (next_sibling_in last c) → Turns t t₂ (appended_in s c w)
  append_behind first last e l q a b =
      turns_more (child_put_in s c w) (next_sibling_in last c) (appended_in s c w) a b
      (ap (λ x. next_sibling_in x c (child_put_in s c w (unpack t))) (q ∙ ap (last_of (unpack t).sets 7) e) ∙ appended_behind s c w (unpack t) used (subst (λ k. k < set_count) e l))
