-- Removing a set, the set records: every link to it leads to the sibling after it, its own record is all zero. Assumes nothing.
use mathlib.Core.Bool.{cond}
use mathlib.Core.List.{List}
use mathlib.Core.Path.{ap, fun_ext, refl, subst, sym, ◌∙◌, ◌≡◌}
use Prim.Native.Nat.{◌+◌, ◌<◌, suc, ℕ, ◌≤◌}
use native.Mathlib.Numerals.{add-one}
use native.Mathlib.Omega.{arith}
use lib.Dec.{eqb, ltb}
use borrow.Author.Tests.{eq-eqb, le-ltb, lt-ltb, ltb-false, ltb-true, ne_eqb}
use Rattle.base.specs.Logic.{same?, test?}
use Rattle.base.specs.Update.{upd, upd_is, upd_other, upd_same}
use Rattle.rules.proofs.Tree.Chains.{unlink_other}
use Rattle.rules.specs.Sets.{unlink_set, with_first_child, with_next_sibling}
use Rattle.rules.specs.State.{SetRecord, Tables, set_count, unused_set}
use Rattle.setchanges.specs.Changes.{cleared_in, past_in, removed_in, unlinked_in, with_sets}
use Rattle.tables.proofs.Operations.{turns_as, turns_more, turns_start}
use Rattle.tables.proofs.ReadParts.{set_default}
use Rattle.tables.specs.Packed.{unpack}
use Rattle.tables.specs.Views.{PackedTables, Turns, put_set_in}

-- the record of a set whose links to set c lead to set next
abbrev pub past_record : ℕ → ℕ → SetRecord → SetRecord
past_record c next r = with_next_sibling (with_first_child r (cond (eqb c r.first_child) next r.first_child)) (cond (eqb c r.next_sibling) next r.next_sibling)

-- the first n sets
unfoldable pub past_to : ℕ → ℕ → ℕ → Tables → Tables
past_to c next n tb = with_sets (λ x. cond (ltb x n) (past_record c next (tb.sets x)) (tb.sets x)) tb

module _ (c next : ℕ) (tb : Tables) where
  abbrev partly : ℕ → ℕ → SetRecord
  partly n x = cond (ltb x n) (past_record c next (tb.sets x)) (tb.sets x)

  past_none : past_to c next 0 tb ≡ tb
  unfolding past_to
  past_none = ap (λ (x : ℕ → SetRecord). with_sets x tb) (fun_ext {f = partly 0} {g = tb.sets} (λ x. rw (le-ltb x 0 (omega arith))))

  past_more : (n : ℕ) → past_in n c next (past_to c next n tb) ≡ past_to c next (suc n) tb
  unfolding past_to past_in put_set_in
  past_more n =
      let here : partly n n ≡ tb.sets n = rw (le-ltb n n (omega arith)) in
      ap (λ (x : ℕ → SetRecord). with_sets x tb)
      (sym (upd_is (partly n) (partly (suc n)) n (past_record c next (partly n n))
      (rw (lt-ltb n (suc n) (omega arith)) (ap (past_record c next) (sym here)))
      (λ x m. test? (ltb x n)
      (λ e. let l = ltb-true x n e in rw (e, lt-ltb x (suc n) (omega arith)))
      (λ e. let l = ltb-false x n e in rw (e, le-ltb x (suc n) (omega arith))))))

module _ (c : ℕ) (tb : Tables) (c0 : 0 < c) (c8 : c < set_count) (out : (s : ℕ) → set_count ≤ s → tb.sets s ≡ unused_set) where
  -- its own record
  unlink_here : unlink_set c tb.sets c ≡ unused_set
  unfolding unlink_set
  unlink_here = rw (eq-eqb c c refl)

  -- another that is not used: its links are 0, and no link to set c
  unlink_blank : past_record c (tb.sets c).next_sibling unused_set ≡ unused_set
  unlink_blank = rw (ne_eqb c 0 (λ e. omega arith))

  unlinked_sets : upd (partly c (tb.sets c).next_sibling tb set_count) c unused_set ≡ unlink_set c tb.sets
  unlinked_sets = fun_ext (λ x. same? c x
      (λ e. subst (λ y. upd (partly c (tb.sets c).next_sibling tb set_count) c unused_set y ≡ unlink_set c tb.sets y) e
      (upd_same (partly c (tb.sets c).next_sibling tb set_count) c unused_set ∙ sym unlink_here))
      (λ n. upd_other (partly c (tb.sets c).next_sibling tb set_count) c unused_set x n
      ∙ test? (ltb x set_count)
      (λ e. rw e (sym (unlink_other tb.sets c x n)))
      (λ e. let q = out x (ltb-false x set_count e) in rw e (q ∙ sym (unlink_other tb.sets c x n ∙ ap (past_record c (tb.sets c).next_sibling) q ∙ unlink_blank)))))

  past_all : put_set_in c unused_set (past_to c (tb.sets c).next_sibling set_count tb) ≡ unlinked_in c tb
  unfolding put_set_in past_to unlinked_in
  past_all = ap (λ (x : ℕ → SetRecord). with_sets x tb) unlinked_sets

-- LAW: what the code stores of one set
pub past_put : {t t' : List ℕ} (x c next child sibling : ℕ) (r : SetRecord) → r ≡ (unpack t).sets x
    → child ≡ cond (eqb c r.first_child) next r.first_child → sibling ≡ cond (eqb c r.next_sibling) next r.next_sibling
    → Turns t t' (put_set_in x (with_next_sibling (with_first_child r child) sibling)) → Turns t t' (past_in x c next)
unfolding past_in
past_put {t} x c next child sibling r e p q a =
    turns_as (put_set_in x (with_next_sibling (with_first_child r child) sibling)) (past_in x c next) a
    ((λ i. put_set_in x (with_next_sibling (with_first_child r (p i)) (q i)) (unpack t)) ∙ ap (λ (y : SetRecord). put_set_in x (past_record c next y) (unpack t)) e)

-- LAWS of the loop
module _ {t₀ : List ℕ} (c next : ℕ) where
  pub past_start : PackedTables t₀ → Turns t₀ t₀ (past_to c next 0)
  past_start h = turns_start t₀ (past_to c next 0) h (past_none c next (unpack t₀))

  pub past_turn : {t t' : List ℕ} (x : ℕ) → Turns t₀ t (past_to c next x) → Turns t t' (past_in x c next) → Turns t₀ t' (past_to c next (x + 1))
  past_turn x a b =
      turns_more (past_to c next x) (past_in x c next) (past_to c next (x + 1)) a b
      (past_more c next (unpack t₀) x ∙ ap (λ n. past_to c next n (unpack t₀)) (sym (add-one x)))

  pub past_end : {t t' : List ℕ} (x : ℕ) → x ≡ 8 → (0 < c) × (c < set_count) → next ≡ ((unpack t₀).sets c).next_sibling
      → Turns t₀ t (past_to c next x) → Turns t t' (put_set_in c unused_set) → Turns t₀ t' (unlinked_in c)
  past_end x q h e a b =
      turns_more (past_to c next x) (put_set_in c unused_set) (unlinked_in c) a b
      ((λ i. put_set_in c unused_set (past_to c (e i) (q i) (unpack t₀))) ∙ past_all c (unpack t₀) h.0 h.1 (set_default t₀))

-- LAW of the call
pub remove_turns : {t t₁ t₂ : List ℕ} (c : ℕ) → Turns t t₁ (cleared_in c) → Turns t₁ t₂ (unlinked_in c) → Turns t t₂ (removed_in c)
unfolding cleared_in unlinked_in removed_in
remove_turns c a b = turns_more (cleared_in c) (unlinked_in c) (removed_in c) a b refl
