-- The calls on terms by their cases: tables not well formed, refused, accepted; and what a setting that is accepted has passed. Assumes nothing.
use mathlib.Core.Bool.{Bool, ◌&&◌, false, true}
use mathlib.Core.List.{List, []}
use mathlib.Core.Path.{◌≡◌, ap, refl, sym, ◌∙◌}
use Prim.Native.Nat.{◌<◌, suc, zero, ℕ}
use lib.Dec.{ltb}
use lib.ListN.{length}
use borrow.Author.Tests.{lt-ltb, ltb-true, not-false}
use Rattle.base.specs.Logic.{and_false, and_left, and_right}
use Rattle.rules.proofs.Whole.Accepted.{pass}
use Rattle.rules.specs.Calls.{view_of}
use Rattle.rules.specs.Numbers.{View, lowest, no_counts, refusal}
use Rattle.rules.specs.State.{set_count}
use Rattle.rules.specs.Storage.{real}
use Rattle.rules.specs.Terms.{count_fits, date_exists, is_current, term_from}
use Rattle.tables.specs.Calls.{looked_at, store_of}
use Rattle.tables.specs.Packed.{pack, unpack, well_formed}
use Rattle.tables.specs.Terms.{TermNumbersClaim, current_conditions, current_on, put_or_refused, put_term_in, set_term_conditions, set_term_on, told_or_refused}

-- the conditions on a store that is well formed
abbrev pub term_in : List ℕ → List ℕ → ℕ → ℕ → ℕ → ℕ → ℕ → List (Bool × ℕ)
term_in t p s y m d k = set_term_conditions (view_of real true true (store_of t p)) s y m d k

abbrev pub current_in : List ℕ → List ℕ → ℕ → List (Bool × ℕ)
current_in t p s = current_conditions (view_of real true true (store_of t p)) s

-- SETTING A TERM
module _ (s y m d k : ℕ) (t p : List ℕ) where
  abbrev put : List ℕ
  put = pack (put_term_in s (term_from y m d k) (unpack t))

  pub term_unformed : well_formed t (length p) ≡ false → set_term_on s y m d k t p ≡ looked_at (refusal 1) t p []
  unfolding set_term_on set_term_conditions lowest put_or_refused
  term_unformed h = rw h

  module _ (formed : well_formed t (length p) ≡ true) where
    by_number : set_term_on s y m d k t p ≡ put_or_refused (lowest (term_in t p s y m d k)) put t p
    unfolding set_term_on set_term_conditions lowest
    by_number = rw formed

    pub term_refused : (n : ℕ) → n ≡ lowest (term_in t p s y m d k) → (n ≡ 0 → ⊥) → set_term_on s y m d k t p ≡ looked_at (refusal n) t p []
    unfolding put_or_refused
    term_refused zero e h = absurd (h refl)
    term_refused (suc n) e h = by_number ∙ ap (λ x. put_or_refused x put t p) (sym e)

    pub term_accepted : 0 ≡ lowest (term_in t p s y m d k) → set_term_on s y m d k t p ≡ looked_at no_counts put p []
    unfolding put_or_refused
    term_accepted e = by_number ∙ ap (λ x. put_or_refused x put t p) (sym e)

-- what a setting that is not refused has passed
pub record TermPassed (v : View) (s y m d k : ℕ) : Type 0 where
  pub formed : v.formed ≡ true
  pub low : s < set_count
  pub used : v.tree.used s ≡ true
  pub exists : date_exists y m d ≡ true
  pub fits : count_fits k ≡ true

pub term_passed : (v : View) (s y m d k : ℕ) → lowest (set_term_conditions v s y m d k) ≡ 0 → TermPassed v s y m d k
unfolding set_term_conditions
term_passed v s y m d k e =
    let a = pass _ 0 _ e in
    let b = pass _ 1 _ a.1 in
    let c = pass _ 13 _ b.1 in
    let f = pass _ 14 _ c.1 in
    let u = not-false (ltb s set_count && v.tree.used s) b.0 in
    record {
      formed = not-false v.formed a.0;
      low = ltb-true s set_count (and_left (ltb s set_count) (v.tree.used s) u);
      used = and_right (ltb s set_count) (v.tree.used s) u;
      exists = not-false (date_exists y m d) c.0;
      fits = not-false (count_fits k) f.0;
    }

-- THEOREM: the numbers of a setting
pub term_numbers : TermNumbersClaim
unfolding set_term_conditions lowest
term_numbers v f s y m d k = record {
  no_set = λ u. rw (f, u, and_false (ltb s set_count));
  no_date = λ l u e. rw (f, lt-ltb s set_count l, u, e);
  bad_count = λ l u e c. rw (f, lt-ltb s set_count l, u, e, c);
  accepted = λ l u e c. rw (f, lt-ltb s set_count l, u, e, c);
}

-- IS THE SET CURRENT
module _ (s day : ℕ) (t p : List ℕ) where
  pub current_unformed : well_formed t (length p) ≡ false → current_on s day t p ≡ looked_at (refusal 1) t p []
  unfolding current_conditions lowest told_or_refused
  current_unformed h = rw h

  module _ (formed : well_formed t (length p) ≡ true) where
    told_by : current_on s day t p ≡ looked_at (told_or_refused (lowest (current_in t p s)) (is_current ((unpack t).sets s).term day)) t p []
    unfolding current_conditions lowest
    told_by = rw formed

    pub current_refused : (n : ℕ) → n ≡ lowest (current_in t p s) → (n ≡ 0 → ⊥) → current_on s day t p ≡ looked_at (refusal n) t p []
    unfolding told_or_refused
    current_refused zero e h = absurd (h refl)
    current_refused (suc n) e h = told_by ∙ ap (λ x. looked_at (told_or_refused x (is_current ((unpack t).sets s).term day)) t p []) (sym e)

    pub current_told : 0 ≡ lowest (current_in t p s) → current_on s day t p ≡ looked_at (told_or_refused 0 (is_current ((unpack t).sets s).term day)) t p []
    current_told e = told_by ∙ ap (λ x. looked_at (told_or_refused x (is_current ((unpack t).sets s).term day)) t p []) (sym e)

-- a set that may be asked for
pub current_passed : (v : View) (s : ℕ) → lowest (current_conditions v s) ≡ 0 → s < set_count
unfolding current_conditions
current_passed v s e =
    let a = pass _ 0 _ e in
    let b = pass _ 1 _ a.1 in
    ltb-true s set_count (and_left (ltb s set_count) (v.tree.used s) (not-false (ltb s set_count && v.tree.used s) b.0))
