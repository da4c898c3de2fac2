-- When one child's turn of step 4 marks a file: on the tally, in document 01's words. Assumes nothing.
use mathlib.Core.Bool.{◌&&◌, Bool, false, true, ◌||◌}
use mathlib.Core.Logic.{inl, inr, ◌↔◌, ◌⊎◌, ⊎_elim}
use mathlib.Core.Path.{refl, subst, sym, ◌∙◌, ◌≡◌}
use Prim.Native.Nat.{suc, zero, ℕ, ◌≤◌}
use lib.Dec.{eqb}
use borrow.Author.Tests.{eqb-true}
use Rattle.base.specs.Logic.{and_both, and_left, and_right, or_false, or_right, test?}
use Rattle.base.specs.Update.{upd, upd_keeps}
use Rattle.rules.proofs.Steps.OneStep.{TreeOk}
use Rattle.rules.proofs.Steps.Reached.{reaches_self, some_unmapped_law, unmapped_some}
use Rattle.rules.proofs.Steps.States.{stored_is, unmapped_is}
use Rattle.rules.proofs.Tally.TallyReach.{any_some, depends_above_law, marked_reaches, one_up}
use Rattle.rules.specs.Marking.{FindsNone, MarkedDown, mark_below, mark_itself}
use Rattle.rules.specs.Reading.{dependent, depends_on, reaches}
use Rattle.rules.specs.State.{Tree, hole, is_marked, is_stored, is_unmapped, live, page_count, set_count, stored, unmapped}
use Rattle.rules.specs.Tally.{Kind, TallyFile, TallyFiles, Turn, child_page, child_turn, depends_above, kind_at, marked_with, needed_copy, reached_down, tally_kind, tally_mark}

module _ (t : Tree) (fs : TallyFiles) where
  with_down : (n c y : ℕ) → reached_down t fs n c y ≡ true → MarkedDown t fs y c
  unfolding reached_down dependent
  with_down zero c y h = mark_itself (eqb-true c y h)
  with_down (suc n) c y h =
      test? (eqb c y) (λ e. mark_itself (eqb-true c y e))
      (λ e. let g = any_some (t.children c) _ (rw e at h) in
      let a = sym (depends_above_law t fs (fs g.0)) ∙ and_left (depends_above t (fs g.0)) _ g.2 in
      let q = some_unmapped_law (fs g.0).map page_count (and_right (live (fs g.0).state) _ a) in
      mark_below g.0 q.0 g.1 (and_left _ _ a) q.1 q.2 (with_down n g.0 y (and_right (depends_above t (fs g.0)) _ g.2)))

  module _ (ok : TreeOk t) (shallow : (x : ℕ) → t.level x ≤ set_count) where
    down_reaches : (y c : ℕ) → MarkedDown t fs y c → reaches t fs c y ≡ true
    unfolding reaches dependent
    down_reaches y c (mark_itself e) = subst (λ z. depends_on t fs c (t.level z) z ≡ true) e (reaches_self t fs c (t.level c))
    down_reaches y c (mark_below d p m a l u r) =
        one_up t ok fs c d m (and_both _ _ a (unmapped_some (fs d).map p page_count l u)) (t.level y) y refl (down_reaches y d r)

    -- the test of the tally says so exactly
    pub marked_down : (c y : ℕ) → (marked_with t fs c y ≡ true) ↔ MarkedDown t fs y c
    marked_down c y = (with_down set_count c y, λ r. marked_reaches t ok fs c y (shallow y) ∙ down_reaches y c r)

-- ONE CHILD'S TURN
-- a needed copy that finds none free, as a test
unfoldable pub finds_none : Tree → ℕ → ℕ → ℕ → Turn → Bool
finds_none t s p c x = live (x.files c).state && is_unmapped ((x.files c).map p) && is_stored (kind_at t x.files s p) && eqb x.free 0

or_either : (a b : Bool) → (a || b) ≡ true → (a ≡ true) ⊎ (b ≡ true)
or_either true b h = inl refl
or_either false b h = inr h

module _ (t : Tree) (s p c : ℕ) (x : Turn) where
  pub finds_none_law : finds_none t s p c x ≡ true → FindsNone t s p c x
  unfolding finds_none
  finds_none_law h =
      let need : Bool = live (x.files c).state && is_unmapped ((x.files c).map p) in
      let kind : Bool = is_stored (kind_at t x.files s p) in
      let h₁ : (need && kind) ≡ true = and_left (need && kind) (eqb x.free 0) h in
      let h₂ : need ≡ true = and_left need kind h₁ in
      record {
        alive = and_left _ (is_unmapped ((x.files c).map p)) h₂;
        needed = unmapped_is ((x.files c).map p) (and_right (live (x.files c).state) _ h₂);
        copied = (stored_is (kind_at t x.files s p) (and_right need kind h₁)).1;
        none = eqb-true x.free 0 (and_right (need && kind) (eqb x.free 0) h);
      }

  none_found : FindsNone t s p c x → finds_none t s p c x ≡ true
  unfolding finds_none
  none_found r = rw (r.alive, r.needed, r.copied, r.none)

  -- after the turn a file is marked if it was so before, or if the turn is a needed copy that finds none free and the file is marked with the child's
  pub turn_test : (y : ℕ) → is_marked ((child_turn t s p c x).files y).state ≡ (is_marked (x.files y).state || (finds_none t s p c x && marked_with t x.files c y))
  unfolding child_turn child_page needed_copy tally_mark tally_kind finds_none
  turn_test y =
      test? (live (x.files c).state && is_unmapped ((x.files c).map p))
      (λ e. rw e (go (kind_at t x.files s p)))
      (λ e. rw e (sym (or_false _)))
    where
      same : (k : Kind) → is_marked (upd x.files c (record { state = (x.files c).state; size = (x.files c).size; map = upd (x.files c).map p k }) y).state ≡ is_marked (x.files y).state
      same k = upd_keeps (λ (z : TallyFile). is_marked z.state) x.files c _ refl y

      go : (k : Kind) → is_marked ((child_page t k p c x).files y).state ≡ (is_marked (x.files y).state || (is_stored k && eqb x.free 0 && marked_with t x.files c y))
      go unmapped = sym (or_false _)
      go hole = same hole ∙ sym (or_false _)
      go (stored b) =
          test? (eqb x.free 0)
          (λ e. rw e (test? (marked_with t x.files c y) (λ d. rw d (sym (or_right (is_marked (x.files y).state) true refl))) (λ d. rw d (sym (or_false _)))))
          (λ e. rw e (same (stored tt) ∙ sym (or_false _)))

  pub turn_marks : TreeOk t → ((z : ℕ) → t.level z ≤ set_count) → (y : ℕ) →
      (is_marked ((child_turn t s p c x).files y).state ≡ true) ↔ ((is_marked (x.files y).state ≡ true) ⊎ (FindsNone t s p c x × MarkedDown t x.files y c))
  turn_marks ok shallow y = (
    λ h. ⊎_elim inl
        (λ b. inr (finds_none_law (and_left _ (marked_with t x.files c y) b), (marked_down t x.files ok shallow c y).0 (and_right (finds_none t s p c x) _ b)))
        (or_either (is_marked (x.files y).state) _ (sym (turn_test y) ∙ h)),
    λ h. turn_test y ∙ ⊎_elim (λ a. rw a)
        (λ r. or_right (is_marked (x.files y).state) _ (and_both _ _ (none_found r.0) ((marked_down t x.files ok shallow c y).1 r.1))) h,
  )
