-- The run of the turns of step 4: a file becomes marked in it exactly at a turn that is a needed copy which finds none free. Assumes nothing.
use mathlib.Core.Bool.{Bool, ◌&&◌, true}
use mathlib.Core.List.{◌++◌, List, ◌∷◌, []}
use mathlib.Core.Logic.{inl, inr, ◌↔◌, ◌⊎◌, ⊎_elim}
use mathlib.Core.Path.{◌∙◌, ◌≡◌, ap, refl, subst, sym}
use Prim.Native.Nat.{◌<◌, suc, zero, ℕ, ◌≤◌}
use native.Mathlib.Omega.{arith}
use Rattle.base.specs.Logic.{and_right, same?, test?}
use Rattle.rules.proofs.Marking.Marking.{turn_marks}
use Rattle.rules.proofs.Steps.Handing.{ProperTree}
use Rattle.rules.proofs.Tally.TallyHanding.{hand_late_law, hand_late}
use Rattle.rules.proofs.Tally.TallyLoops.{page_inv}
use Rattle.rules.proofs.Tally.TallyWriter.{over_state}
use Rattle.rules.specs.Marking.{FindsNone, MarkedDown, MarkingTurn, behind, in_turn, turn_before}
use Rattle.rules.specs.State.{Tree, is_marked, is_stored, page_count, set_count}
use Rattle.rules.specs.Tally.{Turn, at_page, child_turn, each_child, each_page, page_turns, tally_give, tally_needs}

-- taking over marks nothing
module _ (t : Tree) (proper : ProperTree t) (s p y : ℕ) where
  hand_mark : (cs : List ℕ) (x : Turn) → is_marked ((hand_late t s p cs x).files y).state ≡ is_marked ((each_child (child_turn t s p) (behind p x cs) x).files y).state
  unfolding hand_late behind each_child
  hand_mark [] x = refl
  hand_mark (c ∷ cs) x =
      test? (tally_needs x.files c p) (λ e. rw e (ap is_marked (over_state t s p c _ y))) (λ e. rw e (hand_mark cs x))

  page_mark : (hands : Bool) (x : Turn) → is_marked ((page_turns t s hands p x).files y).state ≡ is_marked ((each_child (child_turn t s p) (in_turn t s hands p x) x).files y).state
  unfolding page_turns in_turn
  page_mark hands x =
      test? (hands && is_stored ((x.files s).map p)) (λ e. rw (e, hand_late_law t proper s p x (and_right hands _ e)) (hand_mark (t.children s) x)) (λ e. rw e)

each_append : {W : Type 0} (f : ℕ → W → W) (cs ds : List ℕ) (w : W) → each_child f (cs ++ ds) w ≡ each_child f ds (each_child f cs w)
unfolding each_child
each_append f [] ds w = refl
each_append f (c ∷ cs) ds w = each_append f cs ds (f c w)

module _ (t : Tree) (proper : ProperTree t) (shallow : (x : ℕ) → t.level x ≤ set_count) (s y : ℕ) where
  -- who is marked stays so
  abbrev Marked : Turn → Type 0
  Marked x = is_marked (x.files y).state ≡ true

  turn_stays : (p c : ℕ) (x : Turn) → Marked x → Marked (child_turn t s p c x)
  turn_stays p c x h = (turn_marks t s p c x proper.ok shallow y).1 (inl h)

  children_stay : (p : ℕ) (cs : List ℕ) (x : Turn) → Marked x → Marked (each_child (child_turn t s p) cs x)
  unfolding each_child
  children_stay p [] x h = h
  children_stay p (c ∷ cs) x h = children_stay p cs (child_turn t s p c x) (turn_stays p c x h)

  page_stays : (touches hands : ℕ → Bool) (p : ℕ) (x : Turn) → Marked x → Marked (at_page t s touches hands p x)
  page_stays touches hands p x h = test? (touches p) (λ e. rw e (page_mark t proper s p y (hands p) x ∙ children_stay p (in_turn t s (hands p) p x) x h)) (λ e. rw e h)

  -- the turns at one page
  record AtChild (p : ℕ) (cs : List ℕ) (x : Turn) : Type 0 where
    child : ℕ
    earlier : List ℕ
    later : List ℕ
    order : cs ≡ earlier ++ (child ∷ later)
    fails : FindsNone t s p child (each_child (child_turn t s p) earlier x)
    reached : MarkedDown t (each_child (child_turn t s p) earlier x).files y child

  children_mark : (p : ℕ) (cs : List ℕ) (x : Turn) → Marked (each_child (child_turn t s p) cs x) → Marked x ⊎ AtChild p cs x
  unfolding each_child
  children_mark p [] x h = inl h
  children_mark p (c ∷ cs) x h =
      ⊎_elim
      (λ a. ⊎_elim inl (λ r. inr (record { child = c; earlier = []; later = cs; order = refl; fails = r.0; reached = r.1 })) ((turn_marks t s p c x proper.ok shallow y).0 a))
      (λ r. inr (record { child = r.child; earlier = c ∷ r.earlier; later = r.later; order = ap (λ l. c ∷ l) r.order; fails = r.fails; reached = r.reached }))
      (children_mark p cs (child_turn t s p c x) h)

  child_marks : (p : ℕ) (cs : List ℕ) (x : Turn) → AtChild p cs x → Marked (each_child (child_turn t s p) cs x)
  unfolding each_child
  child_marks p cs x r =
      rw (r.order, each_append (child_turn t s p) r.earlier (r.child ∷ r.later) x)
      (children_stay p r.later _ ((turn_marks t s p r.child (each_child (child_turn t s p) r.earlier x) proper.ok shallow y).1 (inr (r.fails, r.reached))))

  module _ (touches hands : ℕ → Bool) (x : Turn) where
    pages_mark : (n : ℕ) → n ≤ page_count → Marked (each_page (at_page t s touches hands) n x) → Marked x ⊎ MarkingTurn t s touches hands x y
    unfolding each_page turn_before each_child
    pages_mark zero l h = inl h
    pages_mark (suc n) l h =
        test? (touches n)
        (λ e. ⊎_elim (λ a. pages_mark n (omega arith) a)
        (λ r. inr (record {
          page = n;
          child = r.child;
          earlier = r.earlier;
          later = r.later;
          under = omega arith;
          touched = e;
          order = r.order;
          fails = r.fails;
          reached = r.reached;
        }))
        (children_mark n (in_turn t s (hands n) n (each_page (at_page t s touches hands) n x)) (each_page (at_page t s touches hands) n x) (sym (page_mark t proper s n y (hands n) _) ∙ (rw e at h))))
        (λ e. pages_mark n (omega arith) (rw e at h))

    page_marks : (n p : ℕ) → p < n → Marked (each_page (at_page t s touches hands) (suc p) x) → Marked (each_page (at_page t s touches hands) n x)
    unfolding each_page
    page_marks zero p l h = absurd (omega arith)
    page_marks (suc n) p l h = same? p n (λ e. subst (λ q. Marked (each_page (at_page t s touches hands) (suc q) x)) e h) (λ e. page_stays touches hands n _ (page_marks n p (omega arith) h))

    at_page_law : (r : MarkingTurn t s touches hands x y) → Marked (each_page (at_page t s touches hands) (suc r.page) x)
    unfolding each_page turn_before each_child
    at_page_law r =
        rw r.touched
        (page_mark t proper s r.page y (hands r.page) _ ∙ child_marks r.page (in_turn t s (hands r.page) r.page (each_page (at_page t s touches hands) r.page x)) (each_page (at_page t s touches hands) r.page x)
        (record { child = r.child; earlier = r.earlier; later = r.later; order = r.order; fails = r.fails; reached = r.reached }))

    -- THE RUN: marked afterwards is who was marked before, or is marked at a turn of the run
    pub run_marks : (is_marked ((tally_give t s touches hands x).files y).state ≡ true) ↔ ((is_marked (x.files y).state ≡ true) ⊎ MarkingTurn t s touches hands x y)
    unfolding tally_give turn_before
    run_marks = (
      pages_mark page_count (omega arith),
      ⊎_elim
          (λ h. page_inv (at_page t s touches hands) Marked page_count (λ p z l. page_stays touches hands p z) x h)
          (λ r. page_marks page_count r.page r.under (at_page_law r)),
    )
