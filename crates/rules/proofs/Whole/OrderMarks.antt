-- What a store in order says of marking: a call marks a file exactly for one of the reasons of `BecomesMarked`, on what the store shows before it. Assumes nothing.
use mathlib.Core.Bool.{false, true, true≢false}
use mathlib.Core.List.{◌∷◌, []}
use mathlib.Core.Logic.{◌↔◌}
use mathlib.Core.Option.{none}
use mathlib.Core.Path.{ap, refl, sym, ◌∙◌, ◌≡◌}
use Prim.Native.Nat.{suc, zero, ℕ, ◌≤◌}
use native.Mathlib.Omega.{arith}
use Rattle.rules.proofs.Marking.MarkingCalls.{becomes_marked, truncate_cases}
use Rattle.rules.proofs.Storages.CountCalls.{count_of, forget, model_of}
use Rattle.rules.proofs.Storages.MapBlocks.{map_entry}
use Rattle.rules.proofs.Tally.TallyNumbers.{Tallies}
use Rattle.rules.proofs.Tree.SetsOk.{proper_tree}
use Rattle.rules.proofs.Whole.Order.{InOrder, answer_tally, tallies_step}
use Rattle.rules.specs.Agreement.{kind_of, tally_in}
use Rattle.rules.specs.Calls.{Store, blank_memory, step, tree_in}
use Rattle.rules.specs.Marking.{BecomesMarked}
use Rattle.rules.specs.Numbers.{Answer, Call, create, delete, format, make, number_of, read, remove, tell_free, tell_size, truncate, write}
use Rattle.rules.specs.Plain.{Plain}
use Rattle.rules.specs.State.{Entry, hole, is_marked, stored, unmapped}
use Rattle.rules.specs.Storage.{PageData, real}
use Rattle.rules.specs.Tally.{Tally, TallyFiles, both_as, both_step, judged, tally_call, tally_cut, tally_delete, tally_grow, tally_leaves, tally_read, tally_told, tally_write}

-- the tally that a store shows is one of it
kind_of_law : (g : ℕ → PageData) (e : Entry ℕ) → kind_of e ≡ map_entry forget (map_entry g e)
kind_of_law g unmapped = refl
kind_of_law g hole = refl
kind_of_law g (stored b) = refl

pub shown_tallies : (r : Store real) → Tallies (count_of (model_of r)) (tally_in r)
shown_tallies r = record {
  tree = refl;
  files = λ f i s. record { state = (r.files f s).state; size = (r.files f s).size; map = λ p. kind_of_law r.memory.pages ((r.files f s).map p) i };
  free = refl;
}

-- a plain store of which only the sets are looked at
abbrev pub only_sets : Store real → Plain
only_sets r = record { tree = tree_in real r; files = λ f s. none }

-- an accepted call gives the number 0 on the tally
tally_number : (blocks : ℕ) (c : Call) (ta : Tally) → (tally_call blocks c ta).answer.number ≡ 0
unfolding tally_call tally_read tally_told tally_write tally_delete tally_leaves tally_grow tally_cut
tally_number blocks format ta = refl
tally_number blocks (create s f) ta = refl
tally_number blocks (write g s f off []) ta = refl
tally_number blocks (write g s f off (x ∷ bs)) ta = refl
tally_number blocks (read s f off buffer) ta = refl
tally_number blocks (truncate s f n) ta = truncate_cases (λ r. r.answer.number ≡ 0) ta s f n (λ e. refl) (λ e. refl) (λ e. refl)
tally_number blocks (delete s f) ta = refl
tally_number blocks (make s c w) ta = refl
tally_number blocks (remove s) ta = refl
tally_number blocks (tell_size s f) ta = refl
tally_number blocks tell_free ta = refl

module _ (B : ℕ) (least : 1 ≤ B) (r : Store real) (o : InOrder B r) where
  abbrev pl : Plain
  pl = only_sets r

  marks_as : (n : ℕ) (c : Call) (f s : ℕ) → is_marked (r.files f s).state ≡ false →
      (is_marked ((both_as n B c pl (tally_in r)).tally.files f s).state ≡ true) ↔ (((both_as n B c pl (tally_in r)).answer.number ≡ 0) × BecomesMarked (tally_in r) c f s)
  unfolding both_as
  marks_as zero c f s h =
      let k = becomes_marked (tally_in r) (proper_tree r.sets o.formed.sets_ok) (λ x. omega (arith, o.formed.sets_ok.highest x)) B f s h c in
      (λ a. (tally_number B c (tally_in r), k.0 a), λ q. k.1 q.1)
  marks_as (suc n) c f s h = (λ a. absurd (true≢false (sym a ∙ h)), λ q. absurd (let e = q.0 in omega arith))

  -- A CALL: a file that is not marked before it is marked after it exactly when it is accepted and there is one of the reasons
  pub step_marks : (c : Call) (f s : ℕ) → is_marked (r.files f s).state ≡ false →
      (is_marked ((step real (blank_memory B) c r).store.files f s).state ≡ true) ↔ (((step real (blank_memory B) c r).answer.number ≡ 0) × BecomesMarked (tally_in r) c f s)
  step_marks c f s h =
      let state : ((both_step B c pl (tally_in r)).tally.files f s).state ≡ ((step real (blank_memory B) c r).store.files f s).state =
      ap (λ (x : TallyFiles). (x s).state) ((tallies_step B least r o c pl (tally_in r) (shown_tallies r) refl).files f) in
      let answer = ap (λ (a : Answer). a.number) (answer_tally B least r o c pl (tally_in r) (shown_tallies r) refl) in
      let k : (is_marked ((both_step B c pl (tally_in r)).tally.files f s).state ≡ true) ↔ (((both_step B c pl (tally_in r)).answer.number ≡ 0) × BecomesMarked (tally_in r) c f s) =
      unfold both_step in marks_as (number_of (judged pl (tally_in r)) c) c f s h in (
        λ a. let q = k.0 (ap is_marked state ∙ a) in (answer ∙ q.0, q.1),
        λ q. sym (ap is_marked state) ∙ k.1 (sym answer ∙ q.0, q.1),
      )
