-- What all of step 4 keeps; and the writer's own file over `counting`: step 4 leaves its state as it is, turns at extra pages change no state and mark nothing, step 5 makes pages stored, pages dropped become holes and their blocks are free again. Assumes nothing.
use mathlib.Core.Bool.{◌&&◌, Bool, cond, false}
use mathlib.Core.List.{List, Memᴰ, ◌∷◌, []}
use mathlib.Core.Path.{ap, refl, subst, sym, ◌∙◌, ◌≡◌}
use Prim.Native.Nat.{◌+◌, ℕ}
use native.Mathlib.Nat.{add-zero}
use native.Mathlib.Omega.{arith}
use lib.Dec.{eqb}
use Rattle.base.specs.Logic.{and_right, test?}
use Rattle.base.specs.Update.{upd, upd_keeps, upd_same, upd_self, upd_upd}
use Rattle.rules.proofs.Steps.Handing.{ProperTree}
use Rattle.rules.proofs.Steps.OneStep.{put_entry_page}
use Rattle.rules.proofs.Steps.StepFour.{each_inv}
use Rattle.rules.proofs.Steps.WriterSteps.{NoDup}
use Rattle.rules.proofs.Storages.Model.{counting}
use Rattle.rules.proofs.Tally.TallyFreed.{free_one}
use Rattle.rules.proofs.Tally.TallyHanding.{hand_late_law, hand_late, turn_self}
use Rattle.rules.proofs.Tally.TallyLoops.{count_same_in, each_child_law, page_inv}
use Rattle.rules.specs.Rules.{Work, count_in, drop_page, each, enter, enter_as, put_entry, with_files}
use Rattle.rules.specs.State.{Tree, hole, is_stored, page_count, stored, unmapped}
use Rattle.rules.specs.Tally.{Kind, TallyFile, TallyFiles, child_page, child_turn, each_child, extra_turn, kind_at, needed_copy, page_turns, taken_over, tally_extra, tally_give, tally_kind, tally_needs, Turn}

-- WHAT EVERY TURN OF STEP 4 KEEPS, and every taking over, all of step 4 keeps
module _ (t : Tree) (proper : ProperTree t) (s : ℕ) (I : Turn → Type 0)
    (turn : (p c : ℕ) (x : Turn) → Memᴰ c (t.children s) → I x → I (child_turn t s p c x)) (over : (p c : ℕ) (x : Turn) → Memᴰ c (t.children s) → I x → I (taken_over t s p c x)) where
  -- some of the children, at page p
  some_inv : (p : ℕ) (cs : List ℕ) → ((c : ℕ) → Memᴰ c cs → Memᴰ c (t.children s)) → (x : Turn) → I x → I (each_child (child_turn t s p) cs x)
  some_inv p cs kids x i = rw (each_child_law (child_turn t s p) cs x) (each_inv (child_turn t s p) I cs (λ c z m. turn p c z (kids c m)) x i)

  -- the same at a page handed over, in the order of the store
  late_inv : (p : ℕ) (cs : List ℕ) → ((c : ℕ) → Memᴰ c cs → Memᴰ c (t.children s)) → (x : Turn) → I x → I (hand_late t s p cs x)
  unfolding hand_late
  late_inv p [] kids x i = i
  late_inv p (c ∷ cs) kids x i =
      test? (tally_needs x.files c p)
      (λ e. rw e (over p c _ (kids c (Memᴰ.head refl)) (some_inv p cs (λ d m. kids d (Memᴰ.tail m)) x i)))
      (λ e. rw e (late_inv p cs (λ d m. kids d (Memᴰ.tail m)) x i))

  -- all children, at page p
  page_turns_inv : (hands : Bool) (p : ℕ) (x : Turn) → I x → I (page_turns t s hands p x)
  unfolding page_turns
  page_turns_inv hands p x i =
      test? (hands && is_stored ((x.files s).map p))
      (λ e. rw (e, hand_late_law t proper s p x (and_right hands _ e)) (late_inv p (t.children s) (λ c m. m) x i))
      (λ e. rw e (some_inv p (t.children s) (λ c m. m) x i))

  -- all pages
  pub turns_inv : (touches hands : ℕ → Bool) (x : Turn) → I x → I (tally_give t s touches hands x)
  unfolding tally_give
  turns_inv touches hands x i = page_inv _ I page_count (λ p y l j. test? (touches p) (λ e. rw e (page_turns_inv (hands p) p y j)) (λ e. rw e j)) x i

-- taking over changes no state
pub over_state : (t : Tree) (s p c : ℕ) (x : Turn) (y : ℕ) → ((taken_over t s p c x).files y).state ≡ (x.files y).state
unfolding taken_over tally_kind
over_state t s p c x y = upd_keeps (λ (z : TallyFile). z.state) (upd x.files c _) s _ refl y ∙ upd_keeps (λ (z : TallyFile). z.state) x.files c _ refl y

-- the state of the writer's file stays
pub turns_state : (t : Tree) → ProperTree t → (s : ℕ) (touches hands : ℕ → Bool) (x : Turn) → ((tally_give t s touches hands x).files s).state ≡ (x.files s).state
turns_state t proper s touches hands x =
    turns_inv t proper s (λ y. (y.files s).state ≡ (x.files s).state)
    (λ p c y m i. ap (λ (z : TallyFile). z.state) (turn_self t proper.ok s p c y m) ∙ i) (λ p c y m i. over_state t s p c y s ∙ i) touches hands x refl

-- what changes no state of a file and marks nothing
pub record Quiet (g : Turn → Turn) : Type 0 where
  pub state : (x : Turn) (y : ℕ) → ((g x).files y).state ≡ (x.files y).state
  pub marks : (x : Turn) → (g x).marks ≡ x.marks

pub nothing_quiet : Quiet (λ x. x)
nothing_quiet = record { state = λ x y. refl; marks = λ x. refl }

-- no state of a file changes between x and z, and nothing is marked
abbrev pub SameStates : Turn → Turn → Type 0
SameStates x z = ((y : ℕ) → (z.files y).state ≡ (x.files y).state) × (z.marks ≡ x.marks)

-- THE TURNS AT EXTRA PAGES are such
module _ (t : Tree) (s : ℕ) where
  -- with a block free, or at a hole
  pub turn_quiet : (k : Kind) (p c : ℕ) (x : Turn) → (is_stored k && eqb x.free 0) ≡ false → SameStates x (child_page t k p c x)
  unfolding child_page needed_copy tally_kind
  turn_quiet unmapped p c x h = (λ y. refl, refl)
  turn_quiet hole p c x h = (λ y. upd_keeps (λ (z : TallyFile). z.state) x.files c _ refl y, refl)
  turn_quiet (stored b) p c x h = rw h (λ y. upd_keeps (λ (z : TallyFile). z.state) x.files c _ refl y, refl)

  extra_turn_law : (p c : ℕ) (x : Turn) → SameStates x (extra_turn t s p c x)
  unfolding extra_turn child_turn
  extra_turn_law p c x =
      test? (is_stored (kind_at t x.files s p) && eqb x.free 0)
      (λ e. rw e (λ y. refl, refl))
      (λ e. rw e (test? (tally_needs x.files c p) (λ d. rw d (turn_quiet (kind_at t x.files s p) p c x e)) (λ d. rw d (λ y. refl, refl))))

  extra_turns : (extras : ℕ → Bool) (x : Turn) → SameStates x (tally_extra t s extras x)
  unfolding tally_extra
  extra_turns extras x =
      page_inv _ (SameStates x) _
      (λ p y l j. test? (extras p)
      (λ e. rw (e, each_child_law (extra_turn t s p) (t.children s) y)
      (each_inv (extra_turn t s p) (SameStates x) (t.children s) (λ c z m i. let k = extra_turn_law p c z in (λ y. k.0 y ∙ i.0 y, k.1 ∙ i.1)) y j))
      (λ e. rw e j)) x (λ y. refl, refl)

  pub extra_quiet : (extras : ℕ → Bool) → Quiet (tally_extra t s extras)
  extra_quiet extras = record { state = λ x. (extra_turns extras x).0; marks = λ x. (extra_turns extras x).1 }

-- n blocks are free again, and the files are fs
abbrev pub with_released : Work counting → ℕ → TallyFiles → Work counting
with_released w n fs = record { memory = w.memory + n; files = fs; pending = w.pending; taken = w.taken; copies = w.copies; marks = w.marks }

released_again : (w : Work counting) (a b : ℕ) (fs gs : TallyFiles) → with_released (with_released w a fs) b gs ≡ with_released w (a + b) gs
released_again w a b fs gs =
    let e : w.memory + a + b ≡ w.memory + (a + b) = omega arith in
    λ i. record { memory = e i; files = gs; pending = w.pending; taken = w.taken; copies = w.copies; marks = w.marks }

module _ (t : Tree) (s : ℕ) where
  -- STEP 5: pending blocks enter the map
  module _ (lay : ℕ → Unit {0} → Unit {0}) where
    enter_one : (p : ℕ) (w : Work counting) → w.pending p ≡ stored tt → enter counting t s lay p w ≡ with_files counting t w (put_entry w.files s p (stored tt))
    unfolding enter enter_as
    enter_one p w h = rw h

    pub enter_stored : (rs : List ℕ) (w : Work counting) → ((p : ℕ) → Memᴰ p rs → w.pending p ≡ stored tt) →
        each (enter counting t s lay) rs w ≡ with_files counting t w (each (λ p g. put_entry g s p (stored tt)) rs w.files)
    unfolding each
    enter_stored [] w h = refl
    enter_stored (p ∷ rs) w h = rw (enter_one p w (h p (Memᴰ.head refl))) (enter_stored rs (with_files counting t w _) (λ q m. h q (Memᴰ.tail m)))

  -- pages dropped
  drop_one : (p : ℕ) (w : Work counting) → drop_page counting t s p w ≡ with_released w (cond (is_stored ((w.files s).map p)) 1 0) (put_entry w.files s p hole)
  unfolding drop_page
  drop_one p w = rw (free_one ((w.files s).map p) w.memory)

  pub drop_all : (ds : List ℕ) → NoDup ds → (w : Work counting) →
      each (drop_page counting t s) ds w ≡ with_released w (count_in ds (λ p. is_stored ((w.files s).map p))) (each (λ p g. put_entry g s p hole) ds w.files)
  unfolding each count_in
  drop_all [] d w = λ i. record { memory = sym (add-zero w.memory) i; files = w.files; pending = w.pending; taken = w.taken; copies = w.copies; marks = w.marks }
  drop_all (p ∷ ds) d w =
      let fs : TallyFiles = put_entry w.files s p hole in
      let same : count_in ds (λ q. is_stored ((fs s).map q)) ≡ count_in ds (λ q. is_stored ((w.files s).map q)) =
      count_same_in ds _ _ (λ q m. ap is_stored (put_entry_page w.files s p hole s q (λ e. d.0 (subst (λ y. Memᴰ y ds) (sym e) m)))) in
      rw (drop_one p w) (drop_all ds d.1 (with_released w _ fs) ∙ rw same (released_again w _ _ fs _))

-- entries put into one file, one after the other
pub put_all : (s : ℕ) (e : Kind) (ps : List ℕ) (fs : TallyFiles) → each (λ p g. put_entry g s p e) ps fs ≡
    upd fs s (record { state = (fs s).state; size = (fs s).size; map = each (λ p m. upd m p e) ps (fs s).map })
unfolding each put_entry
put_all s e [] fs = sym (upd_self fs s)
put_all s e (p ∷ ps) fs = put_all s e ps (put_entry fs s p e) ∙ rw (upd_same fs s (record { state = (fs s).state; size = (fs s).size; map = upd (fs s).map p e })) (upd_upd fs s _ _)
