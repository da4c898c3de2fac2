-- When a file becomes marked in an accepted call: exactly at a turn of step 4 that is a needed copy which finds none free, and in a set that is made where it is marked in the parent.
-- Steps 2, 3 and 5 and the turns at extra pages mark nothing, nor does any other call. Assumes nothing.
use mathlib.Core.Bool.{Bool, cond, false, not, true, true≢false}
use mathlib.Core.List.{List, ◌∷◌, []}
use mathlib.Core.Logic.{inl, inr, ◌↔◌, ◌⊎◌, ⊎_elim}
use mathlib.Core.Path.{ap, refl, subst, sym, ◌∙◌, ◌≡◌}
use Prim.Native.Nat.{◌-◌, ◌<◌, ℕ, ◌≤◌}
use native.Mathlib.Omega.{arith}
use lib.Dec.{eqb, ltb}
use lib.ListN.{length}
use borrow.Author.Tests.{eqb-false, eqb-true, ltb-false, ltb-true}
use Rattle.base.specs.Logic.{same?, test?}
use Rattle.base.specs.Update.{upd, upd_keeps, upd_other, upd_same}
use Rattle.rules.proofs.Marking.MarkingRun.{run_marks}
use Rattle.rules.proofs.Marking.MarkingSettled.{alike_back, marking_alike, settle_alike}
use Rattle.rules.proofs.Steps.Handing.{ProperTree}
use Rattle.rules.proofs.Tally.TallyWriter.{Quiet, extra_quiet, nothing_quiet, turns_state}
use Rattle.rules.specs.Marking.{BecomesMarked, MarkingTurn, in_delete, in_make, in_truncate, in_write, own_taken}
use Rattle.rules.specs.Numbers.{Call, create, delete, format, make, read, refusal, remove, tell_free, tell_size, truncate, write}
use Rattle.rules.specs.State.{State, Tree, absent, is_marked, is_virgin, live, marked, own, set_count, virgin}
use Rattle.rules.specs.Tally.{Tally, TallyFile, TallyFiles, TallyResult, Turn, each_child, holds_byte, is_extra, part_page, tally_call, tally_child, tally_cut, tally_delete, tally_format, tally_grow, tally_leaves, tally_read, tally_settle, tally_size, tally_told, tally_truncate, tally_truncate_need, tally_turns, tally_write, tally_write_need, truncate_touches}

-- STEP 2 marks nothing
settle_mark : (t : Tree) (c : ℕ) (fs : TallyFiles) (y : ℕ) → is_marked (tally_settle t c fs y).state ≡ is_marked (fs y).state
unfolding tally_settle
settle_mark t c fs y = go (fs c).state refl
  where
    go : (l : State) → (fs c).state ≡ l → is_marked (cond (is_virgin l) (upd fs c (record { state = own; size = tally_size t fs c; map = (fs c).map })) fs y).state ≡ is_marked (fs y).state
    go absent e = refl
    go own e = refl
    go virgin e = upd_keeps (λ (x : TallyFile). is_marked x.state) fs c _ (sym (ap is_marked e)) y
    go marked e = refl

pub settle_marks : (t : Tree) (cs : List ℕ) (fs : TallyFiles) (y : ℕ) → is_marked (each_child (tally_settle t) cs fs y).state ≡ is_marked (fs y).state
unfolding each_child
settle_marks t [] fs y = refl
settle_marks t (c ∷ cs) fs y = settle_marks t cs (tally_settle t c fs) y ∙ settle_mark t c fs y

-- what the turns of step 4 begin with, after steps 2 and 3: step 3 takes blocks and leaves every file
abbrev pub turns_start : Tally → ℕ → List ℕ → ℕ → Turn
turns_start ta f cs taken = record { files = each_child (tally_settle ta.tree) cs (ta.files f); free = ta.free - taken; copies = 0; marks = 0 }

module _ (ta : Tally) (f s taken : ℕ) (x : Turn) (z : TallyFile) (m : ℕ) where
  leaves_here : (tally_leaves ta f s taken x z m).tally.files f s ≡ z
  unfolding tally_leaves
  leaves_here = ap (λ (g : TallyFiles). g s) (upd_same ta.files f _) ∙ upd_same x.files s z

  leaves_there : (y : ℕ) → (s ≡ y → ⊥) → (tally_leaves ta f s taken x z m).tally.files f y ≡ x.files y
  unfolding tally_leaves
  leaves_there y n = ap (λ (g : TallyFiles). g y) (upd_same ta.files f _) ∙ upd_other x.files s z y n

  pub leaves_other : (g : ℕ) → (f ≡ g → ⊥) → (tally_leaves ta f s taken x z m).tally.files g ≡ ta.files g
  unfolding tally_leaves
  leaves_other g n = upd_other ta.files f _ g n

-- A CHANGING CALL: steps 2 to 5, where the turns at extra pages are `last`, and z is the file that step 5 leaves in set s
module _ (ta : Tally) (proper : ProperTree ta.tree) (shallow : (x : ℕ) → ta.tree.level x ≤ set_count)
    (f s taken : ℕ) (cs : List ℕ) (touches hands : ℕ → Bool) (last : Turn → Turn) (quiet : Quiet last) (z : TallyFile) (m : ℕ) (fine : is_marked z.state ≡ false) where
  abbrev turns : Turn
  turns = last (tally_turns ta f s cs taken touches hands)

  abbrev after : TallyResult
  after = tally_leaves ta f s taken turns z m

  turns_mark : (y : ℕ) → (is_marked (turns.files y).state ≡ true) ↔ ((is_marked (ta.files f y).state ≡ true) ⊎ MarkingTurn ta.tree s touches hands (turns_start ta f cs taken) y)
  unfolding tally_turns
  turns_mark y =
      let q = ap is_marked (quiet.state (tally_turns ta f s cs taken touches hands) y) in
      let r = run_marks ta.tree proper shallow s y touches hands (turns_start ta f cs taken) in
      let e = settle_marks ta.tree cs (ta.files f) y in
      (λ h. ⊎_elim (λ a. inl (sym e ∙ a)) inr (r.0 (sym q ∙ h)), λ h. q ∙ r.1 (⊎_elim (λ a. inl (e ∙ a)) inr h))

  own_mark : is_marked (turns.files s).state ≡ is_marked (ta.files f s).state
  unfolding tally_turns
  own_mark =
      ap is_marked (quiet.state (tally_turns ta f s cs taken touches hands) s ∙ turns_state ta.tree proper s touches hands (turns_start ta f cs taken))
      ∙ settle_marks ta.tree cs (ta.files f) s

  -- STEP 5 marks nothing
  pub last_marks : (y : ℕ) → is_marked (ta.files f y).state ≡ false → is_marked (after.tally.files f y).state ≡ is_marked (turns.files y).state
  last_marks y h =
      same? s y
      (λ e. subst (λ y. is_marked (ta.files f y).state ≡ false → is_marked (after.tally.files f y).state ≡ is_marked (turns.files y).state) e
      (λ h. ap (λ (x : TallyFile). is_marked x.state) (leaves_here ta f s taken turns z m) ∙ fine ∙ sym (own_mark ∙ h)) h)
      (λ n. ap (λ (x : TallyFile). is_marked x.state) (leaves_there ta f s taken turns z m y n))

  change_marks_here : (y : ℕ) → is_marked (ta.files f y).state ≡ false → (is_marked (after.tally.files f y).state ≡ true) ↔ MarkingTurn ta.tree s touches hands (turns_start ta f cs taken) y
  change_marks_here y h =
      (λ a. ⊎_elim (λ b. absurd (true≢false (sym b ∙ h))) (λ r. r) ((turns_mark y).0 (sym (last_marks y h) ∙ a)), λ r. last_marks y h ∙ (turns_mark y).1 (inr r))

  change_marks : (g y : ℕ) → is_marked (ta.files g y).state ≡ false →
      (is_marked (after.tally.files g y).state ≡ true) ↔ ((f ≡ g) × MarkingTurn ta.tree s touches hands (turns_start ta f cs taken) y)
  change_marks g y h =
      same? f g
      (λ e. let r = change_marks_here y (ap (λ g. is_marked (ta.files g y).state) e ∙ h) in
      let q = ap (λ g. is_marked (after.tally.files g y).state) e in
      (λ a. (e, r.0 (q ∙ a)), λ b. sym q ∙ r.1 b.1))
      (λ n. (λ a. absurd (true≢false (sym a ∙ ap (λ (w : TallyFiles). is_marked (w y).state) (leaves_other ta f s taken turns z m g n) ∙ h)), λ b. absurd (n b.0)))

-- IN A SET THAT IS MADE a file is marked exactly when it is marked in the parent
child_mark : (x : TallyFile) → is_marked (tally_child x).state ≡ is_marked x.state
unfolding tally_child
child_mark x = go x.state
  where
    go : (l : State) → is_marked (cond (live l) virgin l) ≡ is_marked l
    go absent = refl
    go own = refl
    go virgin = refl
    go marked = refl

-- a truncate: to the size, above it, below it
pub truncate_cases : (P : TallyResult → Type 0) (ta : Tally) (s f n : ℕ) → let z = tally_size ta.tree (ta.files f) s in
    (n ≡ z → P (record { answer = refusal 0; tally = ta })) → (z < n → P (tally_grow s f n ta)) → (n < z → P (tally_cut s f n z ta)) → P (tally_truncate s f n ta)
unfolding tally_truncate
truncate_cases P ta s f n a b c =
    let z : ℕ = tally_size ta.tree (ta.files f) s in
    test? (eqb n z) (λ d. rw d (a (eqb-true n z d)))
    (λ d. test? (ltb z n) (λ e. rw (d, e) (b (ltb-true z n e))) (λ e. let l = ltb-false z n e in let m = eqb-false n z d in rw (d, e) (c (omega arith))))

-- why file g of set y becomes marked, by cases on the call
abbrev WhyMarked : Tally → Call → ℕ → ℕ → Type 0
WhyMarked ta format g y = ⊥
WhyMarked ta (create s f) g y = ⊥
WhyMarked ta (write k s f off bs) g y =
    (f ≡ g) × MarkingTurn ta.tree s (holds_byte off (length bs)) (λ p. false) (turns_start ta f (s ∷ ta.tree.children s) (tally_write_need (ta.files f) s off (length bs))) y
WhyMarked ta (read s f off buffer) g y = ⊥
WhyMarked ta (truncate s f n) g y =
    (n < tally_size ta.tree (ta.files f) s) × ((f ≡ g) × MarkingTurn ta.tree s (truncate_touches n (tally_size ta.tree (ta.files f) s)) (λ p. not (part_page n p))
    (turns_start ta f (s ∷ ta.tree.children s) (tally_truncate_need ta.tree (ta.files f) s n)) y)
WhyMarked ta (delete s f) g y =
    (f ≡ g) × MarkingTurn ta.tree s (λ p. live (ta.files f s).state) (λ p. true) (turns_start ta f (cond (live (ta.files f s).state) (ta.tree.children s) []) 0) y
WhyMarked ta (make s c w) g y = (c ≡ y) × (is_marked (ta.files g s).state ≡ true)
WhyMarked ta (remove s) g y = ⊥
WhyMarked ta (tell_size s f) g y = ⊥
WhyMarked ta tell_free g y = ⊥

-- step 2 makes no difference
module _ (ta : Tally) (f s : ℕ) (cs : List ℕ) (touches hands : ℕ → Bool) (need y : ℕ) where
  unsettled : MarkingTurn ta.tree s touches hands (turns_start ta f cs need) y → MarkingTurn ta.tree s touches hands (own_taken ta f need) y
  unsettled = marking_alike ta.tree s touches hands _ _ (record { files = settle_alike ta.tree cs (ta.files f); free = refl }) y

  settled : MarkingTurn ta.tree s touches hands (own_taken ta f need) y → MarkingTurn ta.tree s touches hands (turns_start ta f cs need) y
  settled = marking_alike ta.tree s touches hands _ _ (record { files = alike_back (settle_alike ta.tree cs (ta.files f)); free = refl }) y

why_means : (ta : Tally) (c : Call) (g y : ℕ) → WhyMarked ta c g y → BecomesMarked ta c g y
why_means ta format g y r = absurd r
why_means ta (create s f) g y r = absurd r
why_means ta (write k s f off bs) g y r = subst (λ g. BecomesMarked ta (write k s f off bs) g y) r.0 (in_write k s off bs refl (unsettled ta f s _ _ _ _ y r.1))
why_means ta (read s f off buffer) g y r = absurd r
why_means ta (truncate s f n) g y r = subst (λ g. BecomesMarked ta (truncate s f n) g y) r.1.0 (in_truncate s n refl r.0 (unsettled ta f s _ _ _ _ y r.1.1))
why_means ta (delete s f) g y r =
    let e : live (ta.files f s).state ≡ true = r.1.touched in
    subst (λ g. BecomesMarked ta (delete s f) g y) r.0
    (in_delete s refl e (subst (λ b. MarkingTurn ta.tree s (λ p. b) (λ p. true) (own_taken ta f 0) y) e (unsettled ta f s _ _ _ 0 y r.1)))
why_means ta (make s c w) g y r = in_make s w (ap (λ y. make s y w) r.0) r.1
why_means ta (remove s) g y r = absurd r
why_means ta (tell_size s f) g y r = absurd r
why_means ta tell_free g y r = absurd r

means_why : (ta : Tally) (c : Call) (g y : ℕ) → BecomesMarked ta c g y → WhyMarked ta c g y
means_why ta c g y (in_write k s off bs e r) = subst (λ c. WhyMarked ta c g y) (sym e) (refl, settled ta g s _ _ _ _ y r)
means_why ta c g y (in_truncate s n e l r) = subst (λ c. WhyMarked ta c g y) (sym e) (l, (refl, settled ta g s _ _ _ _ y r))
means_why ta c g y (in_delete s e h r) =
    subst (λ c. WhyMarked ta c g y) (sym e)
    (refl, settled ta g s _ _ _ 0 y (subst (λ b. MarkingTurn ta.tree s (λ p. b) (λ p. true) (own_taken ta g 0) y) (sym h) r))
means_why ta c g y (in_make s w e h) = subst (λ c. WhyMarked ta c g y) (sym e) (refl, h)

never : (b : Bool) → b ≡ false → (b ≡ true) ↔ ⊥
never b h = (λ a. true≢false (sym a ∙ h), λ r. absurd r)

-- one file put, which is not marked
put_mark : (fs : TallyFiles) (s : ℕ) (z : TallyFile) (y : ℕ) → is_marked z.state ≡ false → is_marked (fs y).state ≡ false → is_marked (upd fs s z y).state ≡ false
put_mark fs s z y a b =
    same? s y
    (λ e. ap (λ y. is_marked (upd fs s z y).state) (sym e) ∙ ap (λ (x : TallyFile). is_marked x.state) (upd_same fs s z) ∙ a)
    (λ n. ap (λ (x : TallyFile). is_marked x.state) (upd_other fs s z y n) ∙ b)

put_file_mark : (files : ℕ → TallyFiles) (f s : ℕ) (z : TallyFile) (g y : ℕ) → is_marked z.state ≡ false → is_marked (files g y).state ≡ false →
    is_marked (upd files f (upd (files f) s z) g y).state ≡ false
put_file_mark files f s z g y a b =
    same? f g
    (λ e. subst (λ g. is_marked (files g y).state ≡ false → is_marked (upd files f (upd (files f) s z) g y).state ≡ false) e
    (λ b. ap (λ (w : TallyFiles). is_marked (w y).state) (upd_same files f (upd (files f) s z)) ∙ put_mark (files f) s z y a b) b)
    (λ n. ap (λ (w : TallyFiles). is_marked (w y).state) (upd_other files f (upd (files f) s z) g n) ∙ b)

-- nothing is touched, no turn marks
no_turn : (t : Tree) (s : ℕ) (touches hands : ℕ → Bool) (x : Turn) (y : ℕ) → ((p : ℕ) → touches p ≡ false) → MarkingTurn t s touches hands x y → ⊥
no_turn t s touches hands x y h r = true≢false (sym r.touched ∙ h r.page)

module _ (ta : Tally) (proper : ProperTree ta.tree) (shallow : (x : ℕ) → ta.tree.level x ≤ set_count) (blocks g y : ℕ) (h : is_marked (ta.files g y).state ≡ false) where
  abbrev marks_in : Call → Type 0
  marks_in c = (is_marked ((tally_call blocks c ta).tally.files g y).state ≡ true) ↔ WhyMarked ta c g y

  write_marks : (k s f off : ℕ) (bs : List ℕ) → marks_in (write k s f off bs)
  unfolding tally_call tally_told tally_write holds_byte
  write_marks k s f off [] = (λ a. absurd (true≢false (sym a ∙ h)), λ r. absurd (no_turn ta.tree s _ _ _ y (λ p. refl) r.1))
  write_marks k s f off (b ∷ bs) =
      change_marks ta proper shallow f s _ (s ∷ ta.tree.children s) (holds_byte off (length (b ∷ bs))) (λ p. false)
      _ (extra_quiet ta.tree s (is_extra k off (length (b ∷ bs)))) _ 0 refl g y h

  truncate_marks : (s f n : ℕ) → marks_in (truncate s f n)
  unfolding tally_call tally_grow tally_cut
  truncate_marks s f n =
      truncate_cases (λ r. (is_marked (r.tally.files g y).state ≡ true) ↔ WhyMarked ta (truncate s f n) g y) ta s f n
      (λ e. (λ a. absurd (true≢false (sym a ∙ h)), λ b. let l = b.0 in absurd (omega arith)))
      (λ e. let r = change_marks ta proper shallow f s 0 (s ∷ ta.tree.children s) (λ p. false) (λ p. false) _ nothing_quiet _ 0 refl g y h in
      (λ a. absurd (no_turn ta.tree s _ _ _ y (λ p. refl) (r.0 a).1), λ b. let l = b.0 in absurd (omega arith)))
      (λ e. let r = change_marks ta proper shallow f s _ (s ∷ ta.tree.children s) (truncate_touches n (tally_size ta.tree (ta.files f) s)) (λ p. not (part_page n p)) _ nothing_quiet _ _ refl g y h in
      (λ a. (e, r.0 a), λ b. r.1 b.1))

  delete_marks : (s f : ℕ) → marks_in (delete s f)
  unfolding tally_call tally_delete
  delete_marks s f = change_marks ta proper shallow f s 0 _ _ (λ p. true) _ nothing_quiet _ _ refl g y h

  make_marks : (s c : ℕ) (w : Bool) → marks_in (make s c w)
  unfolding tally_call tally_told
  make_marks s c w =
      same? c y
      (λ e. let q = ap (λ y. is_marked (upd (ta.files g) c (tally_child (ta.files g s)) y).state) e in
      let k = ap (λ (x : TallyFile). is_marked x.state) (upd_same (ta.files g) c (tally_child (ta.files g s))) ∙ child_mark (ta.files g s) in
      (λ a. (e, sym k ∙ q ∙ a), λ r. sym q ∙ k ∙ r.1))
      (λ n. (λ a. absurd (true≢false (sym a ∙ ap (λ (x : TallyFile). is_marked x.state) (upd_other (ta.files g) c _ y n) ∙ h)), λ r. absurd (n r.0)))

  remove_marks : (s : ℕ) → marks_in (remove s)
  unfolding tally_call tally_told
  remove_marks s = never _ (put_mark (ta.files g) s _ y refl h)

  create_marks : (s f : ℕ) → marks_in (create s f)
  unfolding tally_call tally_told
  create_marks s f = never _ (put_file_mark ta.files f s _ g y refl h)

  why_marked : (c : Call) → (is_marked ((tally_call blocks c ta).tally.files g y).state ≡ true) ↔ WhyMarked ta c g y
  unfolding tally_call tally_read tally_told tally_format
  why_marked format = never _ refl
  why_marked (create s f) = create_marks s f
  why_marked (write k s f off bs) = write_marks k s f off bs
  why_marked (read s f off buffer) = never _ h
  why_marked (truncate s f n) = truncate_marks s f n
  why_marked (delete s f) = delete_marks s f
  why_marked (make s c w) = make_marks s c w
  why_marked (remove s) = remove_marks s
  why_marked (tell_size s f) = never _ h
  why_marked tell_free = never _ h

  -- AN ACCEPTED CALL: a file that is not marked is marked afterwards exactly for one of these reasons
  pub becomes_marked : (c : Call) → (is_marked ((tally_call blocks c ta).tally.files g y).state ≡ true) ↔ BecomesMarked ta c g y
  becomes_marked c = (λ a. why_means ta c g y ((why_marked c).0 a), λ r. (why_marked c).1 (means_why ta c g y r))
