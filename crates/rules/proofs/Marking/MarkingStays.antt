-- A file that is marked stays marked until it is deleted, its set is removed, or the store is formatted. Assumes nothing.
use mathlib.Core.Bool.{Bool, false, not, true, true≢false}
use mathlib.Core.List.{List, ◌∷◌, []}
use mathlib.Core.Logic.{inl, inr, ◌⊎◌, ⊎_elim}
use mathlib.Core.Path.{ap, refl, subst, sym, ◌∙◌, ◌≡◌}
use Prim.Native.Nat.{ℕ, ◌≤◌}
use lib.ListN.{length}
use Rattle.base.specs.Logic.{same?}
use Rattle.base.specs.Update.{upd, upd_other, upd_same}
use Rattle.rules.proofs.Marking.MarkingCalls.{settle_marks, truncate_cases, turns_start}
use Rattle.rules.proofs.Marking.MarkingRun.{run_marks}
use Rattle.rules.proofs.Steps.Handing.{ProperTree}
use Rattle.rules.proofs.Steps.States.{live_unmarked}
use Rattle.rules.proofs.Tally.TallyWriter.{Quiet, extra_quiet, nothing_quiet}
use Rattle.rules.proofs.Whole.Accepted.{passed_create, passed_truncate, passed_write}
use Rattle.rules.specs.Numbers.{Call, create, delete, format, make, number_of, read, remove, tell_free, tell_size, truncate, write}
use Rattle.rules.specs.Plain.{Plain}
use Rattle.rules.specs.State.{State, absent, is_absent, is_marked, marked, own, set_count, virgin}
use Rattle.rules.specs.Tally.{Tally, TallyFile, TallyFiles, Turn, holds_byte, is_extra, judged, part_page, tally_call, tally_cut, tally_delete, tally_grow, tally_leaves, tally_read, tally_size, tally_told, tally_turns, tally_write, truncate_touches}

-- where a call ends the marking of file g of set y. The set that is made had an unused number, so no file of it was marked.
abbrev pub EndsMarked : Call → ℕ → ℕ → Type 0
EndsMarked format g y = Unit {0}
EndsMarked (create s f) g y = ⊥
EndsMarked (write k s f off bs) g y = ⊥
EndsMarked (read s f off buffer) g y = ⊥
EndsMarked (truncate s f n) g y = ⊥
EndsMarked (delete s f) g y = (f ≡ g) × (s ≡ y)
EndsMarked (make s c w) g y = c ≡ y
EndsMarked (remove s) g y = s ≡ y
EndsMarked (tell_size s f) g y = ⊥
EndsMarked tell_free g y = ⊥

absent_unmarked : (l : State) → is_absent l ≡ true → is_marked l ≡ false
absent_unmarked absent e = refl
absent_unmarked own e = refl
absent_unmarked virgin e = refl
absent_unmarked marked e = sym e

-- the files of one number become fs, in which who was marked is so, and then the one of set s is put
put_stays : (files : ℕ → TallyFiles) (f s : ℕ) (fs : TallyFiles) (z : TallyFile) (g y : ℕ) →
    (is_marked (files f y).state ≡ true → is_marked (fs y).state ≡ true) → is_marked (files g y).state ≡ true →
    (is_marked (upd files f (upd fs s z) g y).state ≡ true) ⊎ ((f ≡ g) × (s ≡ y))
put_stays files f s fs z g y k h =
    same? f g
    (λ e. same? s y (λ d. inr (e, d))
    (λ n. inl (subst (λ g. is_marked (files g y).state ≡ true → is_marked (upd files f (upd fs s z) g y).state ≡ true) e
    (λ h. ap (λ (w : TallyFiles). is_marked (w y).state) (upd_same files f _) ∙ ap (λ (x : TallyFile). is_marked x.state) (upd_other fs s z y n) ∙ k h) h)))
    (λ n. inl (ap (λ (w : TallyFiles). is_marked (w y).state) (upd_other files f _ g n) ∙ h))

module _ (ta : Tally) (proper : ProperTree ta.tree) (shallow : (x : ℕ) → ta.tree.level x ≤ set_count) (g y : ℕ) (h : is_marked (ta.files g y).state ≡ true) where
  change_stays : (f s taken : ℕ) (cs : List ℕ) (touches hands : ℕ → Bool) (last : Turn → Turn) → Quiet last → (z : TallyFile) (m : ℕ) →
      (is_marked ((tally_leaves ta f s taken (last (tally_turns ta f s cs taken touches hands)) z m).tally.files g y).state ≡ true) ⊎ ((f ≡ g) × (s ≡ y))
  unfolding tally_leaves tally_turns
  change_stays f s taken cs touches hands last quiet z m =
      put_stays ta.files f s _ z g y
      (λ k. ap is_marked (quiet.state (tally_turns ta f s cs taken touches hands) y) ∙ (run_marks ta.tree proper shallow s y touches hands (turns_start ta f cs taken)).1 (inl (settle_marks ta.tree cs (ta.files f) y ∙ k))) h

  -- not the file that the call changes, which is not marked
  elsewhere : {A : Type 0} (f s : ℕ) → is_marked (ta.files f s).state ≡ false → A ⊎ ((f ≡ g) × (s ≡ y)) → A ⊎ ⊥
  elsewhere f s e r = ⊎_elim inl (λ q. absurd (true≢false (sym h ∙ (λ i. is_marked (ta.files (sym q.0 i) (sym q.1 i)).state) ∙ e))) r

  abbrev stays_in : ℕ → Call → Type 0
  stays_in blocks c = (is_marked ((tally_call blocks c ta).tally.files g y).state ≡ true) ⊎ EndsMarked c g y

  write_stays : (blocks k s f off : ℕ) (bs : List ℕ) → is_marked (ta.files f s).state ≡ false → stays_in blocks (write k s f off bs)
  unfolding tally_call tally_told tally_write
  write_stays blocks k s f off [] e = inl h
  write_stays blocks k s f off (b ∷ bs) e =
      elsewhere f s e (change_stays f s _ (s ∷ ta.tree.children s) (holds_byte off (length (b ∷ bs))) (λ p. false) _ (extra_quiet ta.tree s (is_extra k off (length (b ∷ bs)))) _ 0)

  truncate_stays : (blocks s f n : ℕ) → is_marked (ta.files f s).state ≡ false → stays_in blocks (truncate s f n)
  unfolding tally_call tally_grow tally_cut
  truncate_stays blocks s f n e =
      truncate_cases (λ r. (is_marked (r.tally.files g y).state ≡ true) ⊎ ⊥) ta s f n
      (λ d. inl h)
      (λ d. elsewhere f s e (change_stays f s 0 (s ∷ ta.tree.children s) (λ p. false) (λ p. false) _ nothing_quiet _ 0))
      (λ d. elsewhere f s e (change_stays f s _ (s ∷ ta.tree.children s) (truncate_touches n (tally_size ta.tree (ta.files f) s)) (λ p. not (part_page n p)) _ nothing_quiet _ _))

  delete_stays : (blocks s f : ℕ) → stays_in blocks (delete s f)
  unfolding tally_call tally_delete
  delete_stays blocks s f = change_stays f s 0 _ _ (λ p. true) _ nothing_quiet _ _

  create_stays : (blocks s f : ℕ) → is_marked (ta.files f s).state ≡ false → stays_in blocks (create s f)
  unfolding tally_call tally_told
  create_stays blocks s f e = elsewhere f s e (put_stays ta.files f s (ta.files f) _ g y (λ k. k) h)

  put_here : (s : ℕ) (z : TallyFile) → (is_marked (upd (ta.files g) s z y).state ≡ true) ⊎ (s ≡ y)
  put_here s z = same? s y inr (λ n. inl (ap (λ (x : TallyFile). is_marked x.state) (upd_other (ta.files g) s z y n) ∙ h))

  -- AN ACCEPTED CALL: a marked file stays marked, or the call ends it
  pub stays_marked : (pl : Plain) (blocks : ℕ) (c : Call) → number_of (judged pl ta) c ≡ 0 → (is_marked ((tally_call blocks c ta).tally.files g y).state ≡ true) ⊎ EndsMarked c g y
  unfolding tally_call tally_read tally_told
  stays_marked pl blocks format z = inr tt
  stays_marked pl blocks (create s f) z = create_stays blocks s f (absent_unmarked (ta.files f s).state (passed_create (judged pl ta) s f z).gone)
  stays_marked pl blocks (write k s f off bs) z = write_stays blocks k s f off bs (live_unmarked (ta.files f s).state (passed_write (judged pl ta) k s f off bs z).alive)
  stays_marked pl blocks (read s f off buffer) z = inl h
  stays_marked pl blocks (truncate s f n) z = truncate_stays blocks s f n (live_unmarked (ta.files f s).state (passed_truncate (judged pl ta) s f n z).alive)
  stays_marked pl blocks (delete s f) z = delete_stays blocks s f
  stays_marked pl blocks (make s c w) z = put_here c _
  stays_marked pl blocks (remove s) z = put_here s _
  stays_marked pl blocks (tell_size s f) z = inl h
  stays_marked pl blocks tell_free z = inl h
