-- The third count of write, truncate and delete is the number of sets in which the file is newly marked. Assumes nothing.
use mathlib.Core.Bool.{◌&&◌, Bool, cond, false, not, true, true≢false, ◌||◌}
use mathlib.Core.List.{List, ◌∷◌, []}
use mathlib.Core.Logic.{inl}
use mathlib.Core.Path.{◌∙◌, ◌≡◌, ap, ap₂, refl, sym}
use Prim.Native.Nat.{◌+◌, suc, zero, ℕ, ◌≤◌}
use native.Mathlib.Nat.{add-zero, zero-add}
use native.Mathlib.Omega.{arith}
use lib.Dec.{eqb}
use lib.ListN.{length}
use Rattle.base.specs.Count.{count, count_new, count_new_none, count_none, count_same}
use Rattle.base.specs.Logic.{and_false, and_left, and_right, test?}
use Rattle.rules.proofs.Marking.Marking.{finds_none_law, finds_none, marked_down, turn_test}
use Rattle.rules.proofs.Marking.MarkingCalls.{last_marks, settle_marks, truncate_cases, turns_start}
use Rattle.rules.proofs.Marking.MarkingRun.{run_marks}
use Rattle.rules.proofs.Steps.Handing.{ProperTree}
use Rattle.rules.proofs.Steps.States.{live_unmarked}
use Rattle.rules.proofs.Tally.TallyWriter.{Quiet, extra_quiet, nothing_quiet, over_state, turns_inv}
use Rattle.rules.specs.Marking.{MarkedDown, mark_below, mark_itself}
use Rattle.rules.specs.Numbers.{delete, truncate, write}
use Rattle.rules.specs.State.{Tree, hole, is_marked, is_stored, is_unmapped, live, set_count, stored, unmapped}
use Rattle.rules.specs.Tally.{Kind, Tally, TallyFile, TallyFiles, Turn, child_page, child_turn, holds_byte, is_extra, kind_at, marked_with, needed_copy, part_page, taken_over, tally_call, tally_cut, tally_delete, tally_give, tally_grow, tally_leaves, tally_size, tally_told, tally_turns, tally_write, truncate_touches}

-- numbers that pass one test or another, none both
count_or : (n : ℕ) (f g : ℕ → Bool) → ((y : ℕ) → f y ≡ true → g y ≡ true → ⊥) → count n (λ y. f y || g y) ≡ count n f + count n g
unfolding count
count_or zero f g h = refl
count_or (suc n) f g h =
    let r = count_or n f g h in
    test? (f n) (λ a. test? (g n) (λ b. absurd (h n a b)) (λ b. rw (a, b) (omega arith))) (λ a. test? (g n) (λ b. rw (a, b) (omega arith)) (λ b. rw (a, b) (omega arith)))

count_if : (n : ℕ) (b : Bool) (f : ℕ → Bool) → count n (λ y. b && f y) ≡ cond b (count n f) 0
count_if n true f = refl
count_if n false f = count_none n _ (λ x l. refl)

-- who is marked with an own or virgin file is own or virgin
live_down : (t : Tree) (fs : TallyFiles) (y c : ℕ) → live (fs c).state ≡ true → MarkedDown t fs y c → live (fs y).state ≡ true
live_down t fs y c h (mark_itself e) = ap (λ z. live (fs z).state) (sym e) ∙ h
live_down t fs y c h (mark_below d p m a l u r) = live_down t fs y d a r

-- the sets below 8 whose file is marked
abbrev pub marked_sets : TallyFiles → ℕ
marked_sets fs = count set_count (λ y. is_marked (fs y).state)

-- the sets below 8 whose file is marked in gs and not in fs
abbrev pub newly_marked : TallyFiles → TallyFiles → ℕ
newly_marked fs gs = count set_count (λ y. is_marked (gs y).state && not (is_marked (fs y).state))

module _ (t : Tree) (proper : ProperTree t) (shallow : (x : ℕ) → t.level x ≤ set_count) (s : ℕ) where
  turn_adds : (p c : ℕ) (x : Turn) → (child_turn t s p c x).marks ≡ x.marks + cond (finds_none t s p c x) (count set_count (marked_with t x.files c)) 0
  unfolding child_turn child_page needed_copy finds_none
  turn_adds p c x = test? (live (x.files c).state && is_unmapped ((x.files c).map p)) (λ e. rw e (go (kind_at t x.files s p))) (λ e. rw e (sym (add-zero _)))
    where
      go : (k : Kind) → (child_page t k p c x).marks ≡ x.marks + cond (is_stored k && eqb x.free 0) (count set_count (marked_with t x.files c)) 0
      go unmapped = sym (add-zero x.marks)
      go hole = sym (add-zero x.marks)
      go (stored b) = test? (eqb x.free 0) (λ e. rw e) (λ e. rw e (sym (add-zero x.marks)))

  turn_counts : (p c : ℕ) (x : Turn) → marked_sets (child_turn t s p c x).files ≡ marked_sets x.files + cond (finds_none t s p c x) (count set_count (marked_with t x.files c)) 0
  turn_counts p c x =
      count_same set_count _ _ (λ y l. turn_test t s p c x y)
      ∙ count_or set_count (λ y. is_marked (x.files y).state) (λ y. finds_none t s p c x && marked_with t x.files c y)
      (λ y a b. true≢false (sym a ∙ live_unmarked (x.files y).state
      (live_down t x.files y c (finds_none_law t s p c x (and_left _ (marked_with t x.files c y) b)).alive
      ((marked_down t x.files proper.ok shallow c y).0 (and_right (finds_none t s p c x) _ b)))))
      ∙ ap (λ n. marked_sets x.files + n) (count_if set_count (finds_none t s p c x) (marked_with t x.files c))

  -- taking over marks nothing
  over_adds : (p c : ℕ) (z : Turn) → (taken_over t s p c z).marks ≡ z.marks
  unfolding taken_over
  over_adds p c z = refl

  over_counts : (p c : ℕ) (z : Turn) → marked_sets (taken_over t s p c z).files ≡ marked_sets z.files
  over_counts p c z = count_same set_count _ _ (λ y l. ap is_marked (over_state t s p c z y))

  run_counts : (touches hands : ℕ → Bool) (x : Turn) → (tally_give t s touches hands x).marks + marked_sets x.files ≡ x.marks + marked_sets (tally_give t s touches hands x).files
  run_counts touches hands x =
      turns_inv t proper s (λ z. z.marks + marked_sets x.files ≡ x.marks + marked_sets z.files)
      (λ p c z m i. let a = turn_adds p c z in let b = turn_counts p c z in omega arith) (λ p c z m i. let a = over_adds p c z in let b = over_counts p c z in omega arith) touches hands x refl

  -- THE RUN counts the files newly marked
  pub run_newly : (touches hands : ℕ → Bool) (x : Turn) → (tally_give t s touches hands x).marks ≡ x.marks + newly_marked x.files (tally_give t s touches hands x).files
  run_newly touches hands x =
      let a = run_counts touches hands x in
      let b = count_new set_count (λ y. is_marked (x.files y).state) (λ y. is_marked ((tally_give t s touches hands x).files y).state) (λ y h. (run_marks t proper shallow s y touches hands x).1 (inl h)) in
      omega arith

-- A CHANGING CALL
newly_none : (fs : TallyFiles) → newly_marked fs fs ≡ 0
newly_none fs = count_new_none set_count (λ y. is_marked (fs y).state)

new_same : (a b was : Bool) → (was ≡ false → a ≡ b) → (a && not was) ≡ (b && not was)
new_same a b true h = and_false a ∙ sym (and_false b)
new_same a b false h = ap (λ x. x && true) (h refl)

leaves_third : (ta : Tally) (f s taken : ℕ) (x : Turn) (z : TallyFile) (m : ℕ) → (tally_leaves ta f s taken x z m).answer.third ≡ x.marks
unfolding tally_leaves
leaves_third ta f s taken x z m = refl

module _ (ta : Tally) (proper : ProperTree ta.tree) (shallow : (x : ℕ) → ta.tree.level x ≤ set_count) where
  change_newly : (f s taken : ℕ) (cs : List ℕ) (touches hands : ℕ → Bool) (last : Turn → Turn) → Quiet last → (z : TallyFile) (m : ℕ) → is_marked z.state ≡ false →
      let r = tally_leaves ta f s taken (last (tally_turns ta f s cs taken touches hands)) z m in r.answer.third ≡ newly_marked (ta.files f) (r.tally.files f)
  unfolding tally_turns
  change_newly f s taken cs touches hands last quiet z m fine =
      let v : Turn = tally_turns ta f s cs taken touches hands in
      let x : Turn = last v in
      leaves_third ta f s taken x z m ∙ quiet.marks v ∙ run_newly ta.tree proper shallow s touches hands (turns_start ta f cs taken) ∙ zero-add _
      ∙ count_same set_count (λ y. is_marked ((tally_leaves ta f s taken x z m).tally.files f y).state && not (is_marked (ta.files f y).state))
      (λ y. is_marked (v.files y).state && not (is_marked ((turns_start ta f cs taken).files y).state))
      (λ y l. ap₂ (λ a b. is_marked a && not b) (sym (quiet.state v y)) (settle_marks ta.tree cs (ta.files f) y)
      ∙ new_same _ _ (is_marked (ta.files f y).state) (λ e. sym (last_marks ta proper shallow f s taken cs touches hands last quiet z m fine y e)))

  -- the third count of an accepted write, truncate, delete
  pub write_newly : (blocks k s f off : ℕ) (bs : List ℕ) → let r = tally_call blocks (write k s f off bs) ta in r.answer.third ≡ newly_marked (ta.files f) (r.tally.files f)
  unfolding tally_call tally_told tally_write
  write_newly blocks k s f off [] = sym (newly_none (ta.files f))
  write_newly blocks k s f off (b ∷ bs) =
      change_newly f s _ (s ∷ ta.tree.children s) (holds_byte off (length (b ∷ bs))) (λ p. false) _ (extra_quiet ta.tree s (is_extra k off (length (b ∷ bs)))) _ 0 refl

  pub truncate_newly : (blocks s f n : ℕ) → let r = tally_call blocks (truncate s f n) ta in r.answer.third ≡ newly_marked (ta.files f) (r.tally.files f)
  unfolding tally_call tally_grow tally_cut
  truncate_newly blocks s f n =
      truncate_cases (λ r. r.answer.third ≡ newly_marked (ta.files f) (r.tally.files f)) ta s f n
      (λ e. sym (newly_none (ta.files f)))
      (λ e. change_newly f s 0 (s ∷ ta.tree.children s) (λ p. false) (λ p. false) _ nothing_quiet _ 0 refl)
      (λ e. change_newly f s _ (s ∷ ta.tree.children s) (truncate_touches n (tally_size ta.tree (ta.files f) s)) (λ p. not (part_page n p)) _ nothing_quiet _ _ refl)

  pub delete_newly : (blocks s f : ℕ) → let r = tally_call blocks (delete s f) ta in r.answer.third ≡ newly_marked (ta.files f) (r.tally.files f)
  unfolding tally_call tally_delete
  delete_newly blocks s f = change_newly f s 0 _ _ (λ p. true) _ nothing_quiet _ _ refl
