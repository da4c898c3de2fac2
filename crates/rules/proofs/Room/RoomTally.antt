-- How many blocks a write takes on the tally: an own one for a touched page at most, and a copy for a turn at most; how many come free by marking; while a block is free
-- for every turn at a touched page, no file becomes marked. Assumes nothing.
use mathlib.Core.Bool.{◌&&◌, Bool, cond, false}
use mathlib.Core.List.{List, ◌∷◌, []}
use mathlib.Core.Path.{ap, refl, subst, ◌∙◌, ◌≡◌}
use Prim.Native.Nat.{◌*◌, ◌+◌, suc, zero, ℕ, ◌≤◌}
use native.Mathlib.Nat.{mul-le-mul_right}
use native.Mathlib.Omega.{arith}
use lib.Dec.{eqb}
use lib.ListN.{length}
use borrow.Author.Tests.{eqb-false, eqb-true, ne_eqb}
use Rattle.base.specs.Count.{count, count_here}
use Rattle.base.specs.Logic.{and_false, same?, test?}
use Rattle.rules.proofs.Blocks.Sums.{sum_zero}
use Rattle.rules.proofs.Marking.MarkingCalls.{last_marks, leaves_other, settle_marks, turns_start}
use Rattle.rules.proofs.Steps.Handing.{ProperTree}
use Rattle.rules.proofs.Tally.TallyGroups.{each_two, extra_pages_law}
use Rattle.rules.proofs.Tally.TallyLoops.{byte_pages, count_most, each_child_law, each_page_law}
use Rattle.rules.proofs.Tally.TallyNumbers.{write_need_law}
use Rattle.rules.proofs.Tally.TallyWriter.{SameStates, extra_quiet, turn_quiet}
use Rattle.rules.specs.Freed.{freed_at, freed_by_children, freed_by_pages, freed_by_write}
use Rattle.rules.specs.Numbers.{Answer, refusal}
use Rattle.rules.specs.Rules.{each, extra_pages, own_need, touched}
use Rattle.rules.specs.State.{Tree, hole, is_marked, is_stored, largest_size, page_count, set_count, stored, unmapped}
use Rattle.rules.specs.Tally.{Kind, Tally, TallyFiles, TallyResult, Turn, at_page, child_page, child_turn, each_child, each_page, extra_turn, holds_byte, is_extra, kind_at, mark_frees, marked_with, needed_copy, page_turns, tally_extra, tally_give, tally_leaves, tally_needs, tally_turns, tally_write, tally_write_need}

-- AT MOST n COPIES between x and z, so that no more than n blocks are gone; with n blocks free no state changes
record Turned (n : ℕ) (x z : Turn) : Type 0 where
  made : z.copies ≤ x.copies + n
  kept : x.free ≤ z.free + n
  spared : n ≤ x.free → SameStates x z

turned_none : (n : ℕ) (x : Turn) → Turned n x x
turned_none n x = record { made = omega arith; kept = omega arith; spared = λ l. (λ y. refl, refl) }

turned_then : (a b : ℕ) {x y z : Turn} → Turned a x y → Turned b y z → Turned (a + b) x z
turned_then a b h k =
    let h₁ = h.made in let h₂ = h.kept in let k₁ = k.made in let k₂ = k.kept in
    record {
      made = omega arith;
      kept = omega arith;
      spared = λ l. let u = h.spared (omega arith) in let v = k.spared (omega arith) in (λ w. v.0 w ∙ u.0 w, v.1 ∙ u.1);
    }

-- r BLOCKS COME FREE between x and z: free blocks and copies together grow by them; files are marked, or none comes free
record Freeing (r : ℕ) (x z : Turn) : Type 0 where
  whole : z.free + z.copies ≡ x.free + x.copies + r
  more : x.marks ≤ z.marks
  quiet : z.marks ≡ x.marks → r ≡ 0

freeing_none : (x : Turn) → Freeing 0 x x
freeing_none x = record { whole = omega arith; more = omega arith; quiet = λ e. refl }

freeing_then : (a b : ℕ) {x y z : Turn} → Freeing a x y → Freeing b y z → Freeing (a + b) x z
freeing_then a b h k =
    let h₁ = h.whole in let h₂ = h.more in let k₁ = k.whole in let k₂ = k.more in
    record {
      whole = omega arith;
      more = omega arith;
      quiet = λ e. let u = h.quiet (omega arith) in let v = k.quiet (omega arith) in omega arith;
    }

-- ONE TURN
module _ (t : Tree) (s p c : ℕ) (x : Turn) where
  page_counts : (k : Kind) → ((child_page t k p c x).copies ≤ x.copies + 1) × (x.free ≤ (child_page t k p c x).free + 1)
  unfolding child_page needed_copy
  page_counts unmapped = (omega arith, omega arith)
  page_counts hole = (omega arith, omega arith)
  page_counts (stored b) =
      test? (eqb x.free 0)
      (λ e. let z = eqb-true x.free 0 e in rw e (omega arith, omega arith))
      (λ e. let z = eqb-false x.free 0 e in rw e (omega arith, omega arith))

  -- no file marked, no block freed
  frees_none : count set_count (marked_with t x.files c) ≡ 0 → mark_frees t x.files c ≡ 0
  unfolding mark_frees
  frees_none e = sum_zero set_count _ (λ y l. test? (marked_with t x.files c y)
      (λ h. let u = count_here set_count (marked_with t x.files c) y l h in absurd (omega arith))
      (λ h. rw h))

  page_freeing : (k : Kind) → Freeing (cond (is_stored k && eqb x.free 0) (mark_frees t x.files c) 0) x (child_page t k p c x)
  unfolding child_page needed_copy
  page_freeing unmapped = freeing_none x
  page_freeing hole = record { whole = omega arith; more = omega arith; quiet = λ e. refl }
  page_freeing (stored b) =
      test? (eqb x.free 0)
      (λ e. let z = eqb-true x.free 0 e in rw e (record { whole = omega arith; more = omega arith; quiet = λ q. frees_none (omega arith) }))
      (λ e. let z = eqb-false x.free 0 e in rw e (record { whole = omega arith; more = omega arith; quiet = λ q. refl }))

  child_freeing : Freeing (freed_at t s p c x) x (child_turn t s p c x)
  unfolding child_turn freed_at
  child_freeing = test? (tally_needs x.files c p) (λ e. rw e (page_freeing (kind_at t x.files s p))) (λ e. rw e (freeing_none x))

  extra_freeing : Freeing 0 x (extra_turn t s p c x)
  unfolding extra_turn freed_at
  extra_freeing =
      test? (is_stored (kind_at t x.files s p) && eqb x.free 0)
      (λ e. rw e (freeing_none x))
      (λ e. rw e (subst (λ n. Freeing n x (child_turn t s p c x)) (none e) child_freeing))
    where
      none : (is_stored (kind_at t x.files s p) && eqb x.free 0) ≡ false → freed_at t s p c x ≡ 0
      none e = test? (tally_needs x.files c p) (λ d. rw (d, e)) (λ d. rw d)

  page_turned : (k : Kind) → Turned 1 x (child_page t k p c x)
  page_turned k = record {
    made = (page_counts k).0;
    kept = (page_counts k).1;
    spared = λ l. turn_quiet t s k p c x (rw (ne_eqb x.free 0 (λ z. omega arith)) (and_false (is_stored k)));
  }

  child_turned : Turned 1 x (child_turn t s p c x)
  unfolding child_turn
  child_turned = test? (tally_needs x.files c p) (λ e. rw e (page_turned (kind_at t x.files s p))) (λ e. rw e (turned_none 1 x))

  extra_turned : Turned 1 x (extra_turn t s p c x)
  unfolding extra_turn
  extra_turned = test? (is_stored (kind_at t x.files s p) && eqb x.free 0) (λ e. rw e (turned_none 1 x)) (λ e. rw e child_turned)

-- A LIST OF THEM: of children, of pages
each_turned : (n : ℕ) (f : ℕ → Turn → Turn) → ((c : ℕ) (x : Turn) → Turned n x (f c x)) → (cs : List ℕ) (x : Turn) → Turned (length cs * n) x (each f cs x)
unfolding each
each_turned n f h [] x = turned_none _ x
each_turned n f h (c ∷ cs) x =
    let e : n + length cs * n ≡ length (c ∷ cs) * n = omega arith in
    subst (λ m. Turned m x (each f cs (f c x))) e (turned_then n (length cs * n) (h c x) (each_turned n f h cs (f c x)))

children_turned : (f : ℕ → Turn → Turn) → ((c : ℕ) (x : Turn) → Turned 1 x (f c x)) → (cs : List ℕ) (x : Turn) → Turned (length cs) x (each_child f cs x)
children_turned f h cs x =
    let e : length cs * 1 ≡ length cs = omega arith in
    rw (each_child_law f cs x) (subst (λ m. Turned m x (each f cs x)) e (each_turned 1 f h cs x))

module _ (t : Tree) (s : ℕ) where
  children_freeing : (p : ℕ) (cs : List ℕ) (x : Turn) → Freeing (freed_by_children t s p cs x) x (each_child (child_turn t s p) cs x)
  unfolding freed_by_children each_child
  children_freeing p [] x = freeing_none x
  children_freeing p (c ∷ cs) x = freeing_then _ _ (child_freeing t s p c x) (children_freeing p cs (child_turn t s p c x))

  pages_freeing : (touches : ℕ → Bool) (n : ℕ) (x : Turn) → Freeing (freed_by_pages t s touches n x) x (each_page (at_page t s touches (λ p. false)) n x)
  unfolding freed_by_pages each_page page_turns
  pages_freeing touches zero x = freeing_none x
  pages_freeing touches (suc n) x =
      let y : Turn = each_page (at_page t s touches (λ p. false)) n x in
      freeing_then _ _ (pages_freeing touches n x)
      (test? {P = Freeing (cond (touches n) (freed_by_children t s n (t.children s) y) 0) y (at_page t s touches (λ p. false) n y)} (touches n)
      (λ e. rw e (children_freeing n (t.children s) y))
      (λ e. rw e (freeing_none y)))

  extras_freeing_at : (p : ℕ) (cs : List ℕ) (x : Turn) → Freeing 0 x (each_child (extra_turn t s p) cs x)
  unfolding each_child
  extras_freeing_at p [] x = freeing_none x
  extras_freeing_at p (c ∷ cs) x = freeing_then 0 0 (extra_freeing t s p c x) (extras_freeing_at p cs (extra_turn t s p c x))

  extras_freeing : (extras : ℕ → Bool) (n : ℕ) (x : Turn) → Freeing 0 x (each_page (λ p y. cond (extras p) (each_child (extra_turn t s p) (t.children s) y) y) n x)
  unfolding each_page
  extras_freeing extras zero x = freeing_none x
  extras_freeing extras (suc n) x =
      let y : Turn = each_page (λ p y. cond (extras p) (each_child (extra_turn t s p) (t.children s) y) y) n x in
      freeing_then 0 0 (extras_freeing extras n x)
      (test? {P = Freeing 0 y (cond (extras n) (each_child (extra_turn t s n) (t.children s) y) y)} (extras n)
      (λ e. rw e (extras_freeing_at n (t.children s) y)) (λ e. rw e (freeing_none y)))

-- A WRITE THAT GAVE a, accepted or refused, and led from ta to ta': k pages are touched, the touched groups have p pages, the set has c children, r blocks were freed
pub record Takes (k p c r : ℕ) (a : Answer) (ta ta' : Tally) : Type 0 where
  pub own : a.first ≤ k
  pub copies : a.second ≤ p * c
  pub left : ta'.free + (a.first + a.second) ≡ ta.free + r
  pub quiet : a.third ≡ 0 → r ≡ 0
  pub none_counted : k + k * c ≤ ta.free → a.third ≡ 0
  pub none_marked : k + k * c ≤ ta.free → (f s : ℕ) → is_marked (ta.files f s).state ≡ false → is_marked (ta'.files f s).state ≡ false

pub takes_nothing : (k p c n : ℕ) (ta : Tally) → Takes k p c 0 (refusal n) ta ta
takes_nothing k p c n ta = record { own = omega arith; copies = omega arith; left = omega arith; quiet = λ e. refl; none_counted = λ l. refl; none_marked = λ l f s h. h }

-- an accepted write of n bytes, n at least 1
module _ (ta : Tally) (proper : ProperTree ta.tree) (shallow : (x : ℕ) → ta.tree.level x ≤ set_count) (g s f off n : ℕ)
    (low : off + n ≤ largest_size) (room : tally_write_need (ta.files f) s off n ≤ ta.free) (p : ℕ) (all : length (touched off n) + length (extra_pages g off n) ≤ p) where
  abbrev cs : List ℕ
  cs = ta.tree.children s

  abbrev need : ℕ
  need = tally_write_need (ta.files f) s off n

  abbrev begun : Turn
  begun = turns_start ta f (s ∷ cs) need

  abbrev given : Turn
  given = tally_turns ta f s (s ∷ cs) need (holds_byte off n) (λ p. false)

  abbrev last : Turn
  last = tally_extra ta.tree s (is_extra g off n) given

  need_most : need ≤ length (touched off n)
  unfolding own_need
  need_most = rw (write_need_law (ta.files f) s off n low) (count_most (touched off n) _)

  given_turned : Turned (length (touched off n) * length cs) begun given
  unfolding tally_turns tally_give page_turns
  given_turned =
      rw (each_page_law (byte_pages off n (λ z. low)) (λ p. each_child (child_turn ta.tree s p) cs) (at_page ta.tree s (holds_byte off n) (λ p. false)) (λ p w l e. rw e) (λ p w l e. rw e) begun)
      (each_turned (length cs) _ (λ p. children_turned (child_turn ta.tree s p) (child_turned ta.tree s p) cs) (touched off n) begun)

  last_turned : Turned (length (extra_pages g off n) * length cs) given last
  unfolding tally_extra
  last_turned =
      rw (each_two (extra_pages_law g off n low) (λ p. each_child (extra_turn ta.tree s p) cs) (λ p y. cond (is_extra g off n p) (each_child (extra_turn ta.tree s p) cs y) y) (λ p w l e. rw e) (λ p w l e. rw e) given)
      (each_turned (length cs) _ (λ p. children_turned (extra_turn ta.tree s p) (extra_turned ta.tree s p) cs) (extra_pages g off n) given)

  -- the blocks that come free
  given_freeing : Freeing (freed_by_write ta s f off n) begun given
  unfolding tally_turns tally_give freed_by_write
  given_freeing = pages_freeing ta.tree s (holds_byte off n) page_count begun

  last_freeing : Freeing 0 given last
  unfolding tally_extra
  last_freeing = extras_freeing ta.tree s (is_extra g off n) page_count given

  -- what step 5 leaves in set s
  abbrev written : TallyResult
  written = tally_write g s f off n ta

  marked_here : SameStates begun last → (y : ℕ) → is_marked (ta.files f y).state ≡ false → is_marked (written.tally.files f y).state ≡ false
  unfolding tally_write
  marked_here same y h =
      last_marks ta proper shallow f s need (s ∷ cs) (holds_byte off n) (λ p. false) _ (extra_quiet ta.tree s (is_extra g off n)) _ 0 refl y h
      ∙ ap is_marked (same.0 y) ∙ settle_marks ta.tree (s ∷ cs) (ta.files f) y ∙ h

  marked_nowhere : SameStates begun last → (x y : ℕ) → is_marked (ta.files x y).state ≡ false → is_marked (written.tally.files x y).state ≡ false
  unfolding tally_write
  marked_nowhere same x y h =
      same? f x
      (λ e. subst (λ x. is_marked (ta.files x y).state ≡ false → is_marked (written.tally.files x y).state ≡ false) e (marked_here same y) h)
      (λ n. ap (λ (w : TallyFiles). is_marked (w y).state) (leaves_other ta f s need last _ 0 x n) ∙ h)

  -- with a block for each turn at a touched page no state changes
  no_state : length (touched off n) + length (touched off n) * length cs ≤ ta.free → SameStates begun last
  no_state l =
      let a = given_turned.spared (omega (arith, need_most)) in
      let b = extra_quiet ta.tree s (is_extra g off n) in
      (λ y. b.state given y ∙ a.0 y, b.marks given ∙ a.1)

  pub write_takes : Takes (length (touched off n)) p (length cs) (freed_by_write ta s f off n) written.answer ta written.tally
  unfolding tally_write tally_leaves
  write_takes =
      let a₁ = given_turned.made in let b₁ = last_turned.made in
      let a₂ = given_freeing.whole in let b₂ = last_freeing.whole in let a₃ = given_freeing.more in let b₃ = last_freeing.more in
      let most : (length (touched off n) + length (extra_pages g off n)) * length cs ≤ p * length cs = mul-le-mul_right (length cs) all in
      record {
        own = need_most;
        copies = omega arith;
        left = omega arith;
        quiet = λ e. given_freeing.quiet (omega arith);
        none_counted = λ l. (no_state l).1;
        none_marked = λ l. marked_nowhere (no_state l);
      }
