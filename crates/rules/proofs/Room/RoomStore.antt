-- How much room a write can take, of any store in order: what it shows before and after, as a tally and as a bitmap. Assumes nothing.
use mathlib.Core.Bool.{◌&&◌, Bool, cond, false, not, true, true≢false}
use mathlib.Core.List.{List, ◌∷◌, []}
use mathlib.Core.Logic.{inr, ◌⊎◌, ⊎_elim}
use mathlib.Core.Path.{ap, refl, subst, sym, ◌∙◌, ◌≡◌}
use Prim.Native.Nat.{◌+◌, suc, zero, ℕ, ◌≤◌}
use native.Mathlib.Omega.{arith}
use lib.ListN.{length}
use borrow.Author.Tests.{le-ltb, ne_eqb}
use Rattle.base.specs.Count.{count, count_cut, count_new_none, count_not}
use Rattle.base.specs.Logic.{same?, test?}
use Rattle.base.specs.Update.{upd_other, upd_same}
use Rattle.rules.proofs.Formed.FilesMapped.{unmap_formed}
use Rattle.rules.proofs.Room.RoomBits.{write_held, write_kept, write_new}
use Rattle.rules.proofs.Room.RoomTally.{Takes, takes_nothing, write_takes}
use Rattle.rules.proofs.Steps.States.{marked_is}
use Rattle.rules.proofs.Tally.TallyLoops.{count_most}
use Rattle.rules.proofs.Tally.TallyNumbers.{tallies_is}
use Rattle.rules.proofs.Tree.SetsOk.{proper_tree}
use Rattle.rules.proofs.Whole.Accepted.{number_given, passed_write}
use Rattle.rules.proofs.Whole.Order.{InOrder, answer_tally, no_bit, order_step, tallies_step}
use Rattle.rules.proofs.Whole.OrderMarks.{only_sets, shown_tallies}
use Rattle.rules.specs.Agreement.{tally_in}
use Rattle.rules.specs.Calls.{Result, Store, accepted, begin, blank_memory, result_of, step, tree_in, view_of, worked}
use Rattle.rules.specs.Freed.{freed_by_pages, freed_by_write, freed_given}
use Rattle.rules.specs.Numbers.{Answer, Call, View, conditions, end_over, file_absent, file_marked, lowest, no_such_file, no_such_set, not_formed, number_of, read_only, refusal, write}
use Rattle.rules.specs.Rules.{Work, extra_pages, own_need, touched, write_file}
use Rattle.rules.specs.State.{Entry, File, Files, Tree, is_marked, is_stored, largest_size, marked, page_count, stored, unmapped}
use Rattle.rules.specs.Storage.{free_blocks, real}
use Rattle.rules.specs.Tally.{Both, Tally, Turn, both_as, both_step, holds_byte, judged, tally_call, tally_leaves, tally_told, tally_write}

-- THE NUMBER 8 is not given where the own need is there
not_eight : (v : View) (g s f off : ℕ) (bs : List ℕ) → v.write_need s f off (length bs) ≤ v.free → number_of v (write g s f off bs) ≡ 8 → ⊥
unfolding number_of conditions lowest
not_eight v g s f off bs l h =
    go (not_formed v).0 (no_such_set v s).0 (no_such_file v f).0 (read_only v s).0 (file_absent v s f).0 (file_marked v s f).0 (end_over v (off + length bs)).0
    (rw (le-ltb v.free (v.write_need s f off (length bs)) l) at h)
  where
    go : (b₁ b₂ b₃ b₄ b₅ b₆ b₇ : Bool) → ◌≡◌ {A = ℕ} (cond b₁ 1 (cond b₂ 2 (cond b₃ 3 (cond b₄ 4 (cond b₅ 5 (cond b₆ 6 (cond b₇ 7 0))))))) 8 → ⊥
    go true b₂ b₃ b₄ b₅ b₆ b₇ e = omega arith
    go false true b₃ b₄ b₅ b₆ b₇ e = omega arith
    go false false true b₄ b₅ b₆ b₇ e = omega arith
    go false false false true b₅ b₆ b₇ e = omega arith
    go false false false false true b₆ b₇ e = omega arith
    go false false false false false true b₇ e = omega arith
    go false false false false false false true e = omega arith
    go false false false false false false false e = omega arith

-- WHERE A BIT FALLS: the block was held by file f of a set, at a page; that file was not marked in r, and is in r'
pub record GivenUp (f : ℕ) (r r' : Store real) (b : ℕ) : Type 0 where
  pub set : ℕ
  pub page : ℕ
  pub held : (r.files f set).map page ≡ stored b
  pub was_unmarked : is_marked (r.files f set).state ≡ false
  pub is_marked_law : is_marked (r'.files f set).state ≡ true

-- bits that become 1, and bits that become 0, of 4,096
abbrev new_bits : Store real → Store real → ℕ
new_bits r r' = count 4096 (λ b. r'.memory.bits b && not (r.memory.bits b))

-- A WRITE OF FILE f THAT GAVE a, accepted or refused, and led from r to r': k pages are touched, the touched groups have p pages, the set has c children, v blocks were freed
pub record StoreTakes (k p c v f : ℕ) (a : Answer) (r r' : Store real) : Type 0 where
  pub takes : Takes k p c v a (tally_in r) (tally_in r')
  pub new : new_bits r r' ≤ a.first + a.second
  pub balance : new_bits r r' + v ≡ a.first + a.second + new_bits r' r
  pub falls : (b : ℕ) → r.memory.bits b ≡ true → r'.memory.bits b ≡ false → GivenUp f r r' b
  pub not_full : k ≤ free_blocks r.memory → a.number ≡ 8 → ⊥

-- ones before and after
count_both : (n : ℕ) (f g : ℕ → Bool) → count n g + count n (λ x. f x && not (g x)) ≡ count n f + count n (λ x. g x && not (f x))
unfolding count
count_both zero f g = refl
count_both (suc n) f g = go (f n) (g n) (count_both n f g)
  where
    go : (a b : Bool) → count n g + count n (λ x. f x && not (g x)) ≡ count n f + count n (λ x. g x && not (f x))
        → cond b 1 0 + count n g + (cond (a && not b) 1 0 + count n (λ x. f x && not (g x))) ≡ cond a 1 0 + count n f + (cond (b && not a) 1 0 + count n (λ x. g x && not (f x)))
    go true true i = omega arith
    go true false i = omega arith
    go false true i = omega arith
    go false false i = omega arith

-- a write of no byte frees nothing
pages_none : (t : Tree) (s n off : ℕ) (x : Turn) → freed_by_pages t s (holds_byte off 0) n x ≡ 0
unfolding freed_by_pages holds_byte
pages_none t s zero off x = refl
pages_none t s (suc n) off x = rw (pages_none t s n off x)

none_freed : (ta : Tally) (s f off : ℕ) → freed_by_write ta s f off 0 ≡ 0
unfolding freed_by_write
none_freed ta s f off = pages_none ta.tree s page_count off _

-- the ones of a bitmap of 4,096 bits are the blocks that are not free
ones : (B : ℕ) → B ≤ 4096 → (st : Store real) → InOrder B st → count 4096 st.memory.bits + free_blocks st.memory ≡ B
unfolding free_blocks
ones B most st o =
    let n = count_not B st.memory.bits in
    let e = count_cut 4096 B st.memory.bits most (no_bit B st o) in
    rw o.kept.blocks (omega arith)

module _ (B : ℕ) (some : 1 ≤ B) (r : Store real) (o : InOrder B r) (g s f off : ℕ) (bs : List ℕ)
    (p : ℕ) (all : off + length bs ≤ largest_size → length (touched off (length bs)) + length (extra_pages g off (length bs)) ≤ p) where
  abbrev call : Call
  call = write g s f off bs

  abbrev after : Result real
  after = step real (blank_memory B) call r

  -- k touched pages, c children
  abbrev k : ℕ
  k = length (touched off (length bs))

  abbrev c : ℕ
  c = length ((tree_in real r).children s)

  -- the blocks that marking frees
  abbrev freed : Answer → ℕ
  freed a = freed_given a.number (tally_in r) s f off (length bs)

  -- ON THE TALLY that the store shows, accepted or refused
  tally_takes : let b : Both = both_step B call (only_sets r) (tally_in r) in Takes k p c (freed b.answer) b.answer (tally_in r) b.tally
  unfolding both_step both_as tally_call tally_told tally_write tally_leaves
  tally_takes = go (number_of (judged (only_sets r) (tally_in r)) call) refl
    where
      took : (l : List ℕ) → (off + length l ≤ largest_size → length (touched off (length l)) + length (extra_pages g off (length l)) ≤ p)
          → number_of (judged (only_sets r) (tally_in r)) (write g s f off l) ≡ 0 →
          let q = tally_call B (write g s f off l) (tally_in r) in
          Takes (length (touched off (length l))) p c (freed_given q.answer.number (tally_in r) s f off (length l)) q.answer (tally_in r) q.tally
      took [] q z = rw (none_freed (tally_in r) s f off) (takes_nothing _ p c 0 (tally_in r))
      took (x ∷ l) q z =
          let a = passed_write (judged (only_sets r) (tally_in r)) g s f off (x ∷ l) z in
          write_takes (tally_in r) (proper_tree r.sets o.formed.sets_ok) (λ y. omega (arith, o.formed.sets_ok.highest y)) g s f off (length (x ∷ l)) a.end_in a.room
          p (q a.end_in)

      go : (n : ℕ) → number_of (judged (only_sets r) (tally_in r)) call ≡ n → let b : Both = both_as n B call (only_sets r) (tally_in r) in Takes k p c (freed b.answer) b.answer (tally_in r) b.tally
      go zero z = took bs all z
      go (suc n) z = rw (ne_eqb (suc n) 0 (λ e. omega arith)) (takes_nothing k p c (suc n) (tally_in r))

  -- ON THE STORE: before and after, as it shows itself
  store_takes : Takes k p c (freed after.answer) after.answer (tally_in r) (tally_in after.store)
  store_takes =
      let h = shown_tallies r in
      let e : (both_step B call (only_sets r) (tally_in r)).tally ≡ tally_in after.store =
      tallies_is _ _ (tallies_step B some r o call (only_sets r) (tally_in r) h refl) ∙ sym (tallies_is _ _ (shown_tallies after.store)) in
      subst (λ ta. Takes k p c (freed after.answer) after.answer (tally_in r) ta) e
      (subst (λ a. Takes k p c (freed a) a (tally_in r) (both_step B call (only_sets r) (tally_in r)).tally) (sym (answer_tally B some r o call (only_sets r) (tally_in r) h refl)) tally_takes)

  -- with an own block for each touched page
  store_not_full : k ≤ free_blocks r.memory → after.answer.number ≡ 8 → ⊥
  unfolding own_need
  store_not_full l e =
      not_eight (view_of real true true r) g s f off bs (omega (arith, count_most (touched off (length bs)) (λ p. not (is_stored ((r.files f s).map p))))) (sym (number_given (blank_memory B) call r) ∙ e)

  -- no more bits become 1 than blocks are taken
  store_new : new_bits r after.store ≤ after.answer.first + after.answer.second
  unfolding step result_of accepted worked
  store_new = go (number_of (view_of real true true r) call)
    where
      none : new_bits r r ≡ 0
      none = count_new_none 4096 r.memory.bits

      took : (l : List ℕ) → let q = accepted real (blank_memory B) (write g s f off l) r in new_bits r q.store ≤ q.answer.first + q.answer.second
      took [] = omega (arith, none)
      took (x ∷ l) = write_new (tree_in real r) s r.memory.bits g off (x ∷ l) (begin real r f) (omega (arith, none))

      go : (n : ℕ) → let q = result_of real n (blank_memory B) call r in new_bits r q.store ≤ q.answer.first + q.answer.second
      go zero = took bs
      go (suc n) = omega (arith, none)

  -- a block held by file f of set x at page q stays there, or the file is marked then
  stays_held : (x q b : ℕ) → (r.files f x).map q ≡ stored b → (is_marked (after.store.files f x).state ≡ true) ⊎ ((after.store.files f x).map q ≡ stored b)
  unfolding step result_of accepted worked
  stays_held x q b h = go (number_of (view_of real true true r) call)
    where
      w : List ℕ → Work real
      w l = write_file real (tree_in real r) g s off l (begin real r f)

      here : (l : List ℕ) → (is_marked ((w l).files x).state ≡ true) ⊎ (((w l).files x).map q ≡ stored b)
      here l = same? s x
          (λ e. inr (subst (λ y. (r.files f y).map q ≡ stored b → ((w l).files y).map q ≡ stored b) e
          (λ i. (write_kept (tree_in real r) (proper_tree r.sets o.formed.sets_ok) s q b g off l (begin real r f) (i, λ z. absurd (true≢false (sym z)))).0) h))
          (λ d. write_held (tree_in real r) s x q b d g off l (begin real r f) (inr h))

      took : (l : List ℕ) → let y : File ℕ = (accepted real (blank_memory B) (write g s f off l) r).store.files f x in (is_marked y.state ≡ true) ⊎ (y.map q ≡ stored b)
      took [] = inr h
      took (z ∷ l) = subst (λ (c : Files ℕ). (is_marked (c x).state ≡ true) ⊎ ((c x).map q ≡ stored b)) (sym (upd_same r.files f (w (z ∷ l)).files)) (here (z ∷ l))

      go : (n : ℕ) → let y : File ℕ = (result_of real n (blank_memory B) call r).store.files f x in (is_marked y.state ≡ true) ⊎ (y.map q ≡ stored b)
      go zero = took bs
      go (suc n) = inr h

  -- the files of other numbers stay
  stays_other : (j : ℕ) → (f ≡ j → ⊥) → after.store.files j ≡ r.files j
  unfolding step result_of accepted worked
  stays_other j d = go (number_of (view_of real true true r) call)
    where
      took : (l : List ℕ) → (accepted real (blank_memory B) (write g s f off l) r).store.files j ≡ r.files j
      took [] = refl
      took (x ∷ l) = upd_other r.files f _ j d

      go : (n : ℕ) → (result_of real n (blank_memory B) call r).store.files j ≡ r.files j
      go zero = took bs
      go (suc n) = refl

  -- where a bit falls
  store_falls : (b : ℕ) → r.memory.bits b ≡ true → after.store.memory.bits b ≡ false → GivenUp f r after.store b
  store_falls b u z =
      let n = o.kept.blocks_ok.only b u in
      let still : (j x q : ℕ) → (after.store.files j x).map q ≡ stored b → ⊥ =
      λ j x q e. true≢false (sym ((order_step B some r o call).kept.blocks_ok.used j x q b e).bit ∙ z) in
      same? f n.file
      (λ e. let held : (r.files f n.set).map n.page ≡ stored b = ap (λ j. (r.files j n.set).map n.page) e ∙ n.names in
      record {
        set = n.set;
        page = n.page;
        held = held;
        was_unmarked = test? (is_marked (r.files f n.set).state)
            (λ m. absurd (let y = bare_file n.set (marked_is (r.files f n.set).state m) n.page in
            let d : ◌≡◌ {A = Entry ℕ} unmapped (stored b) = sym y ∙ held in let q : ◌≡◌ {A = ℕ} 0 1 = cc in omega arith))
            (λ m. m);
        is_marked_law = ⊎_elim (λ m. m) (λ k. absurd (still f n.set n.page k)) (stays_held n.set n.page b held);
      })
      (λ d. absurd (still n.file n.set n.page (ap (λ (c : Files ℕ). (c n.set).map n.page) (stays_other n.file d) ∙ n.names)))
    where
      -- a marked file names no block
      bare_file : (x : ℕ) → (r.files f x).state ≡ marked → (q : ℕ) → (r.files f x).map q ≡ unmapped
      bare_file x m q = ap (λ (y : File ℕ). y.map q) ((unmap_formed r.memory.pages (tree_in real r) (r.files f) (o.formed.files_ok f)).bare_marked x m)

  -- THE BOUNDS
  pub store_room : B ≤ 4096 → StoreTakes k p c (freed after.answer) f after.answer r after.store
  store_room most =
      let x = ones B most r o in
      let y = ones B most after.store (order_step B some r o call) in
      let n = count_both 4096 r.memory.bits after.store.memory.bits in
      let l = store_takes.left in
      record { takes = store_takes; new = store_new; balance = omega arith; falls = store_falls; not_full = store_not_full }

-- a call that takes nothing
pub store_nothing : (k p c f n : ℕ) → (n ≡ 8 → ⊥) → (r : Store real) → StoreTakes k p c 0 f (refusal n) r r
store_nothing k p c f n h r = record {
  takes = takes_nothing k p c n (tally_in r);
  new = let e = count_new_none 4096 r.memory.bits in omega arith;
  balance = omega arith;
  falls = λ b u z. absurd (true≢false (sym u ∙ z));
  not_full = λ l. h;
}
