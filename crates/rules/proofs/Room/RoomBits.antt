-- WHAT A WRITE DOES TO THE BITMAP, step by step: no more bits become 1 than blocks are taken; and a file that is not marked keeps the blocks that it holds. Assumes nothing.
use mathlib.Core.Bool.{◌&&◌, Bool, cond, false, not, true, true≢false}
use mathlib.Core.List.{List, Memᴰ, ◌∷◌, []}
use mathlib.Core.Logic.{inl, inr, ◌⊎◌, ⊎_elim}
use mathlib.Core.Path.{◌≡◌, ap, refl, subst, sym, ◌∙◌}
use Prim.Native.Nat.{◌+◌, suc, zero, ℕ, ◌≤◌}
use native.Mathlib.Omega.{arith}
use lib.Dec.{eqb}
use lib.ListN.{length}
use Rattle.base.specs.Count.{count, count_fewer, count_same}
use Rattle.base.specs.Logic.{and_both, and_left, and_right, same?, test?}
use Rattle.base.specs.Update.{upd, upd_other, upd_same}
use Rattle.rules.proofs.Steps.Handing.{ProperTree, give_parent}
use Rattle.rules.proofs.Steps.OneStep.{put_entry_ent, put_entry_other, put_entry_page, put_entry_state}
use Rattle.rules.proofs.Steps.Pending.{give_one_pending}
use Rattle.rules.proofs.Steps.Reached.{marked_by}
use Rattle.rules.proofs.Steps.StepFour.{each_inv, needs_unmapped}
use Rattle.rules.proofs.Storages.Sim.{settle_ent}
use Rattle.rules.specs.Reading.{needs, reaches, resolve}
use Rattle.rules.specs.Rules.{Giving, Work, change, copied, copy, drop_page, each, enter, enter_as, extra, extra_pages, free_entry, free_map, free_sets, from, give, give_all, give_page, handed, mark, mark_down, page_of, put_entry, reserve, reserve_as, resize, settle, settle_as, settle_file, supply, take_own, touched, write_file}
use Rattle.rules.specs.State.{Entry, File, Files, State, Tree, absent, hole, is_marked, is_stored, marked, own, page_count, set_count, stored, unmapped, virgin}
use Rattle.rules.specs.Storage.{Memory, PageData, real, take_block}

-- THE STEPS OF A WRITE, for whatever each of them keeps
module _ (t : Tree) (s : ℕ) (I : Work real → Type 0) (in-settle : (c : ℕ) (w : Work real) → I w → I (settle real t c w))
    (in-reserve : (p : ℕ) (w : Work real) → I w → I (reserve real t s p w))
    (in-give : (must : Bool) (p c : ℕ) (w : Work real) → Memᴰ c (t.children s) → I w → I (give real t must s p c w))
    (in-enter : (lay : ℕ → PageData → PageData) (p : ℕ) (w : Work real) → I w → I (enter real t s lay p w))
    (in-resize : (n : ℕ) (w : Work real) → I w → I (resize real t s n w)) where
  in_page : (must : Bool) (p : ℕ) (w : Work real) → I w → I (each (give real t must s p) (t.children s) w)
  in_page must p w h = each_inv (give real t must s p) I (t.children s) (λ c v m. in-give must p c v m) w h

  -- all pages of a list, where each child has a turn at each
  in_pages : (how : Giving) (must : Bool) → ((p : ℕ) (w : Work real) → give_page real t how s p w ≡ each (give real t must s p) (t.children s) w)
      → (ps : List ℕ) (w : Work real) → I w → I (give_all real t how s ps w)
  unfolding give_all
  in_pages how must e ps w h = each_inv (give_page real t how s) I ps (λ p v m i. rw (e p v) (in_page must p v i)) w h

  -- a write drops no page
  handed_none : (w : Work real) → give_all real t handed s [] w ≡ w
  unfolding give_all each
  handed_none w = refl

  drop_none : (w : Work real) → each (drop_page real t s) [] w ≡ w
  unfolding each
  drop_none w = refl

  in_write : (g off : ℕ) (bs : List ℕ) (w : Work real) → I w → I (write_file real t g s off bs w)
  unfolding write_file change give_page
  in_write g off bs w h =
      let ps : List ℕ = touched off (length bs) in
      let es : List ℕ = extra_pages g off (length bs) in
      let w₁ : Work real = each (settle real t) (s ∷ t.children s) w in
      let w₂ : Work real = each (reserve real t s) ps w₁ in
      let w₃ : Work real = give_all real t handed s [] (give_all real t copied s ps w₂) in
      let w₄ : Work real = give_all real t extra s es w₃ in
      let w₅ : Work real = each (enter real t s (real.over off bs)) ps w₄ in
      let h₁ : I w₁ = each_inv (settle real t) I (s ∷ t.children s) (λ c v m. in-settle c v) w h in
      let h₂ : I w₂ = each_inv (reserve real t s) I ps (λ p v m. in-reserve p v) w₁ h₁ in
      let h₃ : I w₃ = subst I (sym (handed_none (give_all real t copied s ps w₂))) (in_pages copied true (λ p v. refl) ps w₂ h₂) in
      let h₅ : I w₅ = each_inv (enter real t s (real.over off bs)) I ps (λ p v m. in-enter (real.over off bs) p v) w₄ (in_pages extra false (λ p v. refl) es w₃ h₃) in
      in-resize _ (each (drop_page real t s) [] w₅) (subst I (sym (drop_none w₅)) h₅)

-- ---- bits that become 1

-- a bit made 1: at most one more than before that is not in old
one_more : (n : ℕ) (f old : ℕ → Bool) (k : ℕ) → count n (λ b. upd f k true b && not (old b)) ≤ count n (λ b. f b && not (old b)) + 1
unfolding count
one_more zero f old k = omega arith
one_more (suc n) f old k =
    same? k n
    (λ e. let same : count n (λ b. upd f k true b && not (old b)) ≡ count n (λ b. f b && not (old b)) =
    count_same n _ _ (λ x l. ap (λ v. v && not (old x)) (upd_other f k true x (λ q. omega arith))) in
    let a = most_one (upd f k true n && not (old n)) in omega arith)
    (λ d. let i = one_more n f old k in rw (upd_other f k true n d) (omega arith))
  where
    most_one : (b : Bool) → cond b 1 0 ≤ 1
    most_one true = omega arith
    most_one false = omega arith

-- freeing makes no bit 1
entry_falls : (b : ℕ) (e : Entry ℕ) (m : Memory) → (free_entry real e m).bits b ≡ true → m.bits b ≡ true
unfolding free_entry
entry_falls b unmapped m h = h
entry_falls b hole m h = h
entry_falls b (stored k) m h =
    same? k b
    (λ e. absurd (true≢false (sym h ∙ subst (λ x. upd m.bits k false x ≡ false) e (upd_same m.bits k false))))
    (λ d. sym (upd_other m.bits k false b d) ∙ h)

map_falls : (b : ℕ) (map : ℕ → Entry ℕ) (m : Memory) → (free_map real map m).bits b ≡ true → m.bits b ≡ true
unfolding free_map
map_falls b map m = each_inv _ (λ (n : Memory). n.bits b ≡ true → m.bits b ≡ true) (from 0 page_count) (λ p n l i h. i (entry_falls b (map p) n h)) m (λ h. h)

sets_fall : (t : Tree) (passes : ℕ → Bool) (files : Files ℕ) (b : ℕ) (m : Memory) → (free_sets real t passes files m).bits b ≡ true → m.bits b ≡ true
unfolding free_sets
sets_fall t passes files b m =
    each_inv _ (λ (n : Memory). n.bits b ≡ true → m.bits b ≡ true) (from 0 set_count)
    (λ x n l i. test? {P = (cond (passes x) (free_map real (files x).map n) n).bits b ≡ true → m.bits b ≡ true} (passes x) (λ e. rw e (λ h. i (map_falls b (files x).map n h))) (λ e. rw e i))
    m (λ h. h)

module _ (t : Tree) (s : ℕ) (old : ℕ → Bool) where
  -- the bits that are 1 and were not
  abbrev new_in : Memory → ℕ
  new_in m = count 4096 (λ b. m.bits b && not (old b))

  abbrev New : Work real → Type 0
  New w = new_in w.memory ≤ w.taken + w.copies

  take_new : (m : Memory) → new_in (take_block m).1 ≤ new_in m + 1
  unfolding take_block
  take_new m = one_more 4096 m.bits old _

  new_settle : (c : ℕ) (w : Work real) → New w → New (settle real t c w)
  unfolding settle
  new_settle c w h = h

  new_reserve : (p : ℕ) (w : Work real) → New w → New (reserve real t s p w)
  unfolding reserve reserve_as take_own
  new_reserve p w h = go ((w.files s).map p)
    where
      more : new_in (take_block w.memory).1 ≤ suc w.taken + w.copies
      more = let a = take_new w.memory in omega arith

      go : (e : Entry ℕ) → New (reserve_as real t e p w)
      go unmapped = more
      go hole = more
      go (stored k) = h

  new_give : (must : Bool) (p c : ℕ) (w : Work real) → New w → New (give real t must s p c w)
  unfolding give supply copy mark
  new_give must p c w h = test? (needs w.files c p) (λ e. rw e (go (resolve t w.files s p))) (λ e. rw e h)
    where
      full : (must : Bool) → New (cond must (mark real t c w) w)
      full true =
          let a : new_in (free_sets real t (reaches t w.files c) w.files w.memory) ≤ new_in w.memory =
          count_fewer 4096 _ _ (λ b l e.
          and_both (w.memory.bits b) (not (old b)) (sets_fall t _ w.files b w.memory (and_left _ (not (old b)) e)) (and_right ((free_sets real t (reaches t w.files c) w.files w.memory).bits b) _ e)) in
          omega arith
      full false = h

      go : (e : Entry ℕ) → New (supply real t must e c p w)
      go unmapped = h
      go hole = h
      go (stored k) = test? (eqb (real.free w.memory) 0) (λ e. rw e (search (full must))) (λ e. rw e (let a = take_new w.memory in omega arith))

  new_enter : (lay : ℕ → PageData → PageData) (p : ℕ) (w : Work real) → New w → New (enter real t s lay p w)
  unfolding enter enter_as
  new_enter lay p w h = go (w.pending p)
    where
      go : (e : Entry ℕ) → New (enter_as real t e s p (lay p (page_of real w.memory (resolve t w.files s p))) w)
      go unmapped = h
      go hole = h
      go (stored k) = h

  new_resize : (n : ℕ) (w : Work real) → New w → New (resize real t s n w)
  unfolding resize
  new_resize n w h = h

  -- LAW: no more bits become 1 than blocks are taken
  pub write_new : (g off : ℕ) (bs : List ℕ) (w : Work real) → New w → New (write_file real t g s off bs w)
  write_new = in_write t s New new_settle new_reserve (λ must p c w m. new_give must p c w) new_enter new_resize

-- ---- blocks that are kept

-- an entry that is not unmapped
stored_here : (b : ℕ) → ◌≡◌ {A = Entry ℕ} (stored b) unmapped → ⊥
stored_here b e = let z : ◌≡◌ {A = ℕ} 0 1 = cc in omega arith

-- ANOTHER SET x THAN s: its file is marked, or holds block b at page q
module _ (t : Tree) (s x q b : ℕ) (other : s ≡ x → ⊥) where
  abbrev HeldBy : Files ℕ → Type 0
  HeldBy files = (is_marked (files x).state ≡ true) ⊎ ((files x).map q ≡ stored b)

  abbrev Held : Work real → Type 0
  Held w = HeldBy w.files

  -- a file as it was
  held_same : (files files' : Files ℕ) → files' x ≡ files x → HeldBy files → HeldBy files'
  held_same files files' e h = subst (λ (y : File ℕ). (is_marked y.state ≡ true) ⊎ (y.map q ≡ stored b)) (sym e) h

  held_settle : (c : ℕ) (w : Work real) → Held w → Held (settle real t c w)
  unfolding settle settle_file settle_as
  held_settle c w h = ⊎_elim (λ m. inl (go (w.files c).state refl m)) (λ e. inr (settle_ent t c w.files x q ∙ e)) h
    where
      go : (l : State) → (w.files c).state ≡ l → is_marked (w.files x).state ≡ true → is_marked (settle_file t c w.files x).state ≡ true
      go absent e m = rw e m
      go own e m = rw e m
      go marked e m = rw e m
      go virgin e m =
          rw e (same? c x
          (λ d. absurd (true≢false (sym m ∙ ap (λ y. is_marked (w.files y).state) (sym d) ∙ ap is_marked e)))
          (λ d. ap (λ (y : File ℕ). is_marked y.state) (upd_other w.files c _ x d) ∙ m))

  held_reserve : (p : ℕ) (w : Work real) → Held w → Held (reserve real t s p w)
  unfolding reserve reserve_as take_own
  held_reserve p w h = go ((w.files s).map p)
    where
      go : (e : Entry ℕ) → Held (reserve_as real t e p w)
      go unmapped = h
      go hole = h
      go (stored k) = h

  -- an entry put where page p was unmapped
  held_put : (files : Files ℕ) (c p : ℕ) (e : Entry ℕ) → (files c).map p ≡ unmapped → HeldBy files → HeldBy (put_entry files c p e)
  held_put files c p e u h =
      ⊎_elim
      (λ m. inl (ap is_marked (put_entry_state files c p e x) ∙ m))
      (λ d. inr (same? p q
      (λ o. same? c x
      (λ r. absurd (stored_here b (sym d ∙ ap (λ y. (files y).map q) (sym r) ∙ ap (files c).map (sym o) ∙ u)))
      (λ r. ap (λ (y : File ℕ). y.map q) (put_entry_other files c p e x r) ∙ d))
      (λ o. put_entry_page files c p e x q o ∙ d)))
      h

  held_give : (must : Bool) (p c : ℕ) (w : Work real) → Held w → Held (give real t must s p c w)
  unfolding give supply copy mark
  held_give must p c w h = test? (needs w.files c p) (λ n. rw n (go (needs_unmapped w.files c p n) (resolve t w.files s p))) (λ n. rw n h)
    where
      full : (must : Bool) → Held (cond must (mark real t c w) w)
      full true =
          test? (reaches t w.files c x)
          (λ e. inl (ap (λ (y : File ℕ). is_marked y.state) (marked_by t w.files c x true e)))
          (λ e. held_same w.files (mark_down t w.files c) (marked_by t w.files c x false e) h)
      full false = h

      go : (w.files c).map p ≡ unmapped → (e : Entry ℕ) → Held (supply real t must e c p w)
      go u unmapped = h
      go u hole = held_put w.files c p hole u h
      go u (stored k) = test? (eqb (real.free w.memory) 0) (λ e. rw e (search (full must))) (λ e. rw e (held_put w.files c p _ u h))

  held_enter : (lay : ℕ → PageData → PageData) (p : ℕ) (w : Work real) → Held w → Held (enter real t s lay p w)
  unfolding enter enter_as
  held_enter lay p w h = go (w.pending p)
    where
      go : (e : Entry ℕ) → Held (enter_as real t e s p (lay p (page_of real w.memory (resolve t w.files s p))) w)
      go unmapped = h
      go hole = h
      go (stored k) = held_same w.files (put_entry w.files s p _) (put_entry_other w.files s p _ x other) h

  held_resize : (n : ℕ) (w : Work real) → Held w → Held (resize real t s n w)
  unfolding resize
  held_resize n w h = held_same w.files (upd w.files s _) (upd_other w.files s _ x other) h

  pub write_held : (g off : ℕ) (bs : List ℕ) (w : Work real) → Held w → Held (write_file real t g s off bs w)
  write_held = in_write t s Held held_settle held_reserve (λ must p c w m. held_give must p c w) held_enter held_resize

-- SET s ITSELF: its file holds block b at page q, and no other block is pending for that page
module _ (t : Tree) (proper : ProperTree t) (s q b : ℕ) where
  abbrev Kept : Work real → Type 0
  Kept w = ((w.files s).map q ≡ stored b) × (is_stored (w.pending q) ≡ true → w.pending q ≡ stored b)

  kept_settle : (c : ℕ) (w : Work real) → Kept w → Kept (settle real t c w)
  unfolding settle
  kept_settle c w h = (settle_ent t c w.files s q ∙ h.0, h.1)

  kept_reserve : (p : ℕ) (w : Work real) → Kept w → Kept (reserve real t s p w)
  unfolding reserve reserve_as take_own
  kept_reserve p w h = go ((w.files s).map p) refl
    where
      -- a block pending for page p
      pend : (k : ℕ) → (p ≡ q → stored k ≡ stored b) → is_stored (upd w.pending p (stored k) q) ≡ true → upd w.pending p (stored k) q ≡ stored b
      pend k here =
          same? p q
          (λ e i. subst (λ z. upd w.pending p (stored k) z ≡ stored b) e (upd_same w.pending p (stored k) ∙ here e))
          (λ d. rw (upd_other w.pending p (stored k) q d) h.1)

      go : (e : Entry ℕ) → (w.files s).map p ≡ e → Kept (reserve_as real t e p w)
      go unmapped u = (h.0, pend _ (λ e. absurd (stored_here b (sym h.0 ∙ ap (w.files s).map (sym e) ∙ u))))
      go hole u = (h.0, pend _ (λ e. absurd (let z : ◌≡◌ {A = Entry ℕ} (stored b) hole = sym h.0 ∙ ap (w.files s).map (sym e) ∙ u in let y : ◌≡◌ {A = ℕ} 0 1 = cc in omega arith)))
      go (stored k) u = (h.0, pend k (λ e. sym u ∙ ap (w.files s).map e ∙ h.0))

  -- the turn of a child leaves them
  kept_give : (must : Bool) (p c : ℕ) (w : Work real) → Memᴰ c (t.children s) → Kept w → Kept (give real t must s p c w)
  kept_give must p c w m h =
      (ap (λ (y : File ℕ). y.map q) (give_parent real t proper.ok s c m must p w) ∙ h.0, rw (give_one_pending real t s must p c w) h.1)

  kept_enter : (lay : ℕ → PageData → PageData) (p : ℕ) (w : Work real) → Kept w → Kept (enter real t s lay p w)
  unfolding enter enter_as
  kept_enter lay p w h = go (w.pending p) refl
    where
      go : (e : Entry ℕ) → w.pending p ≡ e → Kept (enter_as real t e s p (lay p (page_of real w.memory (resolve t w.files s p))) w)
      go unmapped u = h
      go hole u = h
      go (stored k) u = (
        same? p q
            (λ e. subst (λ z. (put_entry w.files s p (stored k) s).map z ≡ stored b) e
            (put_entry_ent w.files s p (stored k) ∙ sym u ∙ ap w.pending e ∙ h.1 (ap is_stored (ap w.pending (sym e) ∙ u))))
            (λ d. put_entry_page w.files s p (stored k) s q d ∙ h.0),
        h.1,
      )

  kept_resize : (n : ℕ) (w : Work real) → Kept w → Kept (resize real t s n w)
  unfolding resize
  kept_resize n w h = (ap (λ (y : File ℕ). y.map q) (upd_same w.files s _) ∙ h.0, h.1)

  pub write_kept : (g off : ℕ) (bs : List ℕ) (w : Work real) → Kept w → Kept (write_file real t g s off bs w)
  write_kept = in_write t s Kept kept_settle kept_reserve kept_give kept_enter kept_resize
