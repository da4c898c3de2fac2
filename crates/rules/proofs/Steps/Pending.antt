-- Over any storage: which pages have a block pending through a change, that those are stored in the map when it is finished,
-- and that erasing a file is dropping its 64 pages one by one. Assumes nothing.
use mathlib.Core.Bool.{Bool, cond, false, true, true≢false}
use mathlib.Core.List.{List, Memᴰ, ◌∷◌, []}
use mathlib.Core.Logic.{⊎_elim}
use mathlib.Core.Path.{ap, refl, subst, sym, ◌∙◌, ◌≡◌}
use Prim.Native.Nat.{◌%◌, ◌+◌, ◌/◌, max, ℕ}
use lib.Dec.{eqb, ltb}
use lib.ListN.{length}
use Rattle.base.specs.Logic.{same?, test?}
use Rattle.base.specs.Update.{upd, upd_other, upd_same}
use Rattle.rules.proofs.Agreement.Agree.{from_once}
use Rattle.rules.proofs.Agreement.Truncate.{apart}
use Rattle.rules.proofs.Steps.OneStep.{put_entry_ent, put_entry_other, put_entry_page}
use Rattle.rules.proofs.Steps.StepFour.{each_all, each_inv}
use Rattle.rules.proofs.Steps.WriterSteps.{NoDup, mem?}
use Rattle.rules.specs.Reading.{needs, resolve, size_by_reading}
use Rattle.rules.specs.Rules.{Giving, Work, change, copied, copy, delete_as, delete_file, drop_page, dropped_pages, each, enter, enter_as, erase_file, extra, extra_pages, free_entry, free_map, from, give, give_all, give_page, hand, hand_over, handed, kept_pages, mark, part_pages, put_entry, reserve, reserve_as, resize, settle, supply, take_own, touched, truncate_as, truncate_file, with_files, write_file}
use Rattle.rules.specs.State.{Entry, File, Tree, absent_file, hole, is_absent, is_stored, live, own, stored, unmapped}
use Rattle.rules.specs.Storage.{Storage}

-- loops that do the same at each element
pub each_same : {A W : Type 0} (f g : A → W → W) (xs : List A) → ((x : A) (w : W) → Memᴰ x xs → f x w ≡ g x w) → (w : W) → each f xs w ≡ each g xs w
unfolding each
each_same f g [] h w = refl
each_same f g (x ∷ xs) h w = rw (h x w (Memᴰ.head refl)) (each_same f g xs (λ y v m. h y v (Memᴰ.tail m)) (g x w))

-- The work at the end of a call on the file of set s: pending blocks have entered the map, and where a page is stored the file is present.
pub record Finished (S : Storage) (s : ℕ) (w : Work S) : Type 0 where
  pub entered : (p : ℕ) → is_stored (w.pending p) ≡ true → is_stored ((w.files s).map p) ≡ true
  pub present : (p : ℕ) → is_stored ((w.files s).map p) ≡ true → is_absent (w.files s).state ≡ false

module _ (S : Storage) (t : Tree) (s : ℕ) where
  -- STEPS 2, 4 and 5 leave what is pending
  pub settle_pending : (cs : List ℕ) (w : Work S) → (each (settle S t) cs w).pending ≡ w.pending
  unfolding settle
  settle_pending cs w = each_inv (settle S t) (λ v. v.pending ≡ w.pending) cs (λ c v m i. i) w refl

  pub give_one_pending : (must : Bool) (p c : ℕ) (w : Work S) → (give S t must s p c w).pending ≡ w.pending
  unfolding give supply copy mark
  give_one_pending must p c w = go (needs w.files c p) (resolve t w.files s p)
    where
      go₂ : (b m : Bool) (k : S.Block) → (cond b (cond m (mark S t c w) w) (copy S t k c p w)).pending ≡ w.pending
      go₂ true true k = refl
      go₂ true false k = refl
      go₂ false m k = refl

      go : (b : Bool) (e : Entry S.Block) → (cond b (supply S t must e c p w) w).pending ≡ w.pending
      go false e = refl
      go true unmapped = refl
      go true hole = refl
      go true (stored k) = search (go₂ (eqb (S.free w.memory) 0) must k)

  pub some_pending : (must : Bool) (p : ℕ) (cs : List ℕ) (w : Work S) → (each (give S t must s p) cs w).pending ≡ w.pending
  some_pending must p cs w = each_inv (give S t must s p) (λ u. u.pending ≡ w.pending) cs (λ c u m j. give_one_pending must p c u ∙ j) w refl

  hand_pending : (p : ℕ) (cs : List ℕ) (w : Work S) → (hand S t s p cs w).pending ≡ w.pending
  unfolding hand hand_over
  hand_pending p [] w = refl
  hand_pending p (c ∷ cs) w = test? (needs w.files c p) (λ e. rw e (some_pending true p cs w)) (λ e. rw e (hand_pending p cs w))

  pub page_pending : (how : Giving) (p : ℕ) (w : Work S) → (give_page S t how s p w).pending ≡ w.pending
  unfolding give_page
  page_pending copied p w = some_pending true p (t.children s) w
  page_pending handed p w = test? (is_stored ((w.files s).map p)) (λ e. rw e (hand_pending p (t.children s) w)) (λ e. rw e (some_pending true p (t.children s) w))
  page_pending extra p w = some_pending false p (t.children s) w

  pub give_pending : (how : Giving) (ps : List ℕ) (w : Work S) → (give_all S t how s ps w).pending ≡ w.pending
  unfolding give_all
  give_pending how ps w = each_inv (give_page S t how s) (λ v. v.pending ≡ w.pending) ps (λ p v m i. page_pending how p v ∙ i) w refl

  module _ (lay : ℕ → S.Page → S.Page) where
    -- a pending block enters, and every page that was stored still is
    record EnteredOne (p : ℕ) (w v : Work S) : Type 0 where
      pending : v.pending ≡ w.pending
      here : is_stored (w.pending p) ≡ true → is_stored ((v.files s).map p) ≡ true
      more : (q : ℕ) → is_stored ((w.files s).map q) ≡ true → is_stored ((v.files s).map q) ≡ true

    enter_one : (p : ℕ) (w : Work S) → EnteredOne p w (enter S t s lay p w)
    unfolding enter enter_as
    enter_one p w = go (w.pending p) refl _
      where
        go : (e : Entry S.Block) → w.pending p ≡ e → (x : S.Page) → EnteredOne p w (enter_as S t e s p x w)
        go unmapped e x = record { pending = refl; here = λ h. absurd (true≢false (sym h ∙ ap is_stored e)); more = λ q h. h }
        go hole e x = record { pending = refl; here = λ h. absurd (true≢false (sym h ∙ ap is_stored e)); more = λ q h. h }
        go (stored b) e x = record { pending = refl; here = λ h. got; more = more }
          where
            k : Entry S.Block
            k = stored (S.put w.memory b x).0

            got : is_stored ((put_entry w.files s p k s).map p) ≡ true
            got = ap is_stored (put_entry_ent w.files s p k)

            more : (q : ℕ) → is_stored ((w.files s).map q) ≡ true → is_stored ((put_entry w.files s p k s).map q) ≡ true
            more q h = same? p q (λ d. subst (λ y. is_stored ((put_entry w.files s p k s).map y) ≡ true) d got) (λ d. ap is_stored (put_entry_page w.files s p k s q d) ∙ h)

    pub enter_pending : (ps : List ℕ) (w : Work S) → (each (enter S t s lay) ps w).pending ≡ w.pending
    enter_pending ps w = each_inv (enter S t s lay) (λ v. v.pending ≡ w.pending) ps (λ p v m i. (enter_one p v).pending ∙ i) w refl

    pub enter_stored : (ps : List ℕ) (w : Work S) (p : ℕ) → Memᴰ p ps → is_stored (w.pending p) ≡ true → is_stored (((each (enter S t s lay) ps w).files s).map p) ≡ true
    enter_stored ps w p m h =
        each_all (enter S t s lay) (λ v. v.pending ≡ w.pending) (λ q v. is_stored (w.pending q) ≡ true → is_stored ((v.files s).map q) ≡ true) ps
        (λ q v m i. (enter_one q v).pending ∙ i)
        (λ q v m i k. (enter_one q v).here (ap (λ (g : ℕ → Entry S.Block). is_stored (g q)) i ∙ k))
        (λ q q' v m i k j. (enter_one q' v).more q (k j)) w refl p m h

  -- STEP 3: only pages of the list get a block
  pub reserve_other : (q : ℕ) (v : Work S) (p : ℕ) → (q ≡ p → ⊥) → (reserve S t s q v).pending p ≡ v.pending p
  unfolding reserve reserve_as take_own
  reserve_other q v p d = go ((v.files s).map q)
    where
      go : (e : Entry S.Block) → (reserve_as S t e q v).pending p ≡ v.pending p
      go unmapped = upd_other v.pending q _ p d
      go hole = upd_other v.pending q _ p d
      go (stored b) = upd_other v.pending q _ p d

  pub reserves_other : (ps : List ℕ) (w : Work S) (p : ℕ) → (Memᴰ p ps → ⊥) → (each (reserve S t s) ps w).pending p ≡ w.pending p
  reserves_other ps w p n =
      each_inv (reserve S t s) (λ v. v.pending p ≡ w.pending p) ps (λ q v m i. reserve_other q v p (λ e. n (subst (λ y. Memᴰ y ps) e m)) ∙ i) w refl

  -- PAGES DROPPED: holes at the list, all else as it was
  pub record DroppedOnes (ps : List ℕ) (w v : Work S) : Type 0 where
    pub pending : v.pending ≡ w.pending
    pub counts : (v.taken ≡ w.taken) × (v.copies ≡ w.copies) × (v.marks ≡ w.marks)
    pub other_sets : (x : ℕ) → (s ≡ x → ⊥) → v.files x ≡ w.files x
    pub other_pages : (p : ℕ) → (Memᴰ p ps → ⊥) → (v.files s).map p ≡ (w.files s).map p

  pub drops : (ps : List ℕ) (w : Work S) → DroppedOnes ps w (each (drop_page S t s) ps w)
  unfolding drop_page
  drops ps w =
      each_inv (drop_page S t s) (DroppedOnes ps w) ps
      (λ q v m i. record {
        pending = i.pending;
        counts = i.counts;
        other_sets = λ x n. put_entry_other v.files s q hole x n ∙ i.other_sets x n;
        other_pages = λ p n. put_entry_page v.files s q hole s p (λ e. n (subst (λ y. Memᴰ y ps) e m)) ∙ i.other_pages p n;
      }) w
      (record { pending = refl; counts = (refl, refl, refl); other_sets = λ x n. refl; other_pages = λ p n. refl })

  pub drops_hole : (ps : List ℕ) (w : Work S) (p : ℕ) → Memᴰ p ps → ((each (drop_page S t s) ps w).files s).map p ≡ hole
  unfolding drop_page
  drops_hole ps w =
      each_all (drop_page S t s) (λ v. Unit {0}) (λ p v. (v.files s).map p ≡ hole) ps (λ q v m i. tt) (λ q v m i. put_entry_ent v.files s q hole)
      (λ p q v m i h. same? q p
      (λ e. subst (λ y. (put_entry v.files s q hole s).map y ≡ hole) e (put_entry_ent v.files s q hole))
      (λ e. put_entry_page v.files s q hole s p e ∙ h)) w tt

  -- the memory is that of the first map's entries freed in turn
  pub drops_memory : (ps : List ℕ) → NoDup ps → (w : Work S) → (each (drop_page S t s) ps w).memory ≡ each (λ p. free_entry S ((w.files s).map p)) ps w.memory
  unfolding each drop_page
  drops_memory [] d w = refl
  drops_memory (q ∷ qs) d w =
      drops_memory qs d.1 (drop_page S t s q w)
      ∙ each_same (λ p. free_entry S ((put_entry w.files s q hole s).map p)) (λ p. free_entry S ((w.files s).map p)) qs
      (λ p m l. ap (λ e. free_entry S e m) (put_entry_page w.files s q hole s p (λ e. d.0 (subst (λ y. Memᴰ y qs) (sym e) l)))) _

  abbrev pub dropped_all : Work S → Work S
  dropped_all w = each (drop_page S t s) (from 0 64) w

  -- ERASING is dropping all pages, then the file is absent
  pub erase_is : (w : Work S) → erase_file S t s w ≡ with_files S t (dropped_all w) (upd (dropped_all w).files s absent_file)
  unfolding erase_file free_map
  erase_is w =
      let d = drops (from 0 64) w in
      λ i. record {
        memory = sym (drops_memory (from 0 64) (from_once 0 64) w) i;
        files = λ x. same? {P = upd w.files s absent_file x ≡ upd (dropped_all w).files s absent_file x} s x
            (λ e. subst (λ y. upd w.files s absent_file y ≡ upd (dropped_all w).files s absent_file y) e (upd_same w.files s absent_file ∙ sym (upd_same (dropped_all w).files s absent_file)))
            (λ n. upd_other w.files s absent_file x n ∙ sym (upd_other (dropped_all w).files s absent_file x n ∙ d.other_sets x n)) i;
        pending = sym d.pending i;
        taken = sym d.counts.0 i;
        copies = sym d.counts.1 i;
        marks = sym d.counts.2 i;
      }

  -- FINISHED, after a change and after erasing
  change_finished : (ps rs ds es : List ℕ) → ((p : ℕ) → Memᴰ p ds → Memᴰ p rs → ⊥) → (lay : ℕ → S.Page → S.Page) (sz : ℕ → ℕ) (w : Work S) →
      ((p : ℕ) → is_stored (w.pending p) ≡ false) → Finished S s (change S t s ps rs ds es lay sz w)
  unfolding change resize
  change_finished ps rs ds es away lay sz w empty =
      let w₁ : Work S = each (settle S t) (s ∷ t.children s) w in
      let w₂ : Work S = each (reserve S t s) rs w₁ in
      let w₃ : Work S = give_all S t extra s es (give_all S t handed s ds (give_all S t copied s ps w₂)) in
      let w₄ : Work S = each (enter S t s lay) rs w₃ in
      let w₅ : Work S = each (drop_page S t s) ds w₄ in
      let last = upd_same w₅.files s (record { state = own; size = sz (w₅.files s).size; map = (w₅.files s).map }) in
      let late : w₅.pending ≡ w₃.pending = (drops ds w₄).pending ∙ enter_pending lay rs w₃ in
      let early : w₃.pending ≡ w₂.pending = give_pending extra es (give_all S t handed s ds (give_all S t copied s ps w₂)) ∙ give_pending handed ds (give_all S t copied s ps w₂) ∙ give_pending copied ps w₂ in
      record {
        entered = λ p h.
            let h₃ : is_stored (w₃.pending p) ≡ true = ap (λ (g : ℕ → Entry S.Block). is_stored (g p)) (sym late) ∙ h in
            ⊎_elim
            (λ m. ap (λ (x : File S.Block). is_stored (x.map p)) last ∙ ap is_stored ((drops ds w₄).other_pages p (λ d. away p d m)) ∙ enter_stored lay rs w₃ p m h₃)
            (λ n. absurd (true≢false (sym h₃ ∙ ap (λ (g : ℕ → Entry S.Block). is_stored (g p)) early ∙ ap is_stored (reserves_other rs w₁ p n)
            ∙ ap (λ (g : ℕ → Entry S.Block). is_stored (g p)) (settle_pending (s ∷ t.children s) w) ∙ empty p)))
            (mem? p rs);
        present = λ p h. ap (λ (x : File S.Block). is_absent x.state) last;
      }

  pub erase_finished : (w : Work S) → ((p : ℕ) → is_stored (w.pending p) ≡ false) → Finished S s (erase_file S t s w)
  unfolding erase_file
  erase_finished w empty = record {
    entered = λ p h. absurd (true≢false (sym h ∙ empty p));
    present = λ p h. absurd (true≢false (sym h ∙ ap (λ (x : File S.Block). is_stored (x.map p)) (upd_same w.files s absent_file)));
  }

  -- FINISHED, after each call on a file
  module _ (w : Work S) (empty : (p : ℕ) → is_stored (w.pending p) ≡ false) where
    pub write_finished : (g off : ℕ) (bs : List ℕ) → Finished S s (write_file S t g s off bs w)
    unfolding write_file
    write_finished g off bs = change_finished (touched off (length bs)) (touched off (length bs)) [] (extra_pages g off (length bs)) (λ p m k. elim m [ ]) (S.over off bs) (λ n. max n (off + length bs)) w empty

    pub truncate_finished : (n : ℕ) → Finished S s w → Finished S s (truncate_file S t s n w)
    unfolding truncate_file truncate_as
    truncate_finished n i = go (eqb n z) (ltb z n)
      where
        z : ℕ
        z = size_by_reading t w.files s

        e : Entry S.Block
        e = resolve t w.files s (n / 512)

        go : (x y : Bool) → Finished S s (truncate_as S t x y s n z w)
        go true y = i
        go false true = change_finished [] [] [] [] (λ p m k. elim m [ ]) (λ p v. v) (λ m. n) w empty
        go false false = change_finished (part_pages n) (kept_pages n e) (dropped_pages n z) [] (apart n z e) (λ p. S.cut (n % 512)) (λ m. n) w empty

    pub delete_finished : Finished S s (delete_file S t s w)
    unfolding delete_file delete_as
    delete_finished = go (live (w.files s).state)
      where
        go : (b : Bool) → Finished S s (delete_as S t b s w)
        go true = erase_finished (give_all S t handed s (from 0 64) (each (settle S t) (t.children s) w))
            (λ p. ap (λ (g : ℕ → Entry S.Block). is_stored (g p)) (give_pending handed (from 0 64) (each (settle S t) (t.children s) w) ∙ settle_pending (t.children s) w) ∙ empty p)
        go false = erase_finished w empty
