-- The rules on files as propositions, for the files of one number, over any storage.
-- Every step of a write, a truncate and a delete keeps those of them that look at one file at a time. Assumes nothing.
use mathlib.Core.Bool.{Bool, cond, false, true, true≢false}
use mathlib.Core.List.{List, Memᴰ, ◌∷◌, []}
use mathlib.Core.Logic.{⊎_elim}
use mathlib.Core.Option.{Option, none, some}
use mathlib.Core.Path.{ap, refl, subst, sym, ◌∙◌, ◌≡◌}
use Prim.Native.Nat.{◌*◌, ◌<◌, suc, zero, ℕ, ◌≤◌}
use native.Mathlib.Omega.{arith}
use lib.Dec.{eqb}
use Rattle.base.specs.Logic.{and_right, pick, same?, test?}
use Rattle.base.specs.Update.{upd, upd_keeps, upd_other, upd_same}
use Rattle.rules.proofs.Agreement.Agree.{from_high}
use Rattle.rules.proofs.Formed.MarkedBare.{MarkedBare}
use Rattle.rules.proofs.Steps.Handing.{ProperTree, some_leave, some_self}
use Rattle.rules.proofs.Steps.OneStep.{Alive, FilesOk}
use Rattle.rules.proofs.Steps.Reached.{reached_by, reached_live, some_unmapped_law}
use Rattle.rules.proofs.Steps.States.{live_present}
use Rattle.rules.proofs.Steps.StepFour.{each_inv, needs_alive, needs_unmapped}
use Rattle.rules.proofs.Steps.WriterSteps.{NoDup}
use Rattle.rules.specs.Reading.{dependent, needs, reaches, resolve, shown_size, size_by_reading, walk}
use Rattle.rules.specs.Rules.{Giving, Work, change, copied, copy, delete_as, delete_file, drop_page, each, enter, enter_as, erase_file, extra, from, give, give_all, give_page, hand, hand_over, handed, mark, mark_down, page_of, put_entry, reserve, reserve_as, resize, settle, settle_as, settle_file, supply, take_own}
use Rattle.rules.specs.State.{Entry, File, Files, State, Tree, absent, absent_file, hole, is_absent, is_stored, is_unmapped, live, marked, own, stored, unmapped, virgin}
use Rattle.rules.specs.Storage.{Storage}

-- what a walk gives has what everything shown has
walk_has : {X Y : Type 0} (parent : ℕ → ℕ) (look : X → Option Y) (d : Y) (P : Y → Type 0) (files : ℕ → X) → P d → ((x : ℕ) (v : Y) → look (files x) ≡ some v → P v) →
    (n s : ℕ) → P (walk parent look d n files s)
unfolding walk
walk_has {Y} parent look d P files a h zero s = go (look (files s)) refl
  where
    go : (o : Option Y) → look (files s) ≡ o → P (pick o d)
    go none e = a
    go (some v) e = h s v e
walk_has {Y} parent look d P files a h (suc n) s = go (look (files s)) refl (walk_has parent look d P files a h n (parent s))
  where
    go : (o : Option Y) → look (files s) ≡ o → P (walk parent look d n files (parent s)) → P (pick o (walk parent look d n files (parent s)))
    go none e r = r
    go (some v) e r = h s v e

module _ {K : Type 0} where
  -- WHAT THE RULES SAY OF ONE FILE, that of set s:
  -- "absent files are all zero; an unused set has no files"; "no file's size is over 32,768"; "a virgin file has size 0";
  -- "set 0 has no virgin or marked file and no unmapped entry outside absent files"; and nothing out of range.
  pub record FileFits (t : Tree) (s : ℕ) (x : File K) : Type 0 where
    pub empty : is_absent x.state ≡ true → x ≡ absent_file
    pub unused : t.used s ≡ false → is_absent x.state ≡ true
    pub out : 8 ≤ s → is_absent x.state ≡ true
    pub beyond : (p : ℕ) → 64 ≤ p → x.map p ≡ unmapped
    pub most : x.size ≤ 32768
    pub bare_size : x.state ≡ virgin → x.size ≡ 0
    pub root_own : s ≡ 0 → is_absent x.state ≡ false → x.state ≡ own
    pub root_full : s ≡ 0 → is_absent x.state ≡ false → (p : ℕ) → p < 64 → x.map p ≡ unmapped → ⊥

  abbrev pub Shape : Tree → Files K → Type 0
  Shape t files = (s : ℕ) → FileFits t s (files s)

  -- THE RULES ON THE FILES OF ONE NUMBER. "In an own file, no page wholly past the size resolves to stored", and so in a virgin one, by its size by reading. A marked file has
  -- size 0 and only unmapped entries.
  pub record FilesFormed (t : Tree) (files : Files K) : Type 0 where
    pub shape : Shape t files
    pub ok : FilesOk t files
    pub past : (s p : ℕ) → p < 64 → Alive files s → size_by_reading t files s ≤ p * 512 → is_stored (resolve t files s p) ≡ false
    pub bare_marked : MarkedBare files

  -- sizes by reading
  pub size_most : (t : Tree) (files : Files K) → Shape t files → (s : ℕ) → size_by_reading t files s ≤ 32768
  unfolding size_by_reading
  size_most t files h s =
      walk_has t.parent (λ (x : File K). shown_size x.state x.size) 0 (λ n. n ≤ 32768) files (omega arith)
      (λ x v e. let q = shown_is (files x).state (files x).size v e in let m = (h x).most in omega arith) (t.level s) s
    where
      shown_is : (l : State) (n v : ℕ) → shown_size l n ≡ some v → n ≡ v
      shown_is absent n v e = cc
      shown_is own n v e = cc
      shown_is virgin n v e = cc
      shown_is marked n v e = cc

  -- ONE FILE IS CHANGED
  pub fits_absent : (t : Tree) (s : ℕ) → FileFits t s absent_file
  fits_absent t s = record {
    empty = λ e. refl;
    unused = λ u. refl;
    out = λ l. refl;
    beyond = λ p l. refl;
    most = omega arith;
    bare_size = λ v. refl;
    root_own = λ z h. absurd (true≢false h);
    root_full = λ z h. absurd (true≢false h);
  }

  shape_upd : (t : Tree) (files : Files K) → Shape t files → (c : ℕ) (y : File K) → FileFits t c y → Shape t (upd files c y)
  shape_upd t files h c y f s =
      same? c s (λ e. subst (λ z. FileFits t z (upd files c y z)) e (rw (upd_same files c y) f)) (λ n. rw (upd_other files c y s n) (h s))

  -- a present file stays present
  fits_present : (t : Tree) (s : ℕ) (x y : File K) → FileFits t s x → is_absent x.state ≡ false → is_absent y.state ≡ false →
      ((p : ℕ) → 64 ≤ p → y.map p ≡ x.map p) → ((p : ℕ) → y.map p ≡ unmapped → x.map p ≡ unmapped) → y.size ≤ 32768 → (y.state ≡ virgin → y.size ≡ 0) → (s ≡ 0 → y.state ≡ own) → FileFits t s y
  fits_present t s x y f a b same less m v r = record {
    empty = λ e. absurd (true≢false (sym e ∙ b));
    unused = λ u. absurd (true≢false (sym (f.unused u) ∙ a));
    out = λ l. absurd (true≢false (sym (f.out l) ∙ a));
    beyond = λ p l. same p l ∙ f.beyond p l;
    most = m;
    bare_size = v;
    root_own = λ z h. r z;
    root_full = λ z h p l u. f.root_full z a p l (less p u);
  }

  -- the rules on one file each, and the file of set s is present
  pub record Fit (t : Tree) (s : ℕ) (files : Files K) : Type 0 where
    pub shape : Shape t files
    pub here : is_absent (files s).state ≡ false

  module _ (t : Tree) (s : ℕ) (files : Files K) (f : Fit t s files) where
    -- step 2
    fit_settle_as : (c : ℕ) (l : State) → (files c).state ≡ l → Fit t s (settle_as l t files c)
    unfolding settle_as
    fit_settle_as c absent e = f
    fit_settle_as c own e = f
    fit_settle_as c marked e = f
    fit_settle_as c virgin e = record {
      shape = shape_upd t files f.shape c _
          (fits_present t c (files c) _ (f.shape c) (ap is_absent e) refl (λ p l. refl) (λ p u. u) (size_most t files f.shape c) (λ v. cc) (λ z. refl));
      here = upd_keeps (λ (x : File K). is_absent x.state) files c _ (sym (ap is_absent e)) s ∙ f.here;
    }

    fit_settle : (c : ℕ) → Fit t s (settle_file t c files)
    unfolding settle_file
    fit_settle c = fit_settle_as c (files c).state refl

    -- an entry
    fit_put : (c p : ℕ) (e : Entry K) → p < 64 → is_absent (files c).state ≡ false → is_unmapped e ≡ false → Fit t s (put_entry files c p e)
    unfolding put_entry
    fit_put c p e l a n = record {
      shape = shape_upd t files f.shape c _
          (fits_present t c (files c) _ (f.shape c) a a
          (λ q k. upd_other (files c).map p e q (λ d. omega arith))
          (λ q u. same? p q
          (λ d. absurd (true≢false (sym (ap is_unmapped (sym (upd_same (files c).map p e) ∙ ap (upd (files c).map p e) d ∙ u)) ∙ n)))
          (λ d. sym (upd_other (files c).map p e q d) ∙ u))
          (f.shape c).most (f.shape c).bare_size (λ z. (f.shape c).root_own z a));
      here = upd_keeps (λ (x : File K). is_absent x.state) files c _ refl s ∙ f.here;
    }

    -- marks: only live files, never that of the root
    module _ (c : ℕ) (al : Alive files c) (c0 : c ≡ 0 → ⊥) where
      reach_root : (x : ℕ) → reaches t files c x ≡ true → x ≡ 0 → ⊥
      unfolding reaches dependent
      reach_root x h z =
          ⊎_elim (λ e. c0 (e ∙ z))
          (λ d. let u = some_unmapped_law (files x).map 64 (and_right (live (files x).state) _ d) in
          (f.shape x).root_full z (live_present (files x).state (reached_live t files c al x h)) u.0 u.1 u.2)
          (reached_by t files c (t.level x) x h)

      fit_mark : Fit t s (mark_down t files c)
      unfolding mark_down
      fit_mark = record {
        shape = λ x. test? (reaches t files c x)
            (λ e. rw e
            (let a = live_present (files x).state (reached_live t files c al x e) in record {
              empty = λ q. absurd (true≢false (sym q));
              unused = λ u. absurd (true≢false (sym ((f.shape x).unused u) ∙ a));
              out = λ l. absurd (true≢false (sym ((f.shape x).out l) ∙ a));
              beyond = λ p l. refl;
              most = omega arith;
              bare_size = λ v. refl;
              root_own = λ z h. absurd (reach_root x e z);
              root_full = λ z h. absurd (reach_root x e z);
            }))
            (λ e. rw e (f.shape x));
        here = test? (reaches t files c s) (λ e. rw e) (λ e. rw e f.here);
      }

    -- a new size
    fit_resize : (n : ℕ) → n ≤ 32768 → Fit t s (upd files s (record { state = own; size = n; map = (files s).map }))
    fit_resize n l = record {
      shape = shape_upd t files f.shape s _ (fits_present t s (files s) _ (f.shape s) f.here refl (λ p l. refl) (λ p u. u) l (λ v. cc) (λ z. refl));
      here = ap (λ (x : File K). is_absent x.state) (upd_same files s _);
    }

-- THE LOOPS, over any storage
module _ (S : Storage) (t : Tree) (s : ℕ) where
  abbrev FitW : Work S → Type 0
  FitW w = Fit t s w.files

  fit_supply : (must : Bool) (e : Entry S.Block) (p c : ℕ) (w : Work S) → p < 64 → FitW w → Alive w.files c → (c ≡ 0 → ⊥) → FitW (supply S t must e c p w)
  unfolding supply copy mark
  fit_supply must unmapped p c w l f a n = f
  fit_supply must hole p c w l f a n = fit_put t s w.files f c p hole l (live_present (w.files c).state a) refl
  fit_supply must (stored b) p c w l f a n =
      test? {P = FitW (supply S t must (stored b) c p w)} (eqb (S.free w.memory) 0)
      (λ z. rw (z, supply) (search (full must)))
      (λ z. rw (z, supply) (fit_put t s w.files f c p _ l (live_present (w.files c).state a) refl))
    where
      full : (must : Bool) → FitW (cond must (mark S t c w) w)
      full true = fit_mark t s w.files f c a n
      full false = f

  fit_give : (must : Bool) (p c : ℕ) (w : Work S) → p < 64 → FitW w → FitW (give S t must s p c w)
  unfolding give
  fit_give must p c w l f =
      test? (needs w.files c p)
      (λ n. let a = needs_alive w.files c p n in
      rw n (fit_supply must (resolve t w.files s p) p c w l f a (λ z. (f.shape c).root_full z (live_present (w.files c).state a) p l (needs_unmapped w.files c p n))))
      (λ n. rw n f)

  fit_some : (must : Bool) (p : ℕ) → p < 64 → (cs : List ℕ) (w : Work S) → FitW w → FitW (each (give S t must s p) cs w)
  fit_some must p l cs w f = each_inv (give S t must s p) FitW cs (λ c u k i. fit_give must p c u l i) w f

  stored_mapped : (e : Entry S.Block) → is_stored e ≡ true → is_unmapped e ≡ false
  stored_mapped unmapped h = absurd (true≢false (sym h))
  stored_mapped hole h = refl
  stored_mapped (stored b) h = refl

  -- an entry that is stored moves
  fit_over : (p c : ℕ) (w : Work S) → p < 64 → FitW w → is_absent (w.files c).state ≡ false → is_stored ((w.files s).map p) ≡ true → FitW (hand_over S t s p c w)
  unfolding hand_over
  fit_over p c w l f a h =
      let g = fit_put t s w.files f c p ((w.files s).map p) l a (stored_mapped ((w.files s).map p) h) in
      fit_put t s (put_entry w.files c p ((w.files s).map p)) g s p hole l g.here refl

  module _ (proper : ProperTree t) where
    fit_hand : (p : ℕ) → p < 64 → (cs : List ℕ) → ((d : ℕ) → Memᴰ d cs → Memᴰ d (t.children s)) → NoDup cs → (w : Work S) → FitW w → is_stored ((w.files s).map p) ≡ true → FitW (hand S t s p cs w)
    unfolding hand
    fit_hand p l [] kids nd w f h = f
    fit_hand p l (c ∷ cs) kids nd w f h =
        let inside : (d : ℕ) → Memᴰ d cs → Memᴰ d (t.children s) = λ d m. kids d (Memᴰ.tail m) in
        test? (needs w.files c p)
        (λ n. rw n (fit_over p c (each (give S t true s p) cs w) l (fit_some true p l cs w f)
        (ap (λ (x : File S.Block). is_absent x.state) (some_leave S t proper.ok true s p cs inside w c (kids c (Memᴰ.head refl)) nd.0) ∙ live_present (w.files c).state (needs_alive w.files c p n))
        (ap (λ (x : File S.Block). is_stored (x.map p)) (some_self S t proper.ok true s p cs inside w) ∙ h)))
        (λ n. rw n (fit_hand p l cs inside nd.1 w f h))

    fit_page : (how : Giving) (p : ℕ) → p < 64 → (w : Work S) → FitW w → FitW (give_page S t how s p w)
    unfolding give_page
    fit_page copied p l w f = fit_some true p l (t.children s) w f
    fit_page extra p l w f = fit_some false p l (t.children s) w f
    fit_page handed p l w f =
        test? (is_stored ((w.files s).map p)) (λ e. rw e (fit_hand p l (t.children s) (λ d m. m) (proper.once s) w f e)) (λ e. rw e (fit_some true p l (t.children s) w f))

    fit_give_all : (how : Giving) (ps : List ℕ) → ((p : ℕ) → Memᴰ p ps → p < 64) → (w : Work S) → FitW w → FitW (give_all S t how s ps w)
    unfolding give_all
    fit_give_all how ps under w f = each_inv (give_page S t how s) FitW ps (λ p v m g. fit_page how p (under p m) v g) w f

  fit_settle_each : (cs : List ℕ) (w : Work S) → FitW w → FitW (each (settle S t) cs w)
  unfolding settle
  fit_settle_each cs w f = each_inv (settle S t) FitW cs (λ c v m g. fit_settle t s v.files g c) w f

  fit_reserve : (p : ℕ) (w : Work S) → FitW w → FitW (reserve S t s p w)
  unfolding reserve reserve_as take_own
  fit_reserve p w f = go ((w.files s).map p)
    where
      go : (e : Entry S.Block) → FitW (reserve_as S t e p w)
      go unmapped = f
      go hole = f
      go (stored b) = f

  fit_enter : (lay : ℕ → S.Page → S.Page) (p : ℕ) (w : Work S) → p < 64 → FitW w → FitW (enter S t s lay p w)
  unfolding enter enter_as
  fit_enter lay p w l f = go (w.pending p)
    where
      go : (e : Entry S.Block) → FitW (enter_as S t e s p (lay p (page_of S w.memory (resolve t w.files s p))) w)
      go unmapped = f
      go hole = f
      go (stored b) = fit_put t s w.files f s p _ l f.here refl

  fit_drop : (p : ℕ) (w : Work S) → p < 64 → FitW w → FitW (drop_page S t s p w)
  unfolding drop_page
  fit_drop p w l f = fit_put t s w.files f s p hole l f.here refl

  -- any change of one file
  pub fit_change : ProperTree t → (ps rs ds es : List ℕ) (lay : ℕ → S.Page → S.Page) (resized : ℕ → ℕ) → ((p : ℕ) → Memᴰ p ps → p < 64) → ((p : ℕ) → Memᴰ p rs → p < 64) →
      ((p : ℕ) → Memᴰ p ds → p < 64) → ((p : ℕ) → Memᴰ p es → p < 64) → ((n : ℕ) → n ≤ 32768 → resized n ≤ 32768) → (w : Work S) → FitW w → FitW (change S t s ps rs ds es lay resized w)
  unfolding change resize
  fit_change proper ps rs ds es lay resized lp lr ld le most w f =
      let w₁ : Work S = each (settle S t) (s ∷ t.children s) w in
      let w₂ : Work S = each (reserve S t s) rs w₁ in
      let w₃ : Work S = give_all S t extra s es (give_all S t handed s ds (give_all S t copied s ps w₂)) in
      let w₄ : Work S = each (enter S t s lay) rs w₃ in
      let w₅ : Work S = each (drop_page S t s) ds w₄ in
      let f₁ : FitW w₁ = fit_settle_each (s ∷ t.children s) w f in
      let f₂ : FitW w₂ = each_inv (reserve S t s) FitW rs (λ p v m g. fit_reserve p v g) w₁ f₁ in
      let f₃ : FitW w₃ = fit_give_all proper extra es le _ (fit_give_all proper handed ds ld _ (fit_give_all proper copied ps lp w₂ f₂)) in
      let f₄ : FitW w₄ = each_inv (enter S t s lay) FitW rs (λ p v m g. fit_enter lay p v (lr p m) g) w₃ f₃ in
      let f₅ : FitW w₅ = each_inv (drop_page S t s) FitW ds (λ p v m g. fit_drop p v (ld p m) g) w₄ f₄ in
      fit_resize t s w₅.files f₅ (resized (w₅.files s).size) (most (w₅.files s).size (f₅.shape s).most)

  -- the file erased
  shape_erase : (w : Work S) → Shape t w.files → Shape t (erase_file S t s w).files
  unfolding erase_file
  shape_erase w h = shape_upd t w.files h s absent_file (fits_absent t s)

  pub shape_delete : ProperTree t → (w : Work S) → Shape t w.files → Shape t (delete_file S t s w).files
  unfolding delete_file delete_as
  shape_delete proper w h = go (live (w.files s).state) refl
    where
      go : (b : Bool) → live (w.files s).state ≡ b → Shape t (delete_as S t b s w).files
      go true e = shape_erase (give_all S t handed s (from 0 64) (each (settle S t) (t.children s) w))
          (fit_give_all proper handed (from 0 64) (λ p m. let z = from_high 0 64 p m in omega arith) (each (settle S t) (t.children s) w)
          (fit_settle_each (t.children s) w (record { shape = h; here = live_present (w.files s).state e }))).shape
      go false e = shape_erase w h
