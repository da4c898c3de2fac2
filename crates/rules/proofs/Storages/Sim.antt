-- One storage stands for another: what must hold of single operations, and then each step of the rules keeps them together. Assumes nothing.
use mathlib.Core.Bool.{Bool, cond, false, true, true≢false}
use mathlib.Core.List.{List}
use mathlib.Core.Path.{ap, ap₂, fun_ext, refl, subst₂, sym, ◌∙◌, ◌≡◌}
use Prim.Native.Nat.{◌-◌, ◌<◌, suc, ℕ}
use native.Mathlib.Omega.{arith}
use lib.Dec.{eqb}
use borrow.Author.Tests.{eqb-false}
use Rattle.base.specs.Count.{count}
use Rattle.base.specs.Logic.{same?, test?}
use Rattle.base.specs.Update.{upd, upd_keeps, upd_map}
use Rattle.rules.proofs.Steps.OneStep.{put_entry_ent, put_entry_other, put_entry_page, put_entry_size, put_entry_state}
use Rattle.rules.proofs.Steps.States.{stored_is}
use Rattle.rules.proofs.Storages.MapBlocks.{files_ext, map_stored, map_entry, map_entry_agree, map_file, map_files, map_files_agree, mark_map, needs_map, put_entry_map, reaches_map, resolve_map, settle_map}
use Rattle.rules.specs.Reading.{needs, reaches, resolve}
use Rattle.rules.specs.Rules.{Work, copy, drop_page, enter, enter_as, free_entry, free_sets, give, hand_over, mark, mark_down, page_of, put_entry, reserve, reserve_as, resize, settle, settle_as, settle_file, supply, take_own, with_files}
use Rattle.rules.specs.State.{Entry, File, Files, State, Tree, absent, absent_file, hole, is_stored, marked, own, stored, unmapped, virgin}
use Rattle.rules.specs.Storage.{Storage}

-- how the blocks, the memory and the pages of one storage are seen in another
pub record Translation (S S' : Storage) : Type 0 where
  pub block : S.Memory → S.Block → S'.Block
  pub memory : S.Memory → S'.Memory
  pub page : S.Page → S'.Page

-- What is kept of the work of a call, what is asked of a child of its set, and what of a page that is put. Where nothing is asked they are Unit.
pub record Demands (S : Storage) : Type 1 where
  pub Good : Work S → Type 0
  pub Kid : ℕ → Type 0
  pub Whole : S.Page → Type 0

-- What single operations must do, in a call on the file of set s.
pub record Sim (S S' : Storage) (T : Translation S S') (D : Demands S) (t : Tree) (s : ℕ) : Type 0 where
  pub free : (w : Work S) → D.Good w → S'.free (T.memory w.memory) ≡ S.free w.memory
  -- pages
  pub get : (m : S.Memory) (b : S.Block) → T.page (S.get m b) ≡ S'.get (T.memory m) (T.block m b)
  pub zeros : T.page S.zeros ≡ S'.zeros
  pub over : (off : ℕ) (bs : List ℕ) (p : ℕ) (x : S.Page) → S'.over off bs p (T.page x) ≡ T.page (S.over off bs p x)
  pub cut : (n : ℕ) (x : S.Page) → S'.cut n (T.page x) ≡ T.page (S.cut n x)
  pub whole_get : (w : Work S) → D.Good w → (b : S.Block) → D.Whole (S.get w.memory b)
  pub whole_zeros : D.Whole S.zeros
  pub whole_over : (off : ℕ) (bs : List ℕ) (p : ℕ) (x : S.Page) → D.Whole x → D.Whole (S.over off bs p x)
  pub whole_cut : (n : ℕ) (x : S.Page) → D.Whole x → D.Whole (S.cut n x)
  -- files alone
  pub good_settle : (c : ℕ) (w : Work S) → D.Good w → D.Good (settle S t c w)
  pub good_mark : (c p : ℕ) (w : Work S) → D.Good w → needs w.files c p ≡ true → D.Kid c → D.Good (mark S t c w)
  pub mark_mem : (c p : ℕ) (w : Work S) → D.Good w → needs w.files c p ≡ true → D.Kid c →
      T.memory (free_sets S t (reaches t w.files c) w.files w.memory) ≡ free_sets S' t (reaches t w.files c) (map_files (T.block w.memory) w.files) (T.memory w.memory)
  pub mark_old : (passes : ℕ → Bool) (files : Files S.Block) (m : S.Memory) (b : S.Block) → T.block (free_sets S t passes files m) b ≡ T.block m b
  pub good_hole : (c p : ℕ) (w : Work S) → D.Good w → needs w.files c p ≡ true → D.Good (with_files S t w (put_entry w.files c p hole))
  pub good_resize : (n : ℕ) (w : Work S) → D.Good w → D.Good (resize S t s n w)
  -- a block is pending for a page of which none was
  pub good_reserve : (p : ℕ) (w : Work S) → D.Good w → is_stored (w.pending p) ≡ false → (is_stored ((w.files s).map p) ≡ false → 0 < S.free w.memory) → D.Good (reserve S t s p w)
  pub take_free : (w : Work S) → D.Good w → 0 < S.free w.memory → S.free (S.take w.memory).1 ≡ S.free w.memory - 1
  pub take_mem : (w : Work S) → D.Good w → 0 < S.free w.memory → T.memory (S.take w.memory).1 ≡ (S'.take (T.memory w.memory)).1
  pub take_old : (w : Work S) → D.Good w → (b : S.Block) → T.block (S.take w.memory).1 b ≡ T.block w.memory b
  -- a page is copied
  pub good_copy : (b : S.Block) (c p : ℕ) (w : Work S) → D.Good w → 0 < S.free w.memory → needs w.files c p ≡ true → D.Kid c → resolve t w.files s p ≡ stored b →
      D.Good (copy S t b c p w)
  pub copy_mem : (b : S.Block) (w : Work S) → D.Good w → 0 < S.free w.memory →
      T.memory (S.put (S.take w.memory).1 (S.take w.memory).0 (S.get (S.take w.memory).1 b)).1
      ≡ (S'.put (S'.take (T.memory w.memory)).1 (S'.take (T.memory w.memory)).0 (S'.get (S'.take (T.memory w.memory)).1 (T.block w.memory b))).1
  pub copy_new : (b : S.Block) (w : Work S) → D.Good w → 0 < S.free w.memory →
      T.block (S.put (S.take w.memory).1 (S.take w.memory).0 (S.get (S.take w.memory).1 b)).1
      (S.put (S.take w.memory).1 (S.take w.memory).0 (S.get (S.take w.memory).1 b)).0
      ≡ (S'.put (S'.take (T.memory w.memory)).1 (S'.take (T.memory w.memory)).0 (S'.get (S'.take (T.memory w.memory)).1 (T.block w.memory b))).0
  pub copy_old : (b : S.Block) (w : Work S) → D.Good w → 0 < S.free w.memory → (x q : ℕ) (b' : S.Block) → (w.files x).map q ≡ stored b' →
      T.block (S.put (S.take w.memory).1 (S.take w.memory).0 (S.get (S.take w.memory).1 b)).1 b' ≡ T.block w.memory b'
  -- a block moves to the map of a child
  pub good_hand : (b : S.Block) (c p : ℕ) (w : Work S) → D.Good w → needs w.files c p ≡ true → D.Kid c → (w.files s).map p ≡ stored b → is_stored (w.pending p) ≡ false → D.Good (hand_over S t s p c w)
  -- a pending block enters the map
  pub good_enter : (p : ℕ) (b : S.Block) (v : S.Page) (w : Work S) → D.Good w → p < 64 → D.Whole v → w.pending p ≡ stored b → D.Good (enter_as S t (stored b) s p v w)
  pub enter_mem : (b : S.Block) (b' : S'.Block) (v : S.Page) (w : Work S) → D.Good w → T.memory (S.put w.memory b v).1 ≡ (S'.put (T.memory w.memory) b' (T.page v)).1
  pub enter_new : (b : S.Block) (b' : S'.Block) (v : S.Page) (w : Work S) → D.Good w →
      T.block (S.put w.memory b v).1 (S.put w.memory b v).0 ≡ (S'.put (T.memory w.memory) b' (T.page v)).0
  pub enter_old : (p : ℕ) (b : S.Block) (v : S.Page) (w : Work S) → D.Good w → w.pending p ≡ stored b → (x q : ℕ) (b' : S.Block) → (w.files x).map q ≡ stored b' →
      (s ≡ x → p ≡ q → ⊥) → T.block (S.put w.memory b v).1 b' ≡ T.block w.memory b'
  -- a block is free again; the file, with nothing stored, is absent
  pub good_drop : (p : ℕ) (w : Work S) → D.Good w → is_stored (w.pending p) ≡ false → D.Good (drop_page S t s p w)
  pub drop_mem : (p : ℕ) (w : Work S) → D.Good w →
      T.memory (free_entry S ((w.files s).map p) w.memory) ≡ free_entry S' (map_entry (T.block w.memory) ((w.files s).map p)) (T.memory w.memory)
  pub drop_old : (e : Entry S.Block) (m : S.Memory) (b : S.Block) → T.block (free_entry S e m) b ≡ T.block m b
  pub good_absent : (w : Work S) → D.Good w → ((p : ℕ) → is_stored (w.pending p) ≡ false) → ((p : ℕ) → p < 64 → is_stored ((w.files s).map p) ≡ false) →
      D.Good (with_files S t w (upd w.files s absent_file))

-- one entry set over two maps that agree elsewhere
put_entry_agree : {K L : Type 0} (f g : K → L) (files : Files K) (s p : ℕ) (e : Entry L) → ((x q : ℕ) (b : K) → (files x).map q ≡ stored b → (s ≡ x → p ≡ q → ⊥) → f b ≡ g b) →
    put_entry (map_files f files) s p e ≡ put_entry (map_files g files) s p e
put_entry_agree f g files s p e h =
    files_ext _ _
    (λ x. put_entry_state (map_files f files) s p e x ∙ sym (put_entry_state (map_files g files) s p e x))
    (λ x. put_entry_size (map_files f files) s p e x ∙ sym (put_entry_size (map_files g files) s p e x))
    (λ x q. same? p q
    (λ a. same? s x
    (λ b. subst₂ (λ y z. (put_entry (map_files f files) s p e y).map z ≡ (put_entry (map_files g files) s p e y).map z) b a
    (put_entry_ent (map_files f files) s p e ∙ sym (put_entry_ent (map_files g files) s p e)))
    (λ b. ap (λ (y : File _). y.map q) (put_entry_other (map_files f files) s p e x b) ∙ map_entry_agree f g ((files x).map q) (λ k c. h x q k c (λ d _. b d))
    ∙ sym (ap (λ (y : File _). y.map q) (put_entry_other (map_files g files) s p e x b))))
    (λ a. put_entry_page (map_files f files) s p e x q a ∙ map_entry_agree f g ((files x).map q) (λ k c. h x q k c (λ _ d. a d)) ∙ sym (put_entry_page (map_files g files) s p e x q a)))

pub settle_ent : {K : Type 0} (t : Tree) (c : ℕ) (files : Files K) (x p : ℕ) → (settle_file t c files x).map p ≡ (files x).map p
unfolding settle_file settle_as
settle_ent {K = K} t c files x p = go (files c).state
  where
    go : (l : State) → (settle_as l t files c x).map p ≡ (files x).map p
    go absent = refl
    go own = refl
    go marked = refl
    go virgin = upd_keeps (λ (y : File K). y.map p) files c _ refl x

positive : (n : ℕ) → eqb n 0 ≡ false → 0 < n
positive n e = let h = eqb-false n 0 e in omega arith

-- the work over one storage and over the other go together
pub record Rel {S S' : Storage} (T : Translation S S') (D : Demands S) (w : Work S) (v : Work S') : Type 0 where
  pub good : D.Good w
  pub memory : v.memory ≡ T.memory w.memory
  pub files : v.files ≡ map_files (T.block w.memory) w.files
  pub pending : (p : ℕ) → is_stored (v.pending p) ≡ is_stored (w.pending p)
  pub taken : v.taken ≡ w.taken
  pub copies : v.copies ≡ w.copies
  pub marks : v.marks ≡ w.marks

module _ {S S' : Storage} {T : Translation S S'} {D : Demands S} {t : Tree} {s : ℕ} (M : Sim S S' T D t s) where
  module _ {w : Work S} {v : Work S'} (r : Rel T D w v) where
    pub rel_settle : (c : ℕ) → Rel T D (settle S t c w) (settle S' t c v)
    unfolding settle
    rel_settle c = record {
      good = M.good_settle c w r.good;
      memory = r.memory;
      files = ap (settle_file t c) r.files ∙ sym (settle_map (T.block w.memory) t c w.files);
      pending = r.pending;
      taken = r.taken;
      copies = r.copies;
      marks = r.marks;
    }

    pub rel_needs : (c p : ℕ) → needs v.files c p ≡ needs w.files c p
    rel_needs c p = ap (λ x. needs x c p) r.files ∙ needs_map (T.block w.memory) w.files c p

    pub rel_res : (x p : ℕ) → resolve t v.files x p ≡ map_entry (T.block w.memory) (resolve t w.files x p)
    rel_res x p = ap (λ y. resolve t y x p) r.files ∙ resolve_map (T.block w.memory) t w.files x p

    rel_free : S'.free v.memory ≡ S.free w.memory
    rel_free = ap S'.free r.memory ∙ M.free w r.good

    rel_mark : (c p : ℕ) → needs w.files c p ≡ true → D.Kid c → Rel T D (mark S t c w) (mark S' t c v)
    unfolding mark
    rel_mark c p n k = record {
      good = M.good_mark c p w r.good n k;
      memory = (λ i. free_sets S' t (same i) (r.files i) (r.memory i)) ∙ sym (M.mark_mem c p w r.good n k);
      files = ap (λ x. mark_down t x c) (r.files ∙ map_files_agree _ _ w.files (λ x q b e. sym (M.mark_old _ _ _ b))) ∙ sym (mark_map (T.block (mark S t c w).memory) t w.files c);
      pending = r.pending;
      taken = r.taken;
      copies = r.copies;
      marks = cc (r.marks, ap (λ x. count 8 (reaches t x c)) r.files, ap (count 8) (fun_ext (λ x. reaches_map (T.block w.memory) t w.files c x)));
    }
      where
        same : reaches t v.files c ≡ reaches t w.files c
        same = ap (λ x. reaches t x c) r.files ∙ fun_ext (λ x. reaches_map (T.block w.memory) t w.files c x)

    rel_hole : (c p : ℕ) → needs w.files c p ≡ true → Rel T D (with_files S t w (put_entry w.files c p hole)) (with_files S' t v (put_entry v.files c p hole))
    rel_hole c p n = record {
      good = M.good_hole c p w r.good n;
      memory = r.memory;
      files = ap (λ x. put_entry x c p hole) r.files ∙ sym (put_entry_map (T.block w.memory) w.files c p hole);
      pending = r.pending;
      taken = r.taken;
      copies = r.copies;
      marks = r.marks;
    }

    rel_copy : (b : S.Block) (c p : ℕ) → 0 < S.free w.memory → needs w.files c p ≡ true → D.Kid c → resolve t w.files s p ≡ stored b →
        Rel T D (copy S t b c p w) (copy S' t (T.block w.memory b) c p v)
    unfolding copy
    rel_copy b c p f n k e = record {
      good = M.good_copy b c p w r.good f n k e;
      memory = rw r.memory (sym (M.copy_mem b w r.good f));
      files = rw (r.memory, r.files)
          (sym (put_entry_map _ w.files c p _ ∙ ap₂ (λ x y. put_entry x c p (stored y)) (map_files_agree _ _ w.files (M.copy_old b w r.good f)) (M.copy_new b w r.good f)));
      pending = r.pending;
      taken = r.taken;
      copies = ap suc r.copies;
      marks = r.marks;
    }

    rel_supply : (must : Bool) (e : Entry S.Block) (c p : ℕ) → needs w.files c p ≡ true → D.Kid c → resolve t w.files s p ≡ e →
        Rel T D (supply S t must e c p w) (supply S' t must (map_entry (T.block w.memory) e) c p v)
    unfolding supply
    rel_supply must unmapped c p n k e = r
    rel_supply must hole c p n k e = rel_hole c p n
    rel_supply must (stored b) c p n k e =
        test? (eqb (S.free w.memory) 0)
        (λ z. rw (rel_free, z, supply) (search (full must)))
        (λ z. rw (rel_free, z, supply) (rel_copy b c p (positive (S.free w.memory) z) n k e))
      where
        full : (must : Bool) → Rel T D (cond must (mark S t c w) w) (cond must (mark S' t c v) v)
        full true = rel_mark c p n k
        full false = r

    pub rel_give : (must : Bool) (p c : ℕ) → D.Kid c → Rel T D (give S t must s p c w) (give S' t must s p c v)
    unfolding give
    rel_give must p c k =
        test? (needs w.files c p)
        (λ n. rw (rel_needs c p, n, rel_res s p) (rel_supply must (resolve t w.files s p) c p n k refl))
        (λ n. rw (rel_needs c p, n) r)

    pub rel_own : (p : ℕ) → is_stored ((v.files s).map p) ≡ is_stored ((w.files s).map p)
    rel_own p = ap (λ (y : Files S'.Block). is_stored ((y s).map p)) r.files ∙ map_stored (T.block w.memory) ((w.files s).map p)

    pub rel_hand : (p c : ℕ) → D.Kid c → needs w.files c p ≡ true → is_stored ((w.files s).map p) ≡ true → is_stored (w.pending p) ≡ false → Rel T D (hand_over S t s p c w) (hand_over S' t s p c v)
    unfolding hand_over
    rel_hand p c k n h o = let e = stored_is ((w.files s).map p) h in record {
      good = M.good_hand e.0 c p w r.good n k e.1 o;
      memory = r.memory;
      files = ap (λ (x : Files S'.Block). put_entry (put_entry x c p ((x s).map p)) s p hole) r.files
          ∙ sym (put_entry_map (T.block w.memory) (put_entry w.files c p ((w.files s).map p)) s p hole ∙ ap (λ x. put_entry x s p hole) (put_entry_map (T.block w.memory) w.files c p ((w.files s).map p)));
      pending = r.pending;
      taken = r.taken;
      copies = r.copies;
      marks = r.marks;
    }

    pub rel_resize : (n n' : ℕ) → n' ≡ n → Rel T D (resize S t s n w) (resize S' t s n' v)
    unfolding resize
    rel_resize n n' e = record {
      good = M.good_resize n w r.good;
      memory = r.memory;
      files = rw (e, r.files) (fun_ext (λ x. sym (upd_map (λ _. map_file (T.block w.memory)) w.files s _ x)));
      pending = r.pending;
      taken = r.taken;
      copies = r.copies;
      marks = r.marks;
    }

    rel_ent : (x p : ℕ) → (v.files x).map p ≡ map_entry (T.block w.memory) ((w.files x).map p)
    rel_ent x p = ap (λ (y : Files S'.Block). (y x).map p) r.files

    still : (p : ℕ) (b : S.Block) (b' : S'.Block) (q : ℕ) → is_stored (upd v.pending p (stored b') q) ≡ is_stored (upd w.pending p (stored b) q)
    still p b b' q =
        upd_map (λ _. is_stored) v.pending p (stored b') q ∙ ap (λ h. upd h p true q) (fun_ext r.pending) ∙ sym (upd_map (λ _. is_stored) w.pending p (stored b) q)

    rel_pending : (p : ℕ) → D.Good (take_own S t p w) → 0 < S.free w.memory → Rel T D (take_own S t p w) (take_own S' t p v)
    unfolding take_own
    rel_pending p g f = record {
      good = g;
      memory = rw r.memory (sym (M.take_mem w r.good f));
      files = r.files ∙ map_files_agree _ _ w.files (λ x q b h. sym (M.take_old w r.good b));
      pending = still p _ _;
      taken = ap suc r.taken;
      copies = r.copies;
      marks = r.marks;
    }

    pub rel_reserve : (p : ℕ) → is_stored (w.pending p) ≡ false → (is_stored ((w.files s).map p) ≡ false → 0 < S.free w.memory) → Rel T D (reserve S t s p w) (reserve S' t s p v)
    unfolding reserve reserve_as
    rel_reserve p o f = rw (rel_ent s p) (go ((w.files s).map p) f (M.good_reserve p w r.good o f))
      where
        go : (e : Entry S.Block) → (is_stored e ≡ false → 0 < S.free w.memory) → D.Good (reserve_as S t e p w) →
            Rel T D (reserve_as S t e p w) (reserve_as S' t (map_entry (T.block w.memory) e) p v)
        go unmapped f g = rel_pending p g (f refl)
        go hole f g = rel_pending p g (f refl)
        go (stored b) f g = record { good = g; memory = r.memory; files = r.files; pending = still p _ _; taken = r.taken; copies = r.copies; marks = r.marks }

    rel_page : (e : Entry S.Block) → page_of S' v.memory (map_entry (T.block w.memory) e) ≡ T.page (page_of S w.memory e)
    unfolding page_of
    rel_page unmapped = sym M.zeros
    rel_page hole = sym M.zeros
    rel_page (stored b) = rw r.memory (sym (M.get w.memory b))

    rel_enter_as : (p : ℕ) (x : S.Page) (e : Entry S.Block) (e' : Entry S'.Block) → p < 64 → D.Whole x → w.pending p ≡ e → is_stored e' ≡ is_stored e →
        Rel T D (enter_as S t e s p x w) (enter_as S' t e' s p (T.page x) v)
    unfolding enter_as
    rel_enter_as p x unmapped unmapped l o h k = r
    rel_enter_as p x unmapped hole l o h k = r
    rel_enter_as p x unmapped (stored b) l o h k = absurd (true≢false k)
    rel_enter_as p x hole unmapped l o h k = r
    rel_enter_as p x hole hole l o h k = r
    rel_enter_as p x hole (stored b) l o h k = absurd (true≢false k)
    rel_enter_as p x (stored b) unmapped l o h k = absurd (true≢false (sym k))
    rel_enter_as p x (stored b) hole l o h k = absurd (true≢false (sym k))
    rel_enter_as p x (stored b) (stored b') l o h k = record {
      good = M.good_enter p b x w r.good l o h;
      memory = rw r.memory (sym (M.enter_mem b b' x w r.good));
      files = rw (r.memory, r.files)
          (sym (put_entry_map _ w.files s p _ ∙ put_entry_agree _ _ w.files s p _ (M.enter_old p b x w r.good h)
          ∙ ap (λ y. put_entry (map_files (T.block w.memory) w.files) s p (stored y)) (M.enter_new b b' x w r.good)));
      pending = r.pending;
      taken = r.taken;
      copies = r.copies;
      marks = r.marks;
    }

    whole_page : (e : Entry S.Block) → D.Whole (page_of S w.memory e)
    unfolding page_of
    whole_page unmapped = M.whole_zeros
    whole_page hole = M.whole_zeros
    whole_page (stored b) = M.whole_get w r.good b

    pub rel_enter : (lay : ℕ → S.Page → S.Page) (lay' : ℕ → S'.Page → S'.Page) → ((p : ℕ) (x : S.Page) → lay' p (T.page x) ≡ T.page (lay p x)) →
        ((p : ℕ) (x : S.Page) → D.Whole x → D.Whole (lay p x)) → (p : ℕ) → p < 64 → Rel T D (enter S t s lay p w) (enter S' t s lay' p v)
    unfolding enter
    rel_enter lay lay' h o p l =
        rw (rel_res s p, rel_page (resolve t w.files s p), h)
        (rel_enter_as p _ (w.pending p) (v.pending p) l (o p _ (whole_page (resolve t w.files s p))) refl (r.pending p))

    pub rel_drop : (p : ℕ) → is_stored (w.pending p) ≡ false → Rel T D (drop_page S t s p w) (drop_page S' t s p v)
    unfolding drop_page
    rel_drop p n = record {
      good = M.good_drop p w r.good n;
      memory = rw (rel_ent s p, r.memory) (sym (M.drop_mem p w r.good));
      files = ap (λ x. put_entry x s p hole) (r.files ∙ map_files_agree _ _ w.files (λ x q b e. sym (M.drop_old _ _ b))) ∙ sym (put_entry_map _ w.files s p hole);
      pending = r.pending;
      taken = r.taken;
      copies = r.copies;
      marks = r.marks;
    }

    pub rel_absent : ((p : ℕ) → is_stored (w.pending p) ≡ false) → ((p : ℕ) → p < 64 → is_stored ((w.files s).map p) ≡ false) →
        Rel T D (with_files S t w (upd w.files s absent_file)) (with_files S' t v (upd v.files s absent_file))
    rel_absent n o = record {
      good = M.good_absent w r.good n o;
      memory = r.memory;
      files = rw r.files (fun_ext (λ x. sym (upd_map (λ _. map_file (T.block w.memory)) w.files s _ x)));
      pending = r.pending;
      taken = r.taken;
      copies = r.copies;
      marks = r.marks;
    }
