-- The model stands for the store's own storage: each step of the rules keeps the work good. Assumes nothing.
use mathlib.Core.Bool.{Bool, cond, false, not, true, true≢false}
use mathlib.Core.List.Memᴰ
use mathlib.Core.List.{List, Memᴰ, ◌∷◌, []}
use mathlib.Core.Logic.{inl, inr, ◌⊎◌, ⊎_elim}
use mathlib.Core.Path.{◌≡◌, ap, ap₂, fun_ext, refl, subst, subst₂, sym, ◌∙◌}
use Prim.Native.Nat.{◌<◌, ℕ}
use native.Mathlib.Omega.{arith}
use Rattle.base.specs.Count.{count_less}
use Rattle.base.specs.Logic.{same?, test?}
use Rattle.base.specs.Update.{upd, upd_keeps, upd_other, upd_same}
use Rattle.rules.proofs.Agreement.Agree.{from_mem, from_once}
use Rattle.rules.proofs.Blocks.GoodWork.{Good, PagesIn, Place, ShortPage, Used, at, good_alike, good_more, not_stored, overlay_short, put_in, put_entry_named, put_entry_still, slot, upd_named, zero_short}
use Rattle.rules.proofs.Blocks.TakeBlock.{take_below, take_bits, take_blocks, take_count, take_next, take_pages, take_unused}
use Rattle.rules.proofs.Blocks.Tidy.{Tidy, resolve_named, settle_presence, tidy_fewer, tidy_put}
use Rattle.rules.proofs.Steps.Handing.{not_reached}
use Rattle.rules.proofs.Steps.OneStep.{TreeOk, put_entry_ent, put_entry_other, put_entry_page, put_entry_state}
use Rattle.rules.proofs.Steps.Pending.{drops, drops_hole, drops_memory, each_same}
use Rattle.rules.proofs.Steps.Reached.{mark_presence, marked_by, reached_live}
use Rattle.rules.proofs.Steps.States.{live_present}
use Rattle.rules.proofs.Steps.StepFour.{each_all, each_inv, needs_alive, needs_unmapped}
use Rattle.rules.proofs.Steps.WriterSteps.{NoDup}
use Rattle.rules.proofs.Storages.MapBlocks.{map_entry, map_files}
use Rattle.rules.proofs.Storages.Model.{model}
use Rattle.rules.proofs.Storages.Sim.{Demands, Sim, Translation, settle_ent}
use Rattle.rules.specs.Reading.{needs, reaches, resolve}
use Rattle.rules.specs.Rules.{Work, copy, drop_page, each, enter_as, free_entry, free_map, free_sets, from, hand_over, mark, mark_down, put_entry, reserve, reserve_as, resize, settle, take_own, with_files}
use Rattle.rules.specs.State.{Entry, File, Files, Tree, absent_file, hole, is_absent, is_stored, live, stored, unmapped}
use Rattle.rules.specs.Storage.{Memory, PageData, free_blocks, real, take_block}

drop_pages : (e : Entry ℕ) (m : Memory) (b : ℕ) → (free_entry real e m).pages b ≡ m.pages b
unfolding free_entry
drop_pages unmapped m b = refl
drop_pages hole m b = refl
drop_pages (stored k) m b = refl

none_here : (b : ℕ) → ◌≡◌ {A = Entry ℕ} unmapped (stored b) → ⊥
none_here b e = let z : ◌≡◌ {A = ℕ} 0 1 = cc in omega arith

free_sets_pages : (t : Tree) (passes : ℕ → Bool) (files : Files ℕ) (m : Memory) (b : ℕ) → (free_sets real t passes files m).pages b ≡ m.pages b
unfolding free_sets free_map
free_sets_pages t passes files m b =
    each_inv _ (λ (n : Memory). n.pages b ≡ m.pages b) (from 0 8)
    (λ x n l i. test? {P = (cond (passes x) (free_map real (files x).map n) n).pages b ≡ m.pages b} (passes x)
    (λ e. rw e (each_inv _ (λ (k : Memory). k.pages b ≡ m.pages b) (from 0 64) (λ p k l j. drop_pages ((files x).map p) k b ∙ j) n i)) (λ e. rw e i)) m refl

module _ (t : Tree) (s : ℕ) (m₀ : Memory) (Outer : ℕ → Type 0) where
  abbrev Ok : Work real → Type 0
  Ok w = Good t s m₀ Outer w

  -- FILES ALONE: every entry stays, and no other file comes or goes
  good_files : (w w' : Work real) → w'.memory ≡ w.memory → w'.pending ≡ w.pending → ((x p : ℕ) → (w'.files x).map p ≡ (w.files x).map p) →
      ((x : ℕ) → (s ≡ x → ⊥) → is_absent (w'.files x).state ≡ is_absent (w.files x).state) → Ok w → Ok w'
  good_files w w' m o same gone g =
      good_alike t s m₀ Outer w w' m (tidy_fewer t s w.files g.tidy w'.files (λ x p b a. sym (same x p) ∙ a) gone) (λ h x p b a. sym (all h x p) ∙ a) (λ h x p b a. all h x p ∙ a) g
    where
      all : (h : Bool) (x p : ℕ) → at w' h x p ≡ at w h x p
      all true x p = ap (λ (y : ℕ → Entry ℕ). y p) o
      all false x p = same x p

  good_settle : (c : ℕ) (w : Work real) → Ok w → Ok (settle real t c w)
  unfolding settle
  good_settle c w g = good_files w (settle real t c w) refl refl (settle_ent t c w.files) (λ x n. settle_presence t c w.files x) g

  good_resize : (n : ℕ) (w : Work real) → Ok w → Ok (resize real t s n w)
  unfolding resize
  good_resize n w g =
      good_files w (resize real t s n w) refl refl (λ x p. upd_keeps (λ (f : File ℕ). f.map p) w.files s _ refl x)
      (λ x o. ap (λ (f : File ℕ). is_absent f.state) (upd_other w.files s _ x o)) g

  -- a hole where nothing was stored
  module _ (w : Work real) (c p : ℕ) where
    hole_less : (x q b : ℕ) → (put_entry w.files c p hole x).map q ≡ stored b → (w.files x).map q ≡ stored b
    hole_less x q b a =
        same? p q
        (λ e. same? c x
        (λ d. let z : (put_entry w.files c p hole c).map p ≡ hole = put_entry_ent w.files c p hole in cc)
        (λ d. ap (λ (f : File ℕ). f.map q) (sym (put_entry_other w.files c p hole x d)) ∙ a))
        (λ e. sym (put_entry_page w.files c p hole x q e) ∙ a)

    hole_more : (x q b : ℕ) → (w.files x).map q ≡ stored b → ((w.files c).map p ≡ stored b → ⊥) → (put_entry w.files c p hole x).map q ≡ stored b
    hole_more x q b a n =
        same? p q
        (λ e. same? c x
        (λ d. absurd (n (ap (λ y. (w.files y).map p) d ∙ ap (w.files x).map e ∙ a)))
        (λ d. ap (λ (f : File ℕ). f.map q) (put_entry_other w.files c p hole x d) ∙ a))
        (λ e. put_entry_page w.files c p hole x q e ∙ a)

    hole_tidy : Tidy t s w.files → Tidy t s (put_entry w.files c p hole)
    hole_tidy k = tidy_fewer t s w.files k (put_entry w.files c p hole) hole_less (λ x o. ap is_absent (put_entry_state w.files c p hole x))

    good_holed : (w' : Work real) → w'.memory ≡ w.memory → w'.files ≡ put_entry w.files c p hole → w'.pending ≡ w.pending → is_stored ((w.files c).map p) ≡ false → Ok w → Ok w'
    good_holed w' m f o n g =
        good_alike t s m₀ Outer w w' m (subst (Tidy t s) (sym f) (hole_tidy g.tidy)) less more g
      where
        less : (h : Bool) (x q b : ℕ) → at w' h x q ≡ stored b → at w h x q ≡ stored b
        less true x q b a = ap (λ (y : ℕ → Entry ℕ). y q) (sym o) ∙ a
        less false x q b a = hole_less x q b (ap (λ (y : Files ℕ). (y x).map q) (sym f) ∙ a)

        more : (h : Bool) (x q b : ℕ) → at w h x q ≡ stored b → at w' h x q ≡ stored b
        more true x q b a = ap (λ (y : ℕ → Entry ℕ). y q) o ∙ a
        more false x q b a = ap (λ (y : Files ℕ). (y x).map q) f ∙ hole_more x q b a (not_stored ((w.files c).map p) b n)

  good_hole : (c p : ℕ) (w : Work real) → Ok w → needs w.files c p ≡ true → Ok (with_files real t w (put_entry w.files c p hole))
  good_hole c p w g n = good_holed w c p (with_files real t w (put_entry w.files c p hole)) refl refl refl (ap is_stored (needs_unmapped w.files c p n)) g

  -- A BLOCK TAKEN
  module _ (w : Work real) (g : Ok w) (room : 0 < free_blocks w.memory) where
    abbrev b₂ : ℕ
    b₂ = (take_block w.memory).0

    abbrev m₂ : Memory
    m₂ = (take_block w.memory).1

    not_used : Used w.memory b₂ → ⊥
    not_used u = true≢false (sym u.bit ∙ take_unused w.memory g.next room)

    taken_used : Used m₂ b₂
    taken_used = record {
      bit = ap (λ (y : ℕ → Bool). y b₂) (take_bits w.memory) ∙ upd_same w.memory.bits b₂ true;
      below = rw (take_blocks w.memory) (take_below w.memory g.next room);
    }

    still_used : (b : ℕ) → Used w.memory b → Used m₂ b
    still_used b u = record {
      bit = ap (λ (y : ℕ → Bool). y b) (take_bits w.memory) ∙ same? b₂ b
          (λ e. subst (λ x. upd w.memory.bits b₂ true x ≡ true) e (upd_same w.memory.bits b₂ true))
          (λ e. upd_other w.memory.bits b₂ true b e ∙ u.bit);
      below = rw (take_blocks w.memory) u.below;
    }

    was_used : (b : ℕ) → m₂.bits b ≡ true → (w.memory.bits b ≡ true) ⊎ (b ≡ b₂)
    was_used b h = same? b₂ b (λ e. inr (sym e)) (λ n. inl (sym (upd_other w.memory.bits b₂ true b n) ∙ sym (ap (λ (y : ℕ → Bool). y b) (take_bits w.memory)) ∙ h))

    taken_in : PagesIn m₂
    taken_in b i o = ap (λ (y : PageData). y i) (take_pages w.memory b) ∙ g.pages_in b i (⊎_elim inl (λ l. inr (rw take_blocks at l)) o)

    good_take : (p : ℕ) → is_stored ((w.files s).map p) ≡ false → is_stored (w.pending p) ≡ false → Ok (take_own real t p w)
    unfolding take_own
    good_take p n o = good_more t s m₀ Outer w (take_own real t p w) s p b₂ g (record {
      next = take_next w.memory g.next room;
      blocks = take_blocks w.memory;
      pages_in = taken_in;
      tidy = g.tidy;
      new = taken_used;
      old = still_used;
      bits = was_used;
      named = named;
      still = still;
      there = record { pending = true; set = s; page = p; names = upd_same w.pending p (stored b₂) };
      sole = λ h x q a. absurd (not_used (g.used h x q b₂ a));
      alone = alone;
      inner = λ o. not_used (g.outer b₂ o);
      pages = λ b o. take_pages w.memory b;
    })
      where
        named : (h : Bool) (x q b : ℕ) → at (take_own real t p w) h x q ≡ stored b → (at w h x q ≡ stored b) ⊎ ((b ≡ b₂) × (slot t s m₀ Outer h x ≡ s) × (q ≡ p))
        named false x q b a = inl a
        named true x q b a = ⊎_elim inl (λ e. inr (e.0, refl, e.1)) (upd_named w.pending p b₂ q b a)

        still : (h : Bool) (x q b : ℕ) → at w h x q ≡ stored b → at (take_own real t p w) h x q ≡ stored b
        still false x q b a = a
        still true x q b a = upd_other w.pending p (stored b₂) q (λ e. not_stored (w.pending p) b o (ap w.pending e ∙ a)) ∙ a

        alone : (h : Bool) (x q b : ℕ) → at w h x q ≡ stored b → slot t s m₀ Outer h x ≡ s → q ≡ p → b ≡ b₂
        alone false x q b a y z = absurd (not_stored ((w.files s).map p) b n (subst₂ (λ i j. (w.files i).map j ≡ stored b) y z a))
        alone true x q b a y z = absurd (not_stored (w.pending p) b o (ap w.pending (sym z) ∙ a))

    good_copy : (b : ℕ) (c p : ℕ) → needs w.files c p ≡ true → (s ≡ c → ⊥) → resolve t w.files s p ≡ stored b → Ok (copy real t b c p w)
    unfolding copy
    good_copy b' c p n k r = good_more t s m₀ Outer w (copy real t b' c p w) c p b₂ g (record {
      next = take_next w.memory g.next room;
      blocks = take_blocks w.memory;
      pages_in = put_in m₂ b₂ (m₂.pages b') taken_in taken_used.below (λ i l. taken_in b' i (inl l));
      tidy = tidy_put t s w.files g.tidy c p b₂ (let z = resolve_named t w.files s p b' r in g.tidy.low z.0 p b' z.1)
          (λ _. live_present (w.files c).state (needs_alive w.files c p n));
      new = record { bit = taken_used.bit; below = taken_used.below };
      old = λ b u. record { bit = (still_used b u).bit; below = (still_used b u).below };
      bits = was_used;
      named = named;
      still = still;
      there = record { pending = false; set = c; page = p; names = put_entry_ent w.files c p (stored b₂) };
      sole = λ h x q a. absurd (not_used (g.used h x q b₂ a));
      alone = alone;
      inner = λ o. not_used (g.outer b₂ o);
      pages = λ b o. upd_other _ b₂ _ b (λ e. not_used (subst (Used w.memory) (sym e) (g.outer b o))) ∙ take_pages w.memory b;
    })
      where
        free_there : (b : ℕ) → (w.files c).map p ≡ stored b → ⊥
        free_there b = not_stored ((w.files c).map p) b (ap is_stored (needs_unmapped w.files c p n))

        named : (h : Bool) (x q b : ℕ) → at (copy real t b' c p w) h x q ≡ stored b → (at w h x q ≡ stored b) ⊎ ((b ≡ b₂) × (slot t s m₀ Outer h x ≡ c) × (q ≡ p))
        named false x q b a = put_entry_named w.files c p b₂ x q b a
        named true x q b a = inl a

        still : (h : Bool) (x q b : ℕ) → at w h x q ≡ stored b → at (copy real t b' c p w) h x q ≡ stored b
        still false x q b a = put_entry_still w.files c p b₂ x q b (λ j e. absurd (free_there j e)) a
        still true x q b a = a

        alone : (h : Bool) (x q b : ℕ) → at w h x q ≡ stored b → slot t s m₀ Outer h x ≡ c → q ≡ p → b ≡ b₂
        alone false x q b a y z = absurd (free_there b (subst₂ (λ i j. (w.files i).map j ≡ stored b) y z a))
        alone true x q b a y z = absurd (k y)

  good_reserve : (p : ℕ) (w : Work real) → Ok w → is_stored (w.pending p) ≡ false → (is_stored ((w.files s).map p) ≡ false → 0 < free_blocks w.memory) → Ok (reserve real t s p w)
  unfolding reserve reserve_as
  good_reserve p w g o f = go ((w.files s).map p) refl
    where
      go : (e : Entry ℕ) → (w.files s).map p ≡ e → Ok (reserve_as real t e p w)
      go unmapped e = good_take w g (f (ap is_stored e)) p (ap is_stored e) o
      go hole e = good_take w g (f (ap is_stored e)) p (ap is_stored e) o
      go (stored b) e = good_more t s m₀ Outer w (reserve_as real t (stored b) p w) s p b g (record {
        next = g.next;
        blocks = refl;
        pages_in = g.pages_in;
        tidy = g.tidy;
        new = g.used false s p b e;
        old = λ b u. u;
        bits = λ b h. inl h;
        named = named;
        still = still;
        there = record { pending = true; set = s; page = p; names = upd_same w.pending p (stored b) };
        sole = λ h x q a. g.apart h false x s q p b a e;
        alone = alone;
        inner = λ o. g.outer_not b o false s p e;
        pages = λ b o. refl;
      })
        where
          named : (h : Bool) (x q b' : ℕ) → at (reserve_as real t (stored b) p w) h x q ≡ stored b' → (at w h x q ≡ stored b') ⊎ ((b' ≡ b) × (slot t s m₀ Outer h x ≡ s) × (q ≡ p))
          named false x q b' a = inl a
          named true x q b' a = ⊎_elim inl (λ e. inr (e.0, refl, e.1)) (upd_named w.pending p b q b' a)

          still : (h : Bool) (x q b' : ℕ) → at w h x q ≡ stored b' → at (reserve_as real t (stored b) p w) h x q ≡ stored b'
          still false x q b' a = a
          still true x q b' a = upd_other w.pending p (stored b) q (λ e. not_stored (w.pending p) b' o (ap w.pending e ∙ a)) ∙ a

          alone : (h : Bool) (x q b' : ℕ) → at w h x q ≡ stored b' → slot t s m₀ Outer h x ≡ s → q ≡ p → b' ≡ b
          alone h x q b' a y z = g.one h false x s q b' b a (subst (λ j. (w.files s).map j ≡ stored b) (sym z) e) y

  -- A PENDING BLOCK ENTERS
  good_enter : (p b : ℕ) (v : PageData) (w : Work real) → Ok w → p < 64 → ShortPage v → w.pending p ≡ stored b → Ok (enter_as real t (stored b) s p v w)
  unfolding enter_as
  good_enter p b v w g l o e = good_more t s m₀ Outer w (enter_as real t (stored b) s p v w) s p b g (record {
    next = g.next;
    blocks = refl;
    pages_in = put_in w.memory b v g.pages_in (g.used true s p b e).below o;
    tidy = tidy_put t s w.files g.tidy s p b l (λ n. absurd (n refl));
    new = record { bit = (g.used true s p b e).bit; below = (g.used true s p b e).below };
    old = λ b u. record { bit = u.bit; below = u.below };
    bits = λ b h. inl h;
    named = named;
    still = still;
    there = record { pending = false; set = s; page = p; names = put_entry_ent w.files s p (stored b) };
    sole = λ h x q a. g.apart h true x s q p b a e;
    alone = alone;
    inner = λ o. g.outer_not b o true s p e;
    pages = λ b' o. upd_other w.memory.pages b v b' (λ d. g.outer_not b' o true s p (e ∙ ap stored d));
  })
    where
      named : (h : Bool) (x q b' : ℕ) → at (enter_as real t (stored b) s p v w) h x q ≡ stored b' → (at w h x q ≡ stored b') ⊎ ((b' ≡ b) × (slot t s m₀ Outer h x ≡ s) × (q ≡ p))
      named false x q b' a = put_entry_named w.files s p b x q b' a
      named true x q b' a = inl a

      still : (h : Bool) (x q b' : ℕ) → at w h x q ≡ stored b' → at (enter_as real t (stored b) s p v w) h x q ≡ stored b'
      still false x q b' a = put_entry_still w.files s p b x q b' (λ j d. g.one false true s s p j b d e refl) a
      still true x q b' a = a

      alone : (h : Bool) (x q b' : ℕ) → at w h x q ≡ stored b' → slot t s m₀ Outer h x ≡ s → q ≡ p → b' ≡ b
      alone h x q b' a y z = g.one h true x s q b' b a (ap w.pending z ∙ e) y

  -- A BLOCK MOVES from the map of set s to that of set c
  module _ (b c p : ℕ) (w : Work real) (g : Ok w) (n : needs w.files c p ≡ true) (k : s ≡ c → ⊥) (e : (w.files s).map p ≡ stored b) (o : is_stored (w.pending p) ≡ false) where
    moving : Work real
    moving = with_files real t w (put_entry w.files c p (stored b))

    abbrev moved : Work real
    moved = with_files real t w (put_entry (put_entry w.files c p (stored b)) s p hole)

    empty : (j : ℕ) → (w.files c).map p ≡ stored j → ⊥
    empty j = not_stored ((w.files c).map p) j (ap is_stored (needs_unmapped w.files c p n))

    -- an entry afterwards was there before, or is the one that moved
    which : (h : Bool) (x q j : ℕ) → at moved h x q ≡ stored j → (at w h x q ≡ stored j) ⊎ ((j ≡ b) × (h ≡ false) × (x ≡ c) × (q ≡ p))
    unfolding moving
    which true x q j a = inl a
    which false x q j a = ⊎_elim inl (λ z. inr (z.0, refl, z.1, z.2)) (put_entry_named w.files c p b x q j (hole_less moving s p x q j a))

    before : (h : Bool) (x q j : ℕ) → at moved h x q ≡ stored j → Place w j
    before h x q j a =
        ⊎_elim (λ z. record { pending = h; set = x; page = q; names = z }) (λ z. record { pending = false; set = s; page = p; names = e ∙ ap stored (sym z.0) }) (which h x q j a)

    -- nobody else names the block
    lost : (h : Bool) (x q : ℕ) → at moved h x q ≡ stored b → at w h x q ≡ stored b → ⊥
    lost true x q a z = not_stored (w.pending p) b o (ap w.pending (sym (g.apart true false x s q p b z e).1) ∙ z)
    lost false x q a z =
        let y = g.apart false false x s q p b z e in
        let d : (moved.files s).map p ≡ stored b = subst₂ (λ i j. (moved.files i).map j ≡ stored b) y.0 y.1 a in
        let f : ◌≡◌ {A = ℕ} 0 1 = cc (put_entry_ent (put_entry w.files c p (stored b)) s p hole) in omega arith

    still : (h : Bool) (x q j : ℕ) → (b ≡ j → ⊥) → at w h x q ≡ stored j → at moved h x q ≡ stored j
    unfolding moving
    still true x q j d a = a
    still false x q j d a =
        hole_more moving s p x q j (put_entry_still w.files c p b x q j (λ i z. absurd (empty i z)) a)
        (λ z. d (let y : (w.files s).map p ≡ stored j = ap (λ (f : File ℕ). f.map p) (sym (put_entry_other w.files c p (stored b) s (λ i. k (sym i)))) ∙ z in let f : b ≡ j = cc in f))

    here : Place moved b
    here = record {
      pending = false;
      set = c;
      page = p;
      names = ap (λ (f : File ℕ). f.map p) (put_entry_other (put_entry w.files c p (stored b)) s p hole c k) ∙ put_entry_ent w.files c p (stored b);
    }

    apart_moved : (h h' : Bool) (x x' q q' j : ℕ) → at moved h x q ≡ stored j → at moved h' x' q' ≡ stored j → (slot t s m₀ Outer h x ≡ slot t s m₀ Outer h' x') × (q ≡ q')
    apart_moved h h' x x' q q' j a a' =
        ⊎_elim
        (λ z. ⊎_elim (λ z'. g.apart h h' x x' q q' j z z') (λ z'. absurd (lost h x q (a ∙ ap stored z'.0) (z ∙ ap stored z'.0))) (which h' x' q' j a'))
        (λ z. ⊎_elim (λ z'. absurd (lost h' x' q' (a' ∙ ap stored z.0) (z' ∙ ap stored z.0)))
        (λ z'. (at_c h x z ∙ sym (at_c h' x' z'), z.3 ∙ sym z'.3)) (which h' x' q' j a'))
        (which h x q j a)
      where
        at_c : {i l : ℕ} (h : Bool) (x : ℕ) → (i ≡ b) × (h ≡ false) × (x ≡ c) × (l ≡ p) → slot t s m₀ Outer h x ≡ c
        at_c h x z = rw z.1 z.2

    -- the place was empty
    filled : (h : Bool) (x q j : ℕ) → at w h x q ≡ stored j → slot t s m₀ Outer h x ≡ c → q ≡ p → ⊥
    filled true x q j a d f = k d
    filled false x q j a d f = empty j (subst₂ (λ i l. (w.files i).map l ≡ stored j) d f a)

    one_moved : (h h' : Bool) (x x' q j j' : ℕ) → at moved h x q ≡ stored j → at moved h' x' q ≡ stored j' → slot t s m₀ Outer h x ≡ slot t s m₀ Outer h' x' → j ≡ j'
    one_moved h h' x x' q j j' a a' d =
        ⊎_elim
        (λ z. ⊎_elim (λ z'. g.one h h' x x' q j j' z z' d) (λ z'. absurd (filled h x q j z (d ∙ at_c h' x' z') z'.3)) (which h' x' q j' a'))
        (λ z. ⊎_elim (λ z'. absurd (filled h' x' q j' z' (sym d ∙ at_c h x z) z.3)) (λ z'. z.0 ∙ sym z'.0) (which h' x' q j' a'))
        (which h x q j a)
      where
        at_c : {i l : ℕ} (h : Bool) (x : ℕ) → (i ≡ b) × (h ≡ false) × (x ≡ c) × (l ≡ p) → slot t s m₀ Outer h x ≡ c
        at_c h x z = rw z.1 z.2

    good_moved : Ok moved
    unfolding moving
    good_moved = record {
      next = g.next;
      blocks = g.blocks;
      pages_in = g.pages_in;
      tidy = hole_tidy moving s p (tidy_put t s w.files g.tidy c p b (g.tidy.low s p b e) (λ _. live_present (w.files c).state (needs_alive w.files c p n)));
      used = λ h x q j a. let z = before h x q j a in g.used z.pending z.set z.page j z.names;
      apart = apart_moved;
      one = one_moved;
      only = λ j u. ⊎_elim inl
          (λ l. inr (same? b j (λ d. subst (Place moved) d here) (λ d. record { pending = l.pending; set = l.set; page = l.page; names = still l.pending l.set l.page j d l.names })))
          (g.only j u);
      outer = g.outer;
      outer_not = λ j u h x q a. let z = before h x q j a in g.outer_not j u z.pending z.set z.page z.names;
      outer_page = g.outer_page;
    }

    good_hand : Ok (hand_over real t s p c w)
    unfolding hand_over
    good_hand = rw e good_moved

  -- A BLOCK FREE AGAIN
  good_drop : (y p : ℕ) (w : Work real) → Ok w → (s ≡ y → is_stored (w.pending p) ≡ false) → Ok (drop_page real t y p w)
  unfolding drop_page free_entry
  good_drop y p w g n = go ((w.files y).map p) refl
    where
      w' : Entry ℕ → Work real
      w' e = record { memory = free_entry real e w.memory; files = put_entry w.files y p hole; pending = w.pending; taken = w.taken; copies = w.copies; marks = w.marks }

      less : (e : Entry ℕ) (h : Bool) (x q b : ℕ) → at (w' e) h x q ≡ stored b → at w h x q ≡ stored b
      less e true x q b a = a
      less e false x q b a = hole_less w y p x q b a

      more : (e : Entry ℕ) (h : Bool) (x q b : ℕ) → ((w.files y).map p ≡ stored b → ⊥) → at w h x q ≡ stored b → at (w' e) h x q ≡ stored b
      more e true x q b n a = a
      more e false x q b n a = hole_more w y p x q b a n

      -- nobody else names the block
      nobody : (b : ℕ) → (w.files y).map p ≡ stored b → (h : Bool) (x q : ℕ) → at (w' (stored b)) h x q ≡ stored b → ⊥
      nobody b e true x q a = let z = g.apart true false x y q p b a e in not_stored (w.pending p) b (n z.0) (ap w.pending (sym z.1) ∙ a)
      nobody b e false x q a =
          let z = g.apart false false x y q p b (hole_less w y p x q b a) e in
          let r : (put_entry w.files y p hole y).map p ≡ stored b = subst₂ (λ i j. (put_entry w.files y p hole i).map j ≡ stored b) z.0 z.1 a in
          let o : ◌≡◌ {A = ℕ} 0 1 = cc (r, put_entry_ent w.files y p hole) in omega arith

      still : (b b' : ℕ) → Used w.memory b' → (b ≡ b' → ⊥) → Used (free_entry real (stored b) w.memory) b'
      still b b' u d = record { bit = upd_other w.memory.bits b false b' d ∙ u.bit; below = u.below }

      go : (e : Entry ℕ) → (w.files y).map p ≡ e → Ok (w' e)
      go unmapped e = good_holed w y p (w' unmapped) refl refl refl (ap is_stored e) g
      go hole e = good_holed w y p (w' hole) refl refl refl (ap is_stored e) g
      go (stored b) e = record {
        next = g.next;
        blocks = g.blocks;
        pages_in = g.pages_in;
        tidy = hole_tidy w y p g.tidy;
        used = λ h x q b' a. still b b' (g.used h x q b' (less (stored b) h x q b' a)) (λ d. nobody b e h x q (a ∙ ap stored (sym d)));
        apart = λ h h' x x' q q' b' a a'. g.apart h h' x x' q q' b' (less (stored b) h x q b' a) (less (stored b) h' x' q' b' a');
        one = λ h h' x x' q b' b'' a a'. g.one h h' x x' q b' b'' (less (stored b) h x q b' a) (less (stored b) h' x' q b'' a');
        only = λ b' o. same? b b'
            (λ d. absurd (true≢false (sym o ∙ subst (λ y. upd w.memory.bits b false y ≡ false) d (upd_same w.memory.bits b false))))
            (λ d. ⊎_elim inl
            (λ l. inr (record { pending = l.pending; set = l.set; page = l.page; names = more (stored b) l.pending l.set l.page b' (λ z. d (let r : b ≡ b' = cc in r)) l.names }))
            (g.only b' (sym (upd_other w.memory.bits b false b' d) ∙ o)));
        outer = λ b' o. still b b' (g.outer b' o) (λ d. g.outer_not b' o false y p (e ∙ ap stored d));
        outer_not = λ b' o h x q a. g.outer_not b' o h x q (less (stored b) h x q b' a);
        outer_page = λ b' o. g.outer_page b' o;
      }

  drop_count : (y p : ℕ) (w : Work real) → Ok w → free_blocks (free_entry real ((w.files y).map p) w.memory) ≡ free_entry model (map_entry w.memory.pages ((w.files y).map p)) (free_blocks w.memory)
  unfolding free_entry free_blocks
  drop_count y p w g = go ((w.files y).map p) refl
    where
      go : (e : Entry ℕ) → (w.files y).map p ≡ e → free_blocks (free_entry real e w.memory) ≡ free_entry model (map_entry w.memory.pages e) (free_blocks w.memory)
      go unmapped e = refl
      go hole e = refl
      go (stored b) e =
          let u = g.used false y p b e in
          let c = count_less w.memory.blocks (λ x. not (upd w.memory.bits b false x)) (λ x. not (w.memory.bits x)) b u.below
          (ap not (upd_same w.memory.bits b false)) (ap not u.bit) (λ x n. ap not (sym (upd_other w.memory.bits b false x n))) in
          omega arith

  -- THE BLOCKS OF SETS FREE AGAIN, page by page
  abbrev drop_set : ℕ → Work real → Work real
  drop_set x w = each (drop_page real t x) (from 0 64) w

  abbrev drop_sets : (ℕ → Bool) → List ℕ → Work real → Work real
  drop_sets passes xs w = each (λ x v. cond (passes x) (drop_set x v) v) xs w

  module _ (x : ℕ) (n : s ≡ x → ⊥) where
    good_set : (ps : List ℕ) (w : Work real) → Ok w → Ok (each (drop_page real t x) ps w)
    good_set ps w g = each_inv (drop_page real t x) Ok ps (λ p v m i. good_drop x p v i (λ e. absurd (n e))) w g

    count_set : (ps : List ℕ) → NoDup ps → (w : Work real) → Ok w →
        free_blocks (each (drop_page real t x) ps w).memory ≡ each (λ p. free_entry model (map_entry w.memory.pages ((w.files x).map p))) ps (free_blocks w.memory)
    unfolding each drop_page
    count_set [] d w g = refl
    count_set (q ∷ qs) d w g =
        count_set qs d.1 (drop_page real t x q w) (good_drop x q w g (λ e. absurd (n e)))
        ∙ each_same (λ p. free_entry model (map_entry (free_entry real ((w.files x).map q) w.memory).pages ((put_entry w.files x q hole x).map p))) (λ p. free_entry model (map_entry w.memory.pages ((w.files x).map p))) qs
        (λ p m l. ap₂ (λ (pg : ℕ → PageData) e. free_entry model (map_entry pg e) m) (fun_ext (drop_pages ((w.files x).map q) w.memory)) (put_entry_page w.files x q hole x p (λ e. d.0 (subst (λ y. Memᴰ y qs) (sym e) l)))) _
        ∙ ap (each (λ p. free_entry model (map_entry w.memory.pages ((w.files x).map p))) qs) (drop_count x q w g)

    set_pages : (ps : List ℕ) (w : Work real) (b : ℕ) → (each (drop_page real t x) ps w).memory.pages b ≡ w.memory.pages b
    unfolding drop_page
    set_pages ps w b = each_inv (drop_page real t x) (λ v. v.memory.pages b ≡ w.memory.pages b) ps (λ p v m i. drop_pages ((v.files x).map p) v.memory b ∙ i) w refl

  -- what is left of the files: a set that does not pass is as it was, one that does has nothing stored
  record SetsDropped (passes : ℕ → Bool) (xs : List ℕ) (w v : Work real) : Type 0 where
    pending : v.pending ≡ w.pending
    counts : (v.taken ≡ w.taken) × (v.copies ≡ w.copies) × (v.marks ≡ w.marks)
    other : (x : ℕ) → (Memᴰ x xs → ⊥) → v.files x ≡ w.files x
    idle : (x : ℕ) → passes x ≡ false → v.files x ≡ w.files x

  module _ (passes : ℕ → Bool) where
    one_dropped : (x : ℕ) (xs : List ℕ) → Memᴰ x xs → (w : Work real) → SetsDropped passes xs w (cond (passes x) (drop_set x w) w)
    one_dropped x xs m w =
        test? {P = SetsDropped passes xs w (cond (passes x) (drop_set x w) w)} (passes x)
        (λ e. let d = drops real t x (from 0 64) w in rw e (record {
          pending = d.pending;
          counts = d.counts;
          other = λ y o. d.other_sets y (λ q. o (subst (λ z. Memᴰ z xs) q m));
          idle = λ y f. d.other_sets y (λ q. true≢false (sym e ∙ ap passes q ∙ f));
        }))
        (λ e. rw e (record { pending = refl; counts = (refl, refl, refl); other = λ y o. refl; idle = λ y f. refl }))

    sets_dropped : (xs : List ℕ) (w : Work real) → SetsDropped passes xs w (drop_sets passes xs w)
    sets_dropped xs w =
        each_inv (λ x v. cond (passes x) (drop_set x v) v) (SetsDropped passes xs w) xs
        (λ x v m i. let d = one_dropped x xs m v in record {
          pending = d.pending ∙ i.pending;
          counts = (d.counts.0 ∙ i.counts.0, d.counts.1 ∙ i.counts.1, d.counts.2 ∙ i.counts.2);
          other = λ y o. d.other y o ∙ i.other y o;
          idle = λ y f. d.idle y f ∙ i.idle y f;
        }) w (record { pending = refl; counts = (refl, refl, refl); other = λ y o. refl; idle = λ y f. refl })

    module _ (away : (x : ℕ) → passes x ≡ true → s ≡ x → ⊥) where
      good_sets : (xs : List ℕ) (w : Work real) → Ok w → Ok (drop_sets passes xs w)
      good_sets xs w g =
          each_inv (λ x v. cond (passes x) (drop_set x v) v) Ok xs
          (λ x v m i. test? {P = Ok (cond (passes x) (drop_set x v) v)} (passes x) (λ e. rw e (good_set x (away x e) (from 0 64) v i)) (λ e. rw e i)) w g

      sets_memory : (xs : List ℕ) → NoDup xs → (w : Work real) → (drop_sets passes xs w).memory ≡ each (λ x m. cond (passes x) (free_map real (w.files x).map m) m) xs w.memory
      unfolding each free_map
      sets_memory [] d w = refl
      sets_memory (x ∷ xs) d w =
          sets_memory xs d.1 (cond (passes x) (drop_set x w) w)
          ∙ each_same (λ y m. cond (passes y) (free_map real ((cond (passes x) (drop_set x w) w).files y).map m) m) (λ y m. cond (passes y) (free_map real (w.files y).map m) m) xs
          (λ y m l. ap (λ (f : File ℕ). cond (passes y) (free_map real f.map m) m) ((one_dropped x (x ∷ []) (Memᴰ.head refl) w).other y (λ i. ⊎_elim (λ q. d.0 (subst (λ z. Memᴰ z xs) q l)) (λ i. elim i [ ]) (Memᴰ.cases_cons i)))) _
          ∙ ap (each (λ y m. cond (passes y) (free_map real (w.files y).map m) m) xs)
          (test? {P = (cond (passes x) (drop_set x w) w).memory ≡ cond (passes x) (free_map real (w.files x).map w.memory) w.memory} (passes x) (λ e. rw e (drops_memory real t x (from 0 64) (from_once 0 64) w)) (λ e. rw e))

      sets_count : (xs : List ℕ) → NoDup xs → (w : Work real) → Ok w → free_blocks (drop_sets passes xs w).memory ≡
          each (λ x m. cond (passes x) (free_map model (λ p. map_entry w.memory.pages ((w.files x).map p)) m) m) xs (free_blocks w.memory)
      unfolding each free_map
      sets_count [] d w g = refl
      sets_count (x ∷ xs) d w g =
          let v : Work real = cond (passes x) (drop_set x w) w in
          let gv : Ok v = test? {P = Ok (cond (passes x) (drop_set x w) w)} (passes x) (λ e. rw e (good_set x (away x e) (from 0 64) w g)) (λ e. rw e g) in
          let pg : v.memory.pages ≡ w.memory.pages = fun_ext (λ b. test? {P = (cond (passes x) (drop_set x w) w).memory.pages b ≡ w.memory.pages b} (passes x) (λ e. rw e (set_pages x (away x e) (from 0 64) w b)) (λ e. rw e)) in
          sets_count xs d.1 v gv
          ∙ each_same (λ y m. cond (passes y) (free_map model (λ p. map_entry v.memory.pages ((v.files y).map p)) m) m) (λ y m. cond (passes y) (free_map model (λ p. map_entry w.memory.pages ((w.files y).map p)) m) m) xs
          (λ y m l. ap₂ (λ (h : ℕ → PageData) (f : File ℕ). cond (passes y) (free_map model (λ p. map_entry h (f.map p)) m) m) pg
          ((one_dropped x (x ∷ []) (Memᴰ.head refl) w).other y (λ i. ⊎_elim (λ q. d.0 (subst (λ z. Memᴰ z xs) q l)) (λ i. elim i [ ]) (Memᴰ.cases_cons i)))) _
          ∙ ap (each (λ y m. cond (passes y) (free_map model (λ p. map_entry w.memory.pages ((w.files y).map p)) m) m) xs)
          (test? {P = free_blocks (cond (passes x) (drop_set x w) w).memory ≡ cond (passes x) (free_map model (λ p. map_entry w.memory.pages ((w.files x).map p)) (free_blocks w.memory)) (free_blocks w.memory)} (passes x)
          (λ e. rw e (count_set x (away x e) (from 0 64) (from_once 0 64) w g)) (λ e. rw e))

      sets_none : (xs : List ℕ) (w : Work real) → (x : ℕ) → Memᴰ x xs → passes x ≡ true → (p : ℕ) → p < 64 → is_stored (((drop_sets passes xs w).files x).map p) ≡ false
      unfolding drop_page
      sets_none xs w x m e p l =
          each_all (λ x v. cond (passes x) (drop_set x v) v) (λ v. Unit {0}) (λ x v. passes x ≡ true → is_stored ((v.files x).map p) ≡ false) xs (λ x v m i. tt)
          (λ x v m i e. rw e (ap is_stored (drops_hole real t x (from 0 64) v p (from_mem 0 64 p (omega arith) (omega arith)))))
          (λ x y v m i h e. test? {P = is_stored (((cond (passes y) (drop_set y v) v).files x).map p) ≡ false} (passes y)
          (λ f. rw f (same? y x (λ q. subst (λ z. is_stored (((drop_set y v).files z).map p) ≡ false) q (ap is_stored (drops_hole real t y (from 0 64) v p (from_mem 0 64 p (omega arith) (omega arith)))))
          (λ q. ap (λ (z : File ℕ). is_stored (z.map p)) ((drops real t y (from 0 64) v).other_sets x q) ∙ h e)))
          (λ f. rw f (h e))) w tt x m e

  -- MARKING
  module _ (ok : TreeOk t) (c p : ℕ) (w : Work real) (g : Ok w) (nd : needs w.files c p ≡ true) (kid : Memᴰ c (t.children s)) where
    abbrev passes : ℕ → Bool
    passes = reaches t w.files c

    alive : live (w.files c).state ≡ true
    alive = needs_alive w.files c p nd

    mark_away : (x : ℕ) → passes x ≡ true → s ≡ x → ⊥
    unfolding reaches
    mark_away x e q = true≢false (sym e ∙ ap passes (sym q) ∙ not_reached t ok w.files c (t.level s) s refl (omega (arith, ok.kid_lvl s c kid)))

    mark_below : (x : ℕ) → passes x ≡ true → x < 8
    mark_below x e = g.tidy.set_low x (mark_away x e) (live_present (w.files x).state (reached_live t w.files c alive x e))

    mark_count : free_blocks (free_sets real t passes w.files w.memory) ≡ free_sets model t passes (map_files w.memory.pages w.files) (free_blocks w.memory)
    unfolding free_sets
    mark_count = ap free_blocks (sym (sets_memory passes mark_away (from 0 8) (from_once 0 8) w)) ∙ sets_count passes mark_away (from 0 8) (from_once 0 8) w g

    good_mark : Ok (mark real t c w)
    unfolding mark free_sets
    good_mark =
        good_alike t s m₀ Outer (drop_sets passes (from 0 8) w) (mark real t c w) (sym (sets_memory passes mark_away (from 0 8) (from_once 0 8) w))
        (tidy_fewer t s w.files g.tidy (mark_down t w.files c) (λ x q b a. (was x q b a).1) (λ x o. mark_presence t w.files c alive x)) less more (good_sets passes mark_away (from 0 8) w g)
      where
        d : SetsDropped passes (from 0 8) w (drop_sets passes (from 0 8) w)
        d = sets_dropped passes (from 0 8) w

        was : (x q b : ℕ) → (mark_down t w.files c x).map q ≡ stored b → (passes x ≡ false) × ((w.files x).map q ≡ stored b)
        was x q b a =
            test? {P = (passes x ≡ false) × ((w.files x).map q ≡ stored b)} (passes x)
            (λ e. absurd (none_here b (sym (ap (λ (f : File ℕ). f.map q) (marked_by t w.files c x true e)) ∙ a)))
            (λ e. (e, sym (ap (λ (f : File ℕ). f.map q) (marked_by t w.files c x false e)) ∙ a))

        less : (h : Bool) (x q b : ℕ) → at (mark real t c w) h x q ≡ stored b → at (drop_sets passes (from 0 8) w) h x q ≡ stored b
        less true x q b a = ap (λ (y : ℕ → Entry ℕ). y q) d.pending ∙ a
        less false x q b a = let z = was x q b a in ap (λ (f : File ℕ). f.map q) (d.idle x z.0) ∙ z.1

        more : (h : Bool) (x q b : ℕ) → at (drop_sets passes (from 0 8) w) h x q ≡ stored b → at (mark real t c w) h x q ≡ stored b
        more true x q b a = ap (λ (y : ℕ → Entry ℕ). y q) (sym d.pending) ∙ a
        more false x q b a =
            test? {P = (mark_down t w.files c x).map q ≡ stored b} (passes x)
            (λ e. absurd (not_stored _ b (sets_none passes mark_away (from 0 8) w x (from_mem 0 8 x (omega arith) (omega (arith, mark_below x e))) e q ((good_sets passes mark_away (from 0 8) w g).tidy.low x q b a)) a))
            (λ e. ap (λ (f : File ℕ). f.map q) (marked_by t w.files c x false e ∙ sym (d.idle x e)) ∙ a)

  -- a file with nothing stored is absent
  good_absent : (w : Work real) → Ok w → ((p : ℕ) → is_stored (w.pending p) ≡ false) → ((p : ℕ) → p < 64 → is_stored ((w.files s).map p) ≡ false) → Ok (with_files real t w (upd w.files s absent_file))
  good_absent w g n o =
      good_alike t s m₀ Outer w (with_files real t w (upd w.files s absent_file)) refl
      (tidy_fewer t s w.files g.tidy (upd w.files s absent_file) gone (λ x d. ap (λ (f : File ℕ). is_absent f.state) (upd_other w.files s absent_file x d))) less more g
    where
      none : (p b : ℕ) → (w.files s).map p ≡ stored b → ⊥
      none p b a = not_stored ((w.files s).map p) b (o p (g.tidy.low s p b a)) a

      gone : (x p b : ℕ) → (upd w.files s absent_file x).map p ≡ stored b → (w.files x).map p ≡ stored b
      gone x p b a =
          same? s x (λ e. let z : (upd w.files s absent_file s).map p ≡ unmapped = ap (λ (f : File ℕ). f.map p) (upd_same w.files s absent_file) in cc)
          (λ d. ap (λ (f : File ℕ). f.map p) (sym (upd_other w.files s absent_file x d)) ∙ a)

      less : (h : Bool) (x p b : ℕ) → at (with_files real t w (upd w.files s absent_file)) h x p ≡ stored b → at w h x p ≡ stored b
      less true x p b a = a
      less false x p b a = gone x p b a

      more : (h : Bool) (x p b : ℕ) → at w h x p ≡ stored b → at (with_files real t w (upd w.files s absent_file)) h x p ≡ stored b
      more true x p b a = a
      more false x p b a = same? s x (λ e. absurd (none p b (ap (λ y. (w.files y).map p) e ∙ a))) (λ d. ap (λ (f : File ℕ). f.map p) (upd_other w.files s absent_file x d) ∙ a)

-- a block is seen as its bytes, the memory as its number of free blocks
abbrev pub pages_seen : Translation real model
pages_seen = record { block = λ m b. m.pages b; memory = free_blocks; page = λ x. x }

abbrev pub real_demands : Tree → ℕ → Memory → (ℕ → Type 0) → Demands real
real_demands t s m₀ Outer = record { Good = Good t s m₀ Outer; Kid = λ c. TreeOk t × Memᴰ c (t.children s); Whole = ShortPage }

not_kid : (t : Tree) (s c : ℕ) → TreeOk t × Memᴰ c (t.children s) → s ≡ c → ⊥
not_kid t s c k e = let z : t.level s ≡ t.level c = ap t.level e in omega (arith, k.0.kid_lvl s c k.1)

pub to_model : (t : Tree) (s : ℕ) (m₀ : Memory) (Outer : ℕ → Type 0) → Sim real model pages_seen (real_demands t s m₀ Outer) t s
unfolding free_blocks
to_model t s m₀ Outer = record {
  free = λ w g. refl;
  get = λ m b. refl;
  zeros = refl;
  over = λ off bs p x. refl;
  cut = λ n x. refl;
  whole_get = λ w g b i l. g.pages_in b i (inl l);
  whole_zeros = λ i l. refl;
  whole_over = overlay_short;
  whole_cut = zero_short;
  good_settle = good_settle t s m₀ Outer;
  good_mark = λ c p w g n k. good_mark t s m₀ Outer k.0 c p w g n k.1;
  mark_mem = λ c p w g n k. mark_count t s m₀ Outer k.0 c p w g n k.1;
  mark_old = free_sets_pages t;
  good_hole = good_hole t s m₀ Outer;
  good_resize = good_resize t s m₀ Outer;
  good_reserve = good_reserve t s m₀ Outer;
  take_free = λ w g f. take_count w.memory g.next f;
  take_mem = λ w g f. take_count w.memory g.next f;
  take_old = λ w g b. take_pages w.memory b;
  good_copy = λ b c p w g f n k r. good_copy t s m₀ Outer w g f b c p n (not_kid t s c k) r;
  copy_mem = λ b w g f. take_count w.memory g.next f;
  copy_new = λ b w g f. upd_same _ (take_block w.memory).0 _ ∙ take_pages w.memory b;
  copy_old = λ b w g f x q b' a.
      upd_other _ (take_block w.memory).0 _ b' (λ e. not_used t s m₀ Outer w g f (subst (Used w.memory) (sym e) (g.used false x q b' a))) ∙ take_pages w.memory b';
  good_hand = λ b c p w g n k e o. good_hand t s m₀ Outer b c p w g n (not_kid t s c k) e o;
  good_enter = good_enter t s m₀ Outer;
  enter_mem = λ b b' v w g. refl;
  enter_new = λ b b' v w g. upd_same w.memory.pages b v;
  enter_old = λ p b v w g h x q b' a n. upd_other w.memory.pages b v b' (λ e. let z = g.apart true false s x p q b h (a ∙ ap stored (sym e)) in n z.0 z.1);
  good_drop = λ p w g n. good_drop t s m₀ Outer s p w g (λ _. n);
  drop_mem = drop_count t s m₀ Outer s;
  drop_old = drop_pages;
  good_absent = good_absent t s m₀ Outer;
}
