-- What is kept of the store: the bitmap is exact, no block is named twice, entries name blocks only where they may, and pages are zero where nothing can be stored.
-- Each call keeps that. Assumes nothing.
use mathlib.Core.Bool.{Bool, false, true, true≢false}
use mathlib.Core.Logic.{inl, inr, ◌⊎◌, ⊎_elim}
use mathlib.Core.Path.{◌≡◌, ap, refl, subst, sym, ◌∙◌}
use Prim.Native.Nat.{◌<◌, ℕ}
use native.Mathlib.Omega.{arith}
use Rattle.base.specs.Logic.{same?}
use Rattle.base.specs.Update.{upd, upd_other, upd_same}
use Rattle.rules.proofs.Blocks.GoodWork.{Good, PagesIn, Place, Used, at, slot}
use Rattle.rules.proofs.Steps.Pending.{Finished}
use Rattle.rules.proofs.Steps.States.{stored_is}
use Rattle.rules.specs.Calls.{Store, begin, finish, tree_in}
use Rattle.rules.specs.Rules.{Work}
use Rattle.rules.specs.State.{Entry, Files, is_absent, is_stored, stored, unmapped}
use Rattle.rules.specs.Storage.{real}

-- an entry that names block b
pub record Named (r : Store real) (b : ℕ) : Type 0 where
  pub file : ℕ
  pub set : ℕ
  pub page : ℕ
  pub names : (r.files file set).map page ≡ stored b

-- where blocks are named: in files below 16, at pages below 64, in present files; those stand in used sets, below 8
pub record Placed (r : Store real) : Type 0 where
  pub file_low : (f s p b : ℕ) → (r.files f s).map p ≡ stored b → f < 16
  pub page_low : (f s p b : ℕ) → (r.files f s).map p ≡ stored b → p < 64
  pub present : (f s p b : ℕ) → (r.files f s).map p ≡ stored b → is_absent (r.files f s).state ≡ false
  pub lives : (f s : ℕ) → is_absent (r.files f s).state ≡ false → (r.sets s).used ≡ true
  pub set_low : (s : ℕ) → (r.sets s).used ≡ true → s < 8

-- THE BLOCKS: a named block is used and below B, no block is named twice, and a used block is named
pub record BlocksOk (r : Store real) : Type 0 where
  pub next : r.memory.next < r.memory.blocks
  pub used : (f s p b : ℕ) → (r.files f s).map p ≡ stored b → Used r.memory b
  pub apart : (f f' s s' p p' b : ℕ) → (r.files f s).map p ≡ stored b → (r.files f' s').map p' ≡ stored b → (f ≡ f') × (s ≡ s') × (p ≡ p')
  pub only : (b : ℕ) → r.memory.bits b ≡ true → Named r b
  pub placed : Placed r

-- THE PAGES: zero from byte 512 on, and for blocks B and above
abbrev pub PagesInside : Store real → Type 0
PagesInside r = PagesIn r.memory

-- what every call keeps of a store of B blocks
pub record RealKept (B : ℕ) (r : Store real) : Type 0 where
  pub blocks : r.memory.blocks ≡ B
  pub blocks_ok : BlocksOk r
  pub pages_in : PagesInside r

-- the blocks of the files of other numbers
pub record Outer (r : Store real) (f : ℕ) (b : ℕ) : Type 0 where
  pub file : ℕ
  pub set : ℕ
  pub page : ℕ
  pub other : f ≡ file → ⊥
  pub names : (r.files file set).map page ≡ stored b

pub none_stored : (b : ℕ) → ◌≡◌ {A = Entry ℕ} unmapped (stored b) → ⊥
none_stored b e = let z : ◌≡◌ {A = ℕ} 0 1 = cc in omega arith

-- A CALL ON FILE f BEGINS
module _ (r : Store real) (k : BlocksOk r) (pi : PagesInside r) (f s : ℕ) where
  pub good_begin : Good (tree_in real r) s r.memory (Outer r f) (begin real r f)
  good_begin = record {
    next = k.next;
    blocks = refl;
    pages_in = pi;
    tidy = record {
      low = λ x p b e. k.placed.page_low f x p b e;
      present = λ x p b n e. k.placed.present f x p b e;
      lives = λ x n e. k.placed.lives f x e;
      set_low = λ x n e. k.placed.set_low x (k.placed.lives f x e);
    };
    used = used;
    apart = apart;
    one = one;
    only = only;
    outer = λ b o. k.used o.file o.set o.page b o.names;
    outer_not = not_outer;
    outer_page = λ b o. refl;
  }
    where
      w : Work real
      w = begin real r f

      used : (h : Bool) (x p b : ℕ) → at w h x p ≡ stored b → Used r.memory b
      used false x p b e = k.used f x p b e
      used true x p b e = absurd (none_stored b e)

      apart : (h h' : Bool) (x x' p p' b : ℕ) → at w h x p ≡ stored b → at w h' x' p' ≡ stored b →
          (slot (tree_in real r) s r.memory (Outer r f) h x ≡ slot (tree_in real r) s r.memory (Outer r f) h' x') × (p ≡ p')
      apart true h' x x' p p' b e e' = absurd (none_stored b e)
      apart false true x x' p p' b e e' = absurd (none_stored b e')
      apart false false x x' p p' b e e' = let q = k.apart f f x x' p p' b e e' in (q.1, q.2)

      one : (h h' : Bool) (x x' p b b' : ℕ) → at w h x p ≡ stored b → at w h' x' p ≡ stored b' →
          slot (tree_in real r) s r.memory (Outer r f) h x ≡ slot (tree_in real r) s r.memory (Outer r f) h' x' → b ≡ b'
      one true h' x x' p b b' e e' q = absurd (none_stored b e)
      one false true x x' p b b' e e' q = absurd (none_stored b' e')
      one false false x x' p b b' e e' q = let z : (r.files f x).map p ≡ (r.files f x').map p = ap (λ y. (r.files f y).map p) q in cc

      only : (b : ℕ) → r.memory.bits b ≡ true → (Outer r f b) ⊎ (Place w b)
      only b o =
          let n = k.only b o in
          same? f n.file
          (λ e. inr (record { pending = false; set = n.set; page = n.page; names = ap (λ y. (r.files y n.set).map n.page) e ∙ n.names }))
          (λ e. inl (record { file = n.file; set = n.set; page = n.page; other = e; names = n.names }))

      not_outer : (b : ℕ) → Outer r f b → (h : Bool) (x p : ℕ) → at w h x p ≡ stored b → ⊥
      not_outer b o true x p e = none_stored b e
      not_outer b o false x p e = o.other (k.apart f o.file x o.set p o.page b e o.names).0

  begin_finished : Finished real s (begin real r f)
  begin_finished = record {
    entered = λ p h. absurd (true≢false (sym h));
    present = λ p h. let e = stored_is ((r.files f s).map p) h in k.placed.present f s p e.0 e.1;
  }

  -- IT ENDS
  module _ (w : Work real) (low : f < 16) (us : (r.sets s).used ≡ true) (g : Good (tree_in real r) s r.memory (Outer r f) w) (fin : Finished real s w) where
    abbrev after : ℕ → Files ℕ
    after = upd r.files f w.files

    whose : (j : ℕ) → ((f ≡ j) × (after j ≡ w.files)) ⊎ ((f ≡ j → ⊥) × (after j ≡ r.files j))
    whose j = same? f j (λ e. inl (e, ap after (sym e) ∙ upd_same r.files f w.files)) (λ n. inr (n, upd_other r.files f w.files j n))

    -- an entry after the call is one of the work, or of another file
    which : (j x p b : ℕ) → (after j x).map p ≡ stored b → ((f ≡ j) × ((w.files x).map p ≡ stored b)) ⊎ (Outer r f b × (f ≡ j → ⊥) × ((r.files j x).map p ≡ stored b))
    which j x p b e =
        ⊎_elim
        (λ i. inl (i.0, ap (λ (c : Files ℕ). (c x).map p) (sym i.1) ∙ e))
        (λ i. let e' = ap (λ (c : Files ℕ). (c x).map p) (sym i.1) ∙ e in inr (record { file = j; set = x; page = p; other = i.0; names = e' }, i.0, e'))
        (whose j)

    in_files : (b x p : ℕ) → (w.files x).map p ≡ stored b → Named (finish real r f w) b
    in_files b x p e = record { file = f; set = x; page = p; names = ap (λ (c : Files ℕ). (c x).map p) (upd_same r.files f w.files) ∙ e }

    -- a pending block is in the map
    in_map : (b : ℕ) (h : Bool) (x p : ℕ) → at w h x p ≡ stored b → Named (finish real r f w) b
    in_map b false x p e = in_files b x p e
    in_map b true x p e =
        let z = stored_is ((w.files s).map p) (fin.entered p (ap is_stored e)) in
        in_files b s p (z.1 ∙ ap stored (sym (g.one true false s s p b z.0 e z.1 refl)))

    finish_ok : BlocksOk (finish real r f w)
    finish_ok = record {
      next = g.next;
      used = λ j x p b e. ⊎_elim (λ i. g.used false x p b i.1) (λ i. g.outer b i.0) (which j x p b e);
      apart = λ j j' x x' p p' b e e'.
          ⊎_elim
          (λ i. ⊎_elim
          (λ i'. let z = g.apart false false x x' p p' b i.1 i'.1 in (sym i.0 ∙ i'.0, z.0, z.1))
          (λ i'. absurd (g.outer_not b i'.0 false x p i.1))
          (which j' x' p' b e'))
          (λ i. ⊎_elim
          (λ i'. absurd (g.outer_not b i.0 false x' p' i'.1))
          (λ i'. k.apart j j' x x' p p' b i.2 i'.2)
          (which j' x' p' b e'))
          (which j x p b e);
      only = λ b o.
          ⊎_elim
          (λ o. record { file = o.file; set = o.set; page = o.page; names = ap (λ (c : Files ℕ). (c o.set).map o.page) (upd_other r.files f w.files o.file o.other) ∙ o.names })
          (λ l. in_map b l.pending l.set l.page l.names)
          (g.only b o);
      placed = record {
        file_low = λ j x p b e. ⊎_elim (λ i. subst (λ y. y < 16) i.0 low) (λ i. k.placed.file_low j x p b i.2) (which j x p b e);
        page_low = λ j x p b e. ⊎_elim (λ i. g.tidy.low x p b i.1) (λ i. k.placed.page_low j x p b i.2) (which j x p b e);
        present = λ j x p b e.
            ⊎_elim
            (λ i. ap (λ (c : Files ℕ). is_absent (c x).state) (ap after (sym i.0) ∙ upd_same r.files f w.files) ∙ shown x p b i.1)
            (λ i. ap (λ (c : Files ℕ). is_absent (c x).state) (upd_other r.files f w.files j i.1) ∙ k.placed.present j x p b i.2)
            (which j x p b e);
        lives = λ j x e.
            ⊎_elim
            (λ i. same? s x (λ d. ap (λ y. (r.sets y).used) (sym d) ∙ us) (λ d. g.tidy.lives x d (ap (λ (c : Files ℕ). is_absent (c x).state) (sym i.1) ∙ e)))
            (λ i. k.placed.lives j x (ap (λ (c : Files ℕ). is_absent (c x).state) (sym i.1) ∙ e))
            (whose j);
        set_low = k.placed.set_low;
      };
    }
      where
        shown : (x p b : ℕ) → (w.files x).map p ≡ stored b → is_absent (w.files x).state ≡ false
        shown x p b e = same? s x
            (λ d. subst (λ y. (w.files y).map p ≡ stored b → is_absent (w.files y).state ≡ false) d (λ e. fin.present p (ap is_stored e)) e)
            (λ d. g.tidy.present x p b d e)

pub kept_finish : (B : ℕ) (r : Store real) (f s : ℕ) (w : Work real) → RealKept B r → f < 16 → (r.sets s).used ≡ true → Good (tree_in real r) s r.memory (Outer r f) w →
    (Finished real s (begin real r f) → Finished real s w) → RealKept B (finish real r f w)
kept_finish B r f s w k l u g d = record {
  blocks = g.blocks ∙ k.blocks;
  blocks_ok = finish_ok r k.blocks_ok k.pages_in f s w l u g (d (begin_finished r k.blocks_ok k.pages_in f s));
  pages_in = g.pages_in;
}
