-- What is kept of the work of a call on the store's own storage. The used blocks are just those that entries name, each by one entry only,
-- or that are pending for a page of the set worked on; pages are zero from byte 512 on and past the last block. Assumes nothing.
use mathlib.Core.Bool.{Bool, cond, false, true, true≢false}
use mathlib.Core.List.{List}
use mathlib.Core.Logic.{inl, inr, ◌⊎◌, ⊎_elim}
use mathlib.Core.Path.{ap, refl, subst, subst₂, sym, ◌∙◌, ◌≡◌}
use Prim.Native.Nat.{◌<◌, ℕ, ◌≤◌}
use native.Mathlib.Omega.{arith}
use lib.Dec.{ltb}
use borrow.Author.Tests.{le-ltb}
use Rattle.base.specs.Logic.{same?}
use Rattle.base.specs.Update.{upd, upd_other, upd_same}
use Rattle.rules.proofs.Steps.OneStep.{put_entry_ent, put_entry_other, put_entry_page}
use Rattle.rules.proofs.Blocks.Tidy.{Tidy}
use Rattle.rules.specs.Rules.{Work, put_entry}
use Rattle.rules.specs.State.{Entry, File, Files, Tree, is_stored, stored}
use Rattle.rules.specs.Storage.{PageData, Memory, overlay, real, zero_from}

pub record Used (m : Memory) (b : ℕ) : Type 0 where
  pub bit : m.bits b ≡ true
  pub below : b < m.blocks

-- a page is zero from byte 512 on; all pages are so, and those of blocks B and above are zero
abbrev pub ShortPage : PageData → Type 0
ShortPage v = (i : ℕ) → 512 ≤ i → v i ≡ 0

abbrev pub PagesIn : Memory → Type 0
PagesIn m = (b i : ℕ) → (512 ≤ i) ⊎ (m.blocks ≤ b) → m.pages b i ≡ 0

pub put_in : (m : Memory) (b : ℕ) (v : PageData) → PagesIn m → b < m.blocks → ShortPage v → (b' i : ℕ) → (512 ≤ i) ⊎ (m.blocks ≤ b') → upd m.pages b v b' i ≡ 0
put_in m b v g l h b' i o =
    same? b b'
    (λ e. subst (λ y. (512 ≤ i) ⊎ (m.blocks ≤ y) → upd m.pages b v y i ≡ 0) e
    (λ o. ap (λ (f : PageData). f i) (upd_same m.pages b v) ∙ ⊎_elim (h i) (λ k. absurd (omega arith)) o) o)
    (λ n. ap (λ (f : PageData). f i) (upd_other m.pages b v b' n) ∙ g b' i o)

pub overlay_short : (off : ℕ) (bs : List ℕ) (p : ℕ) (v : PageData) → ShortPage v → ShortPage (overlay off bs p v)
unfolding overlay
overlay_short off bs p v h i l = rw (le-ltb i 512 l) (h i l)

pub zero_short : (n : ℕ) (v : PageData) → ShortPage v → ShortPage (zero_from n v)
unfolding zero_from
zero_short n v h i l = go (ltb i n)
  where
    go : (b : Bool) → cond b (v i) 0 ≡ 0
    go true = h i l
    go false = refl

-- who names a block after one change
pub put_entry_named : (files : Files ℕ) (c p b₂ x q b : ℕ) → (put_entry files c p (stored b₂) x).map q ≡ stored b → ((files x).map q ≡ stored b) ⊎ ((b ≡ b₂) × (x ≡ c) × (q ≡ p))
put_entry_named files c p b₂ x q b a =
    same? p q
    (λ e. same? c x
    (λ d. let z : (put_entry files c p (stored b₂) c).map p ≡ stored b₂ = put_entry_ent files c p (stored b₂) in inr (cc, sym d, sym e))
    (λ d. inl (ap (λ (f : File ℕ). f.map q) (sym (put_entry_other files c p (stored b₂) x d)) ∙ a)))
    (λ e. inl (sym (put_entry_page files c p (stored b₂) x q e) ∙ a))

pub put_entry_still : (files : Files ℕ) (c p b₂ x q b : ℕ) → ((k : ℕ) → (files c).map p ≡ stored k → k ≡ b₂) → (files x).map q ≡ stored b → (put_entry files c p (stored b₂) x).map q ≡ stored b
put_entry_still files c p b₂ x q b h a =
    same? p q
    (λ e. same? c x
    (λ d. subst₂ (λ y z. (files y).map z ≡ stored b → (put_entry files c p (stored b₂) y).map z ≡ stored b) d e (λ a. put_entry_ent files c p (stored b₂) ∙ ap stored (sym (h b a))) a)
    (λ d. ap (λ (f : File ℕ). f.map q) (put_entry_other files c p (stored b₂) x d) ∙ a))
    (λ e. put_entry_page files c p (stored b₂) x q e ∙ a)

pub upd_named : (pending : ℕ → Entry ℕ) (p b₂ q b : ℕ) → upd pending p (stored b₂) q ≡ stored b → (pending q ≡ stored b) ⊎ ((b ≡ b₂) × (q ≡ p))
upd_named pending p b₂ q b a =
    same? p q (λ e. let z : upd pending p (stored b₂) p ≡ stored b₂ = upd_same pending p (stored b₂) in inr (cc, sym e)) (λ e. inl (sym (upd_other pending p (stored b₂) q e) ∙ a))

pub not_stored : (e : Entry ℕ) (b : ℕ) → is_stored e ≡ false → e ≡ stored b → ⊥
not_stored e b h a = true≢false (sym (ap is_stored a) ∙ h)

-- the entries, and those pending
abbrev pub at : Work real → Bool → ℕ → ℕ → Entry ℕ
at w false x p = (w.files x).map p
at w true x p = w.pending p

pub record Place (w : Work real) (b : ℕ) : Type 0 where
  pub pending : Bool
  pub set : ℕ
  pub page : ℕ
  pub names : at w pending set page ≡ stored b

-- Outer are the blocks of the files of other numbers, m₀ is the memory at the start; a pending block is for set s.
module _ (t : Tree) (s : ℕ) (m₀ : Memory) (Outer : ℕ → Type 0) where
  abbrev pub slot : Bool → ℕ → ℕ
  slot false x = x
  slot true x = s

  pub record Good (w : Work real) : Type 0 where
    pub next : w.memory.next < w.memory.blocks
    pub blocks : w.memory.blocks ≡ m₀.blocks
    pub pages_in : PagesIn w.memory
    pub tidy : Tidy t s w.files
    -- a named block is used, a block has one place, a place one block, and a used block is named
    pub used : (h : Bool) (x p b : ℕ) → at w h x p ≡ stored b → Used w.memory b
    pub apart : (h h' : Bool) (x x' p p' b : ℕ) → at w h x p ≡ stored b → at w h' x' p' ≡ stored b → (slot h x ≡ slot h' x') × (p ≡ p')
    pub one : (h h' : Bool) (x x' p b b' : ℕ) → at w h x p ≡ stored b → at w h' x' p ≡ stored b' → slot h x ≡ slot h' x' → b ≡ b'
    pub only : (b : ℕ) → w.memory.bits b ≡ true → (Outer b) ⊎ (Place w b)
    -- the other files' blocks
    pub outer : (b : ℕ) → Outer b → Used w.memory b
    pub outer_not : (b : ℕ) → Outer b → (h : Bool) (x p : ℕ) → at w h x p ≡ stored b → ⊥
    pub outer_page : (b : ℕ) → Outer b → w.memory.pages b ≡ m₀.pages b

  -- the same blocks are named at the same places
  pub good_alike : (w w' : Work real) → w'.memory ≡ w.memory → Tidy t s w'.files → ((h : Bool) (x p b : ℕ) → at w' h x p ≡ stored b → at w h x p ≡ stored b) →
      ((h : Bool) (x p b : ℕ) → at w h x p ≡ stored b → at w' h x p ≡ stored b) → Good w → Good w'
  good_alike w w' e k f f' g = record {
    next = rw e g.next;
    blocks = ap (λ (m : Memory). m.blocks) e ∙ g.blocks;
    pages_in = rw e g.pages_in;
    tidy = k;
    used = λ h x p b a. rw e (g.used h x p b (f h x p b a));
    apart = λ h h' x x' p p' b a a'. g.apart h h' x x' p p' b (f h x p b a) (f h' x' p' b a');
    one = λ h h' x x' p b b' a a'. g.one h h' x x' p b b' (f h x p b a) (f h' x' p b' a');
    only = λ b o. ⊎_elim inl
        (λ l. inr (record { pending = l.pending; set = l.set; page = l.page; names = f' l.pending l.set l.page b l.names }))
        (g.only b (ap (λ (m : Memory). m.bits b) (sym e) ∙ o));
    outer = λ b o. rw e (g.outer b o);
    outer_not = λ b o h x p a. g.outer_not b o h x p (f h x p b a);
    outer_page = λ b o. ap (λ (m : Memory). m.pages b) e ∙ g.outer_page b o;
  }

  -- block b₂ is named at one more place, of slot x₀ and page p₀; it was named at that slot and page only, and none but it was named there
  pub record More (w w' : Work real) (x₀ p₀ b₂ : ℕ) : Type 0 where
    pub next : w'.memory.next < w'.memory.blocks
    pub blocks : w'.memory.blocks ≡ w.memory.blocks
    pub pages_in : PagesIn w'.memory
    pub tidy : Tidy t s w'.files
    pub new : Used w'.memory b₂
    pub old : (b : ℕ) → Used w.memory b → Used w'.memory b
    pub bits : (b : ℕ) → w'.memory.bits b ≡ true → (w.memory.bits b ≡ true) ⊎ (b ≡ b₂)
    pub named : (h : Bool) (x p b : ℕ) → at w' h x p ≡ stored b → (at w h x p ≡ stored b) ⊎ ((b ≡ b₂) × (slot h x ≡ x₀) × (p ≡ p₀))
    pub still : (h : Bool) (x p b : ℕ) → at w h x p ≡ stored b → at w' h x p ≡ stored b
    pub there : Place w' b₂
    pub sole : (h : Bool) (x p : ℕ) → at w h x p ≡ stored b₂ → (slot h x ≡ x₀) × (p ≡ p₀)
    pub alone : (h : Bool) (x p b : ℕ) → at w h x p ≡ stored b → slot h x ≡ x₀ → p ≡ p₀ → b ≡ b₂
    pub inner : Outer b₂ → ⊥
    pub pages : (b : ℕ) → Outer b → w'.memory.pages b ≡ w.memory.pages b

  pub good_more : (w w' : Work real) (x₀ p₀ b₂ : ℕ) → Good w → More w w' x₀ p₀ b₂ → Good w'
  good_more w w' x₀ p₀ b₂ g k = record {
    next = k.next;
    blocks = k.blocks ∙ g.blocks;
    pages_in = k.pages_in;
    tidy = k.tidy;
    used = λ h x p b a. ⊎_elim (λ a. k.old b (g.used h x p b a)) (λ e. subst (Used w'.memory) (sym e.0) k.new) (k.named h x p b a);
    apart = λ h h' x x' p p' b a a'.
        ⊎_elim
        (λ a. ⊎_elim
        (λ a'. g.apart h h' x x' p p' b a a')
        (λ e'. let q = k.sole h x p (a ∙ ap stored e'.0) in (q.0 ∙ sym e'.1, q.1 ∙ sym e'.2))
        (k.named h' x' p' b a'))
        (λ e. ⊎_elim
        (λ a'. let q = k.sole h' x' p' (a' ∙ ap stored e.0) in (e.1 ∙ sym q.0, e.2 ∙ sym q.1))
        (λ e'. (e.1 ∙ sym e'.1, e.2 ∙ sym e'.2))
        (k.named h' x' p' b a'))
        (k.named h x p b a);
    one = λ h h' x x' p b b' a a' q.
        ⊎_elim
        (λ a. ⊎_elim (λ a'. g.one h h' x x' p b b' a a' q) (λ e'. k.alone h x p b a (q ∙ e'.1) e'.2 ∙ sym e'.0) (k.named h' x' p b' a'))
        (λ e. ⊎_elim (λ a'. e.0 ∙ sym (k.alone h' x' p b' a' (sym q ∙ e.1) e.2)) (λ e'. e.0 ∙ sym e'.0) (k.named h' x' p b' a'))
        (k.named h x p b a);
    only = λ b o.
        ⊎_elim
        (λ o. ⊎_elim inl (λ l. inr (record { pending = l.pending; set = l.set; page = l.page; names = k.still l.pending l.set l.page b l.names })) (g.only b o))
        (λ e. inr (subst (Place w') (sym e) k.there))
        (k.bits b o);
    outer = λ b o. k.old b (g.outer b o);
    outer_not = λ b o h x p a. ⊎_elim (λ a. g.outer_not b o h x p a) (λ e. k.inner (subst Outer e.0 o)) (k.named h x p b a);
    outer_page = λ b o. k.pages b o ∙ g.outer_page b o;
  }
