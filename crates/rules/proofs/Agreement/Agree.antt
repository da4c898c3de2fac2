-- The plain store's files, and what it means that the model agrees with them. The write. Assumes nothing.
use mathlib.Core.Bool.{◌&&◌, Bool, cond, true}
use mathlib.Core.List.Memᴰ
use mathlib.Core.List.{◌++◌, List, Memᴰ, []}
use mathlib.Core.Logic.{⊎_elim}
use mathlib.Core.Option.{Option, some}
use mathlib.Core.Path.{ap, subst, sym, ◌∙◌, ◌≡◌}
use Prim.Native.Nat.{◌%◌, ◌+◌, ◌-◌, ◌/◌, ◌<◌, max, suc, zero, ℕ, ◌≤◌}
use native.Mathlib.Nat.{div-add-mod'}
use native.Mathlib.Omega.{arith}
use lib.Dec.{leb, ltb}
use lib.ListN.{get_or-append, get_or-eq_default, get_or, get_or-replicate, length, length-append, length-drop, length-replicate, length-take, replicate, take}
use lib.Seq.{get_or-append-add, get_or-drop, get_or-take}
use borrow.Author.Tests.{leb-false, leb-true, lt-ltb, ltb-false, ltb-true}
use Rattle.base.specs.Logic.{and_left, and_right, same?, test?}
use Rattle.base.specs.Update.{upd, upd_other, upd_same}
use Rattle.rules.proofs.Agreement.Change.{Changed}
use Rattle.rules.proofs.Steps.OneStep.{Alive}
use Rattle.rules.proofs.Steps.States.{live_present}
use Rattle.rules.proofs.Steps.WriterSteps.{NoDup, bytes, mem?}
use Rattle.rules.specs.Plain.{is_none, overwrite}
use Rattle.rules.specs.Reading.{resolve, size_by_reading}
use Rattle.rules.specs.Rules.{from, touched}
use Rattle.rules.specs.State.{Files, Tree, is_absent}
use Rattle.rules.specs.Storage.{PageData, overlay}

length_lay : (l : List ℕ) (off : ℕ) (bs : List ℕ) → length (overwrite l off bs) ≡ max (length l) (off + length bs)
unfolding overwrite
length_lay l off bs = simp (length-append, length-take, length-replicate, length-drop) (omega arith)

head_length : (l : List ℕ) (off : ℕ) → length (take off l ++ replicate (off - length l) 0) ≡ off
head_length l off = simp (length-append, length-take, length-replicate) (omega arith)

pub at_add : (p q : List ℕ) (n i : ℕ) → i ≡ length p + n → get_or (p ++ q) i 0 ≡ get_or q n 0
at_add p q n i e = ap (λ k. get_or (p ++ q) k 0) e ∙ get_or-append-add p q n 0

lay_in : (l : List ℕ) (off : ℕ) (bs : List ℕ) (i : ℕ) → off ≤ i → i < off + length bs → get_or (overwrite l off bs) i 0 ≡ get_or bs (i - off) 0
unfolding overwrite
lay_in l off bs i h k =
    at_add (take off l ++ replicate (off - length l) 0) _ (i - off) i (omega (arith, head_length l off)) ∙ get_or-append bs _ 0 (i - off) (omega arith)

lay_after : (l : List ℕ) (off : ℕ) (bs : List ℕ) (i : ℕ) → off + length bs ≤ i → get_or (overwrite l off bs) i 0 ≡ get_or l i 0
unfolding overwrite
lay_after l off bs i h =
    at_add (take off l ++ replicate (off - length l) 0) _ (i - off) i (omega (arith, head_length l off))
    ∙ at_add bs _ (i - off - length bs) (i - off) (omega arith) ∙ get_or-drop (off + length bs) l _ 0 ∙ ap (λ k. get_or l k 0) (omega arith)

lay_before : (l : List ℕ) (off : ℕ) (bs : List ℕ) (i : ℕ) → i < off → get_or (overwrite l off bs) i 0 ≡ get_or l i 0
unfolding overwrite
lay_before l off bs i h =
    get_or-append (take off l ++ replicate (off - length l) 0) _ 0 i (omega (arith, head_length l off)) ∙
    test? (ltb i (length l))
    (λ e. let k = ltb-true i (length l) e in
    get_or-append (take off l) _ 0 i (simp length-take (omega arith)) ∙ get_or-take off l i 0 h)
    (λ e. let k = ltb-false i (length l) e in
    at_add (take off l) _ (i - length l) i (simp length-take (omega arith)) ∙ get_or-replicate (off - length l) (i - length l) 0 0 (omega arith) ∙ sym (get_or-eq_default l 0 k))

-- the pages of a write
pub from_mem : (a n p : ℕ) → a ≤ p → p < a + n → Memᴰ p (from a n)
unfolding from
from_mem a zero p h k = absurd (omega arith)
from_mem a (suc n) p h k = same? p a (λ e. Memᴰ.head e) (λ e. Memᴰ.tail (from_mem (suc a) n p (omega arith) (omega arith)))

pub from_low : (a n p : ℕ) → Memᴰ p (from a n) → a ≤ p
unfolding from
from_low a zero p m = elim m [ ]
from_low a (suc n) p m = ⊎_elim (λ e. omega arith) (λ m. let h = from_low (suc a) n p m in omega arith) (Memᴰ.cases_cons m)

pub from_high : (a n p : ℕ) → Memᴰ p (from a n) → p < a + n
unfolding from
from_high a zero p m = elim m [ ]
from_high a (suc n) p m = ⊎_elim (λ e. omega arith) (λ m. let h = from_high (suc a) n p m in omega arith) (Memᴰ.cases_cons m)

pub from_once : (a n : ℕ) → NoDup (from a n)
unfolding from
from_once a zero = tt
from_once a (suc n) = (λ m. let h = from_low (suc a) n a m in omega arith, from_once (suc a) n)

touched_mem : (off n i : ℕ) → off ≤ i → i < off + n → Memᴰ (i / 512) (touched off n)
unfolding touched
touched_mem off zero i h k = absurd (omega arith)
touched_mem off (suc n) i h k = from_mem (off / 512) _ (i / 512) (omega arith) (omega arith)

pub touched_once : (off n : ℕ) → NoDup (touched off n)
unfolding touched
touched_once off zero = tt
touched_once off (suc n) = from_once (off / 512) (suc ((off + n) / 512 - off / 512))

-- LAW: from the page of the first byte to that of the last one
pub touched_is : (off n first m : ℕ) → 0 < n → first ≡ off / 512 → m ≡ (off + n - 1) / 512 - first + 1 → touched off n ≡ from first m
unfolding touched
touched_is off zero first m h ef em = absurd (omega arith)
touched_is off (suc n) first m h ef em =
    let x : off + suc n - 1 ≡ off + n = omega arith in
    let y : m ≡ suc ((off + n) / 512 - off / 512) = em ∙ ap (λ i. i / 512 - first + 1) x ∙ ap (λ i. (off + n) / 512 - i + 1) ef ∙ omega arith in
    ap (λ i. from i (suc ((off + n) / 512 - off / 512))) (sym ef) ∙ ap (from first) (sym y)

-- a byte of a written list, and of a written page
abbrev within : ℕ → ℕ → ℕ → Bool
within off n i = leb off i && ltb i (off + n)

lay_at : (l : List ℕ) (off : ℕ) (bs : List ℕ) (i : ℕ) → get_or (overwrite l off bs) i 0 ≡ cond (within off (length bs) i) (get_or bs (i - off) 0) (get_or l i 0)
lay_at l off bs i =
    test? (leb off i)
    (λ e. test? (ltb i (off + length bs))
    (λ d. rw (e, d) (lay_in l off bs i (leb-true off i e) (ltb-true i (off + length bs) d)))
    (λ d. rw (e, d) (lay_after l off bs i (ltb-false i (off + length bs) d))))
    (λ e. rw e (lay_before l off bs i (leb-false off i e)))

overlay_at : (off : ℕ) (bs : List ℕ) (v : PageData) (i : ℕ) → overlay off bs (i / 512) v (i % 512) ≡ cond (within off (length bs) i) (get_or bs (i - off) 0) (v (i % 512))
unfolding overlay
overlay_at off bs v i = rw (div-add-mod' i 512, lt-ltb (i % 512) 512 (omega arith))

within_touched : (off n i : ℕ) → within off n i ≡ true → Memᴰ (i / 512) (touched off n)
within_touched off n i h = touched_mem off n i (leb-true off i (and_left (leb off i) _ h)) (ltb-true i (off + n) (and_right (leb off i) _ h))

-- The model's files of one number agree with the plain store's.
pub record Agree (t : Tree) (files : Files PageData) (pf : ℕ → Option (List ℕ)) : Type 0 where
  pub there : (s : ℕ) → is_none (pf s) ≡ is_absent (files s).state
  pub size : (s : ℕ) (l : List ℕ) → pf s ≡ some l → Alive files s → size_by_reading t files s ≡ length l
  pub byte : (s : ℕ) (l : List ℕ) → pf s ≡ some l → Alive files s → (i : ℕ) → i < 32768 → bytes (resolve t files s (i / 512)) (i % 512) ≡ get_or l i 0

-- One set's file is another, and agrees with o; the others read what they read.
module _ (t t' : Tree) (a b : Files PageData) (pf : ℕ → Option (List ℕ)) (g : Agree t a pf) (s : ℕ) (o : Option (List ℕ))
    (presence : (x : ℕ) → (s ≡ x → ⊥) → is_absent (b x).state ≡ is_absent (a x).state) (alive : (x : ℕ) → (s ≡ x → ⊥) → Alive b x → Alive a x)
    (page : (x p : ℕ) → p < 64 → (s ≡ x → ⊥) → Alive b x → resolve t' b x p ≡ resolve t a x p) (size : (x : ℕ) → (s ≡ x → ⊥) → Alive b x → size_by_reading t' b x ≡ size_by_reading t a x)
    (there₀ : is_none o ≡ is_absent (b s).state) (size₀ : (l : List ℕ) → o ≡ some l → Alive b s → size_by_reading t' b s ≡ length l)
    (byte₀ : (l : List ℕ) → o ≡ some l → Alive b s → (i : ℕ) → i < 32768 → bytes (resolve t' b s (i / 512)) (i % 512) ≡ get_or l i 0) where
  pub agree_one : Agree t' b (upd pf s o)
  agree_one = record {
    there = λ x. same? s x
        (λ e. subst (λ y. is_none (upd pf s o y) ≡ is_absent (b y).state) e (ap is_none (upd_same pf s o) ∙ there₀))
        (λ n. ap is_none (upd_other pf s o x n) ∙ g.there x ∙ sym (presence x n));
    size = λ x l q h. same? s x
        (λ e. subst (λ y. upd pf s o y ≡ some l → Alive b y → size_by_reading t' b y ≡ length l) e (λ q. size₀ l (sym (upd_same pf s o) ∙ q)) q h)
        (λ n. size x n h ∙ g.size x l (sym (upd_other pf s o x n) ∙ q) (alive x n h));
    byte = λ x l q h i j. same? s x
        (λ e. subst (λ y. upd pf s o y ≡ some l → Alive b y → bytes (resolve t' b y (i / 512)) (i % 512) ≡ get_or l i 0) e (λ q h. byte₀ l (sym (upd_same pf s o) ∙ q) h i j) q h)
        (λ n. ap (λ e. bytes e (i % 512)) (page x (i / 512) (omega arith) n h) ∙ g.byte x l (sym (upd_other pf s o x n) ∙ q) (alive x n h) i j);
  }

module _ (t : Tree) (s off end : ℕ) (bs l : List ℕ) (a b : Files PageData) (pf : ℕ → Option (List ℕ)) (has : pf s ≡ some l) (al : Alive a s)
    (r : Changed t s (touched off (length bs)) [] (overlay off bs) (λ n. max n end) a b) (en : end ≡ off + length bs) (g : Agree t a pf) where
  new_byte : (i : ℕ) → i < 32768 → bytes (resolve t b s (i / 512)) (i % 512) ≡ get_or (overwrite l off bs) i 0
  new_byte i h =
      let old : bytes (resolve t a s (i / 512)) (i % 512) ≡ get_or l i 0 = g.byte s l has al i h in
      let k : i / 512 < 64 = omega arith in
      ⊎_elim
      (λ m. ap (λ e. bytes e (i % 512)) (r.new_page (i / 512) k m (λ n. elim n [ ])) ∙ overlay_at off bs _ i ∙ ap (cond (within off (length bs) i) (get_or bs (i - off) 0)) old)
      (λ o. ap (λ e. bytes e (i % 512)) (r.old_page (i / 512) k o (λ n. elim n [ ])) ∙ old ∙
      test? (within off (length bs) i) (λ w. absurd (o (within_touched off (length bs) i w))) (λ w. rw w))
      (mem? (i / 512) (touched off (length bs)))
      ∙ sym (lay_at l off bs i)

  new_size : size_by_reading t b s ≡ length (overwrite l off bs)
  new_size = r.new_size ∙ ap (λ n. max n end) (g.size s l has al) ∙ ap (max (length l)) en ∙ sym (length_lay l off bs)

  pub agree_write : Agree t b (upd pf s (some (overwrite l off bs)))
  agree_write =
      agree_one t t a b pf g s (some (overwrite l off bs)) (λ x n. r.presence x) (λ x n. r.alive x) r.page r.size
      (sym (live_present (b s).state r.self))
      (λ l' q h. let e : overwrite l off bs ≡ l' = cc in new_size ∙ ap length e)
      (λ l' q h i j. let e : overwrite l off bs ≡ l' = cc in new_byte i j ∙ ap (λ z. get_or z i 0) e)
