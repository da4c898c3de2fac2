-- A run of stores inside one block is a change of that page. Assumes nothing.
use mathlib.Core.Bool.{◌&&◌, cond, false, true≢false}
use mathlib.Core.List.{List}
use mathlib.Core.Path.{ap, fun_ext, refl, subst, sym, ◌∙◌, ◌≡◌}
use Prim.Native.Nat.{◌*◌, ◌+◌, ◌-◌, ◌<◌, ℕ, ◌≤◌}
use native.Mathlib.Nat.{sub-zero}
use native.Mathlib.Omega.{arith}
use lib.Dec.{leb, ltb}
use lib.ListN.{get_or, length}
use borrow.Author.Tests.{le-leb, le-ltb, leb-true, lt-leb, lt-ltb, ltb-false, ltb-true}
use Rattle.base.specs.Logic.{and_left, and_right, same?, test?}
use Rattle.base.specs.Update.{upd, upd_other, upd_same, upd_self}
use Rattle.pages.specs.Run.{run, run_in, run_out, run_same}
use Rattle.rules.specs.Storage.{zero_from}
use Rattle.tables.specs.Calls.{pages_of}

-- the bytes of a page
pub pages_out : (l : List ℕ) (b i : ℕ) → 512 ≤ i → pages_of l b i ≡ 0
unfolding pages_of
pages_out l b i h = rw (le-ltb i 512 h)

pub pages_in : (l : List ℕ) (b i : ℕ) → i < 512 → pages_of l b i ≡ get_or l (b * 512 + i) 0
unfolding pages_of
pages_in l b i h = rw (lt-ltb i 512 h)

-- the page v, whose n bytes from x on are those of f
unfoldable pub patch : ℕ → ℕ → (ℕ → ℕ) → (ℕ → ℕ) → ℕ → ℕ
patch x n f v i = cond (leb x i && ltb i (x + n)) (f (i - x)) (v i)

module _ (l : List ℕ) (b x n : ℕ) (f : ℕ → ℕ) (h : b * 512 + 512 ≤ length l) (k : x + n ≤ 512) where
  run_away : (j i : ℕ) → (i < 512 → (m : ℕ) → m < n → b * 512 + x + m ≡ j * 512 + i → ⊥) → pages_of (run l (b * 512 + x) f n) j i ≡ pages_of l j i
  unfolding pages_of
  run_away j i q = test? (ltb i 512) (λ e. rw e (run_out l (b * 512 + x) f n (j * 512 + i) (q (ltb-true i 512 e)))) (λ e. rw e)

  run_here : (i : ℕ) → pages_of (run l (b * 512 + x) f n) b i ≡ patch x n f (pages_of l b) i
  unfolding pages_of patch
  run_here i =
      test? (leb x i && ltb i (x + n))
      (λ q. let a = leb-true x i (and_left (leb x i) (ltb i (x + n)) q) in
      let c = ltb-true i (x + n) (and_right (leb x i) (ltb i (x + n)) q) in
      let z : b * 512 + i ≡ b * 512 + x + (i - x) = omega arith in
      rw (q, lt-ltb i 512 (omega arith)) (ap (λ m. get_or (run l (b * 512 + x) f n) m 0) z ∙ run_in l (b * 512 + x) f n (i - x) (omega arith) (omega arith)))
      (λ q. rw q (run_away b i (λ i5 m c d. away i m c (omega arith) q)))
    where
      away : (i m : ℕ) → m < n → x + m ≡ i → (leb x i && ltb i (x + n)) ≡ false → ⊥
      away i m c d q = true≢false (sym (rw (le-leb x i (omega arith), lt-ltb i (x + n) (omega arith))) ∙ q)

  pub page_run : pages_of (run l (b * 512 + x) f n) ≡ upd (pages_of l) b (patch x n f (pages_of l b))
  page_run =
      fun_ext (λ j. same? b j
      (λ e. subst (λ y. pages_of (run l (b * 512 + x) f n) y ≡ upd (pages_of l) b (patch x n f (pages_of l b)) y) e
      (fun_ext run_here ∙ sym (upd_same (pages_of l) b (patch x n f (pages_of l b)))))
      (λ e. fun_ext (λ i. run_away j i (λ i5 m c d. e (omega arith))) ∙ sym (upd_other (pages_of l) b (patch x n f (pages_of l b)) j e)))

-- a whole page
page_whole : (l : List ℕ) (b : ℕ) (f v : ℕ → ℕ) → b * 512 + 512 ≤ length l → ((i : ℕ) → i < 512 → f i ≡ v i) → ((i : ℕ) → 512 ≤ i → v i ≡ 0)
    → pages_of (run l (b * 512) f 512) ≡ upd (pages_of l) b v
unfolding patch
page_whole l b f v h a z =
    let e0 : b * 512 ≡ b * 512 + 0 = omega arith in
    ap (λ x. pages_of (run l x f 512)) e0 ∙ page_run l b 0 512 f h (omega arith)
    ∙ ap (λ (w : ℕ → ℕ). upd (pages_of l) b w) (fun_ext (λ i. test? (ltb i 512)
    (λ e. let c = ltb-true i 512 e in rw (le-leb 0 i (omega arith), e, sub-zero i) (a i c))
    (λ e. rw (le-leb 0 i (omega arith), e) (pages_out l b i (ltb-false i 512 e) ∙ sym (z i (ltb-false i 512 e))))))

-- WHAT THE CODE STORES: copy_page, zero_page, zero_tail, read_page
pub copied : (l : List ℕ) (a b : ℕ) → b * 512 + 512 ≤ length l → pages_of (run l (b * 512) (λ i. get_or l (a * 512 + i) 0) 512) ≡ upd (pages_of l) b (pages_of l a)
copied l a b h = page_whole l b (λ i. get_or l (a * 512 + i) 0) (pages_of l a) h (λ i k. sym (pages_in l a i k)) (pages_out l a)

pub page_zeroed : (l : List ℕ) (b : ℕ) → b * 512 + 512 ≤ length l → pages_of (run l (b * 512) (λ i. 0) 512) ≡ upd (pages_of l) b (λ i. 0)
page_zeroed l b h = page_whole l b (λ i. 0) (λ i. 0) h (λ i k. refl) (λ i k. refl)

pub tail_zeroed : (l : List ℕ) (b n : ℕ) → b * 512 + 512 ≤ length l → n ≤ 512
    → pages_of (run l (b * 512 + n) (λ i. 0) (512 - n)) ≡ upd (pages_of l) b (zero_from n (pages_of l b))
unfolding patch zero_from
tail_zeroed l b n h k =
    page_run l b n (512 - n) (λ i. 0) h (omega arith)
    ∙ ap (λ (w : ℕ → ℕ). upd (pages_of l) b w) (fun_ext (λ i. test? (ltb i n)
    (λ e. let c = ltb-true i n e in rw (e, lt-leb n i c))
    (λ e. let c = ltb-false i n e in rw (e, le-leb n i c) (test? (ltb i (n + (512 - n)))
    (λ q. rw q)
    (λ q. let d = ltb-false i (n + (512 - n)) q in rw q (pages_out l b i (omega arith)))))))

pub page_read : (l p : List ℕ) (at b x n : ℕ) → x + n ≤ 512 → run l at (λ i. get_or p (b * 512 + x + i) 0) n ≡ run l at (λ i. pages_of p b (x + i)) n
page_read l p at b x n h =
    run_same l at (λ i. get_or p (b * 512 + x + i) 0) (λ i. pages_of p b (x + i)) n
    (λ i k. let z : b * 512 + x + i ≡ b * 512 + (x + i) = omega arith in
    ap (λ y. get_or p y 0) z ∙ sym (pages_in p b (x + i) (omega arith)))

-- a page copied to its own place
pub copy_self : (l : List ℕ) (a b x y : ℕ) → x ≡ a → y ≡ b → x * 512 ≡ y * 512 → pages_of l ≡ upd (pages_of l) b (pages_of l a)
copy_self l a b x y p q e =
    let k : a ≡ b = omega (arith, p, q, e) in
    sym (ap (λ z. upd (pages_of l) b (pages_of l z)) k ∙ upd_self (pages_of l) b)
