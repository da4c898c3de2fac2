-- Bytes laid over a page of a file, as a run of stores inside the page's block. Assumes nothing.
use mathlib.Core.Bool.{◌&&◌, Bool, true, true≢false}
use mathlib.Core.List.{List}
use mathlib.Core.Path.{ap, fun_ext, sym, ◌∙◌, ◌≡◌}
use Prim.Native.Nat.{◌*◌, ◌+◌, ◌-◌, ◌<◌, max, min, ℕ, ◌≤◌}
use native.Mathlib.Omega.{arith}
use lib.Dec.{leb, ltb}
use lib.ListN.{get_or, length}
use borrow.Author.Tests.{le-leb, leb-true, lt-ltb, ltb-true}
use Rattle.base.specs.Logic.{and_left, and_right, test?}
use Rattle.base.specs.Update.{upd, upd_self}
use Rattle.pages.proofs.PageRuns.{page_run, patch}
use Rattle.pages.specs.Run.{run}
use Rattle.rules.specs.Storage.{overlay}
use Rattle.tables.specs.Calls.{pages_of}

-- the bytes bs, which begin at off of the file, over page p: where p has them, they are lo .. hi of the file
module _ (off : ℕ) (bs : List ℕ) (p lo hi : ℕ) where
  abbrev inside : ℕ → Bool
  inside i = ltb i 512 && leb off (p * 512 + i) && ltb (p * 512 + i) (off + length bs)

  pub record Edges : Type 0 where
    pub low_off : off ≤ lo
    pub low_page : p * 512 ≤ lo
    pub low : (k : ℕ) → off ≤ k → p * 512 ≤ k → lo ≤ k
    pub high_off : hi ≤ off + length bs
    pub high_page : hi ≤ p * 512 + 512
    pub high : (k : ℕ) → k < off + length bs → k < p * 512 + 512 → k < hi

  edges : lo ≡ max off (p * 512) → hi ≡ min (off + length bs) (p * 512 + 512) → Edges
  edges a b = record { low_off = omega arith; low_page = omega arith; low = λ k x y. omega arith; high_off = omega arith; high_page = omega arith; high = λ k x y. omega arith }

  inside_lo : Edges → (i : ℕ) → inside i ≡ true → (lo ≤ p * 512 + i) × (p * 512 + i < hi)
  inside_lo e i q =
      let l = and_left (ltb i 512 && leb off (p * 512 + i)) (ltb (p * 512 + i) (off + length bs)) q in
      let a = ltb-true i 512 (and_left (ltb i 512) (leb off (p * 512 + i)) l) in
      let c = leb-true off (p * 512 + i) (and_right (ltb i 512) (leb off (p * 512 + i)) l) in
      let d = ltb-true (p * 512 + i) (off + length bs) (and_right (ltb i 512 && leb off (p * 512 + i)) (ltb (p * 512 + i) (off + length bs)) q) in
      (e.low (p * 512 + i) c (omega arith), e.high (p * 512 + i) d (omega arith))

  lay_none : Edges → hi ≤ lo → (v : ℕ → ℕ) → overlay off bs p v ≡ v
  unfolding overlay
  lay_none e h v = fun_ext (λ i. test? (inside i)
      (λ q. let k = inside_lo e i q in absurd (omega arith))
      (λ q. rw q))

  lay_some : Edges → lo < hi → (v : ℕ → ℕ) → patch (lo - p * 512) (hi - lo) (λ i. get_or bs (lo - off + i) 0) v ≡ overlay off bs p v
  unfolding overlay patch
  lay_some e h v = fun_ext (λ i. test? (inside i)
      (λ q. let k = inside_lo e i q in
      let l1 = e.low_off in
      let l2 = e.low_page in
      let z : lo - off + (i - (lo - p * 512)) ≡ p * 512 + i - off = omega arith in
      rw (q, le-leb (lo - p * 512) i (omega arith), lt-ltb i (lo - p * 512 + (hi - lo)) (omega arith), z))
      (λ q. rw q (test? (leb (lo - p * 512) i && ltb i (lo - p * 512 + (hi - lo)))
      (λ r. absurd (let l1 = e.low_off in
      let l2 = e.low_page in
      let l3 = e.high_off in
      let l4 = e.high_page in
      let a = leb-true (lo - p * 512) i (and_left (leb (lo - p * 512) i) (ltb i (lo - p * 512 + (hi - lo))) r) in
      let c = ltb-true i (lo - p * 512 + (hi - lo)) (and_right (leb (lo - p * 512) i) (ltb i (lo - p * 512 + (hi - lo))) r) in
      true≢false (sym (rw (lt-ltb i 512 (omega arith), le-leb off (p * 512 + i) (omega arith), lt-ltb (p * 512 + i) (off + length bs) (omega arith))) ∙ q)))
      (λ r. rw r))))

-- WHAT THE CODE STORES: lay_bytes, where no byte falls on the page, and where some do
module _ (l : List ℕ) (b p off lo hi : ℕ) (bs : List ℕ) (low : lo ≡ max off (p * 512)) (high : hi ≡ min (off + length bs) (p * 512 + 512)) where
  es : Edges off bs p lo hi
  es = edges off bs p lo hi low high

  pub none_laid : hi ≤ lo → pages_of l ≡ upd (pages_of l) b (overlay off bs p (pages_of l b))
  none_laid h = sym (ap (λ (v : ℕ → ℕ). upd (pages_of l) b v) (lay_none off bs p lo hi es h (pages_of l b)) ∙ upd_self (pages_of l) b)

  pub some_laid : lo < hi → b * 512 + 512 ≤ length l
      → pages_of (run l (b * 512 + (lo - p * 512)) (λ i. get_or bs (lo - off + i) 0) (hi - lo)) ≡ upd (pages_of l) b (overlay off bs p (pages_of l b))
  some_laid less h =
      let x = es.low_page in
      let y = es.high_page in
      page_run l b (lo - p * 512) (hi - lo) (λ i. get_or bs (lo - off + i) 0) h (omega arith)
      ∙ ap (λ (v : ℕ → ℕ). upd (pages_of l) b v) (lay_some off bs p lo hi es less (pages_of l b))
