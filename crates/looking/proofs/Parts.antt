-- A read, a page at a time: the bytes of a part of one page, what is read so far, and the entries that are kept for it. Assumes nothing.
use mathlib.Core.List.{◌++◌, List}
use mathlib.Core.Path.{ap, refl, subst, sym, ◌∙◌, ◌≡◌}
use Prim.Native.Nat.{◌%◌, ◌*◌, ◌+◌, ◌-◌, ◌/◌, ◌<◌, max, min, ℕ, ◌≤◌}
use native.Mathlib.Nat.{zero-add}
use native.Mathlib.Omega.{arith}
use lib.Dec.{ltb}
use lib.ListN.{drop, length}
use borrow.Author.Tests.{ltb-false, ltb-true}
use Rattle.base.specs.Logic.{test?}
use Rattle.base.specs.Tabulate.{tab}
use Rattle.maps.specs.ManyPages.{RangeResolved}
use Rattle.maps.specs.declared.resolving.ResolvedPages.{ResolvedPages}
use Rattle.pages.specs.Run.{run, run_front, run_none, run_same, run_then}
use Rattle.rules.proofs.Agreement.Agree.{touched_is}
use Rattle.rules.proofs.Formed.Shape.{size_most}
use Rattle.rules.proofs.Blocks.Tidy.{resolve_named}
use Rattle.rules.specs.Calls.{byte_by_reading, read_count, read_into, read_looks}
use Rattle.rules.specs.Reading.{looks, resolve, size_by_reading}
use Rattle.rules.specs.Rules.{page_of, sum_in, touched}
use Rattle.rules.specs.State.{Entry, hole, stored, tree_of, unmapped}
use Rattle.rules.specs.Storage.{real}
use Rattle.tables.proofs.FormedStore.{FormedStore}
use Rattle.tables.specs.Calls.{store_of}
use Rattle.tables.specs.Packed.{unpack}
use Rattle.tables.specs.Views.{entries_of}
use Rattle.tables.specs.declared.entries.Kept.{Kept}
use Rattle.looking.specs.Read.{EntriesIn, ReadDone, byte_at, byte_kept}

-- ---- a part of one page: n bytes from byte k of the page on

-- LAW: what is read by an entry e, where it is e'
pub part_of : (p : List ℕ) (k n : ℕ) (l : List ℕ) (at : ℕ) (e e' : Entry ℕ) → e' ≡ e → run l at (λ i. byte_at p e' (k + i)) n ≡ run l at (λ i. byte_at p e (k + i)) n
part_of p k n l at e e' q = ap (λ x. run l at (λ i. byte_at p x (k + i)) n) q

byte_in : (kept : List Kept) (p : List ℕ) (k n : ℕ) → k % 512 + n ≤ 512 → (i : ℕ) → i < n → byte_at p (entries_of kept (k / 512)) (k % 512 + i) ≡ byte_kept kept p (k + i)
unfolding byte_kept
byte_in kept p k n low i l =
    let a : (k + i) / 512 ≡ k / 512 = omega arith in
    let b : (k + i) % 512 ≡ k % 512 + i = omega arith in
    rw (a, b)

-- LAW: the bytes of page q are read too, whose entry is e
pub read_more : (kept : List Kept) (p : List ℕ) (off n : ℕ) (before now after : List ℕ) (q from end : ℕ) (e : Entry ℕ) → e ≡ entries_of kept q → off / 512 ≤ q → q < (off + n + 511) / 512
    → from ≡ max off (q * 512) → end ≡ min (off + n) (q * 512 + 512)
    → now ≡ run before 0 (λ i. byte_kept kept p (off + i)) (min (q * 512 - off) n) → after ≡ run now (from - off) (λ i. byte_at p e (from % 512 + i)) (end - from)
    → after ≡ run before 0 (λ i. byte_kept kept p (off + i)) (min ((q + 1) * 512 - off) n)
read_more kept p off n before now after q from end e is lo hi ef ee h a =
    let g : ℕ → ℕ = λ i. byte_kept kept p (off + i) in
    let done : ℕ = from - off in
    let m : ℕ = end - from in
    let s : from / 512 ≡ q = omega arith in
    let low : from % 512 + m ≤ 512 = omega arith in
    let d : min (q * 512 - off) n ≡ 0 + done = omega arith in
    let z : done + m ≡ min ((q + 1) * 512 - off) n = omega arith in
    a
    ∙ run_same now done _ (λ i. g (done + i)) m (λ i l. ap (λ x. byte_at p x (from % 512 + i)) (is ∙ ap (entries_of kept) (sym s)) ∙ byte_in kept p from m low i l
    ∙ (let w : from + i ≡ off + (done + i) = omega arith in ap (byte_kept kept p) w))
    ∙ (λ i. run ((h ∙ ap (run before 0 g) (d ∙ zero-add done)) i) (sym (zero-add done) i) (λ j. g (done + j)) m)
    ∙ run_then before 0 g done m ∙ ap (run before 0 g) z

-- a block that an entry of a page names is one of the pages p
pub block_in : (kept : List Kept) (p : List ℕ) → EntriesIn kept p → (q b : ℕ) → q < 64 → entries_of kept q ≡ stored b → b * 512 + 512 ≤ length p
block_in kept p ok = ok.blocks

-- ---- the pages of a read

-- n bytes are in a file of z bytes, and in a buffer of m
pub in_file : (m off z n : ℕ) → n ≡ read_count m off z → z ≤ 32768 → (n ≡ 0 → ⊥) → (off + n ≤ 32768) × (n ≤ m)
in_file m off z n e h some = (omega arith, omega arith)

-- so are their pages
pub pages_in : (first last : ℕ) → first ≤ last → last < 64 → first + (last - first + 1) ≤ 64
pages_in first last l h = omega arith

-- a size by reading is in range
pub size_in_law : (t p : List ℕ) → FormedStore t p → (s f : ℕ) → size_by_reading (tree_of (unpack t).sets) ((unpack t).files f) s ≤ 32768
size_in_law t p h s f = size_most (tree_of (unpack t).sets) ((unpack t).files f) (h.files_ok f).shape s

module _ (t p : List ℕ) (s f : ℕ) (ok : FormedStore t p) (first m : ℕ) (x : ResolvedPages) (r : RangeResolved (unpack t) f s first m x) where
  -- LAW: what the pages resolve to names blocks of the pages buffer
  pub blocks_in : EntriesIn x.kept p
  blocks_in = record {
    len = r.len;
    blocks = λ q b l e. test? (ltb q first)
        (λ d. absurd (hole_not (sym (r.others q l (λ v w. let z = ltb-true q first d in omega arith)) ∙ e)))
        (λ d. test? (ltb q (first + m))
        (λ c. named q b (sym (r.found q (ltb-false q first d) (ltb-true q (first + m) c)) ∙ e))
        (λ c. absurd (hole_not (sym (r.others q l (λ v w. let z = ltb-false q (first + m) c in omega arith)) ∙ e))));
  }
    where
      is_hole : Entry ℕ → Type 0
      is_hole unmapped = ⊥
      is_hole hole = Unit {0}
      is_hole (stored b) = ⊥

      hole_not : {b : ℕ} → hole ≡ stored b → ⊥
      hole_not e = subst is_hole e tt

      named : (q b : ℕ) → resolve (tree_of (unpack t).sets) ((unpack t).files f) s q ≡ stored b → b * 512 + 512 ≤ length p
      named q b e =
          let n = resolve_named (tree_of (unpack t).sets) ((unpack t).files f) s q b e in
          let u = ok.blocks_ok.used f n.0 q b n.1 in
          omega (arith, u.below, ok.pages)

  byte_of : (e : Entry ℕ) (i : ℕ) → byte_at p e i ≡ page_of real (store_of t p).memory e i
  unfolding page_of
  byte_of unmapped i = refl
  byte_of hole i = refl
  byte_of (stored b) i = refl

  -- a byte of the pages
  byte_read : (k : ℕ) → first ≤ k / 512 → k / 512 < first + m → byte_kept x.kept p k ≡ byte_by_reading (store_of t p) s f k
  unfolding byte_kept byte_by_reading
  byte_read k a b = ap (λ e. byte_at p e (k % 512)) (r.found (k / 512) a b) ∙ byte_of (resolve (tree_of (unpack t).sets) ((unpack t).files f) s (k / 512)) (k % 512)

-- ---- the whole

abbrev size_in : List ℕ → ℕ → ℕ → ℕ
size_in t s f = size_by_reading (tree_of (unpack t).sets) ((unpack t).files f) s

-- LAW: nothing is read
pub read_none : (t p : List ℕ) (s f off n : ℕ) (l : List ℕ) → n ≡ read_count (length l) off (size_in t s f) → n ≡ 0 → ReadDone t p s f off l l 0 0
unfolding read_into read_looks touched sum_in
read_none t p s f off n l e z =
    let g : ℕ → ℕ = λ i. byte_by_reading (store_of t p) s f (off + i) in
    let q : 0 ≡ read_count (length l) off (size_in t s f) = sym z ∙ e in
    record {
      filled = sym (run_none l 0 g) ∙ run_front l g 0 (omega arith) ∙ ap (λ k. tab k g ++ drop k l) q;
      counted = q;
      looked = refl;
    }

-- LAW: n bytes are read
pub read_done : (t p : List ℕ) (s f off n : ℕ) (before after : List ℕ) (x : ResolvedPages) → FormedStore t p → n ≡ read_count (length before) off (size_in t s f) → (n ≡ 0 → ⊥)
    → RangeResolved (unpack t) f s (off / 512) ((off + n - 1) / 512 - off / 512 + 1) x → after ≡ run before 0 (λ i. byte_kept x.kept p (off + i)) n
    → ReadDone t p s f off before after n x.looks
unfolding read_into read_looks
read_done t p s f off n before after x ok e z r h =
    let g : ℕ → ℕ = λ i. byte_by_reading (store_of t p) s f (off + i) in
    record {
      filled = h ∙ run_same before 0 (λ i. byte_kept x.kept p (off + i)) g n (λ i l. byte_read t p s f ok _ _ x r (off + i) (omega arith) (omega arith))
          ∙ run_front before g n (omega arith) ∙ ap (λ k. tab k g ++ drop k before) e;
      counted = e;
      looked = r.looked ∙ ap (λ ps. sum_in ps (looks (tree_of (unpack t).sets) ((unpack t).files f) s)) (sym (touched_is off n _ _ (omega arith) refl refl));
    }
