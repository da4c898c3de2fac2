-- Marking: the sets that are reached one after another, their blocks free again, how many files lose their live state, and that marking is a step. Assumes nothing.
use mathlib.Core.Bool.{◌&&◌, Bool, cond, false, not, true}
use mathlib.Core.List.{List}
use mathlib.Core.Path.{ap, fun_ext, refl, subst, sym, ◌∙◌, ◌≡◌}
use Prim.Native.Nat.{◌+◌, ◌<◌, suc, zero, ℕ, ◌≤◌}
use native.Mathlib.Nat.{zero-add}
use native.Mathlib.Numerals.{add-one}
use native.Mathlib.Omega.{arith}
use lib.Dec.{eqb, ltb}
use lib.ListN.{length}
use borrow.Author.Tests.{eqb-true, le-ltb, lt-ltb, ltb-false, ltb-true, ne_eqb}
use Rattle.std.specs.Int.{from_bool}
use Rattle.base.specs.Count.{count, count_le, count_upd_false}
use Rattle.base.specs.Logic.{and_left, digit, test?}
use Rattle.base.specs.Update.{upd, upd_all, upd_is, upd_same, upd_self, upd_upd}
use Rattle.copying.proofs.Kept.{changed, sound_bits}
use Rattle.copying.specs.Changes.{MarkedBy, mark_if, mark_to, marks_down, reached}
use Rattle.copying.specs.Work.{Ready, Step}
use Rattle.rules.proofs.Blocks.GoodWork.{not_stored}
use Rattle.rules.proofs.Formed.Tests.{or_then}
use Rattle.rules.proofs.Steps.Reached.{marked_by, reaches_self}
use Rattle.rules.proofs.Steps.StepFour.{each_inv}
use Rattle.rules.proofs.Tally.TallyLoops.{from_last, from_none}
use Rattle.rules.specs.Reading.{dependent, depends_on, reaches}
use Rattle.rules.specs.Rules.{each, free_map, free_sets, from, mark, mark_down, marked_file}
use Rattle.rules.specs.State.{File, Files, SetRecord, Tables, Tree, largest_blocks, live, set_count, stored, tree_of, unmapped}
use Rattle.rules.specs.Storage.{Memory, real}
use Rattle.setchanges.proofs.Freeing.{each_through, free_map_bits, freed_by_bits, freed_clear, freed_bits, memory_with}
use Rattle.setchanges.specs.Changes.{BlocksIn, marked_in, no_pages, with_bits}
use Rattle.tables.proofs.Operations.{files_same}
use Rattle.tables.proofs.ReadParts.{set_default}
use Rattle.tables.specs.Calls.{pages_of}
use Rattle.tables.specs.Layout.{table_bytes}
use Rattle.tables.specs.Packed.{unpack}
use Rattle.tables.specs.Views.{PackedTables, Turns, memory_of, put_files}
use Rattle.copying.specs.declared.giving.Counts.{Counts}

-- ---- file f of the first n sets, marked where g says so: its files and the bits

module _ (files : Files ℕ) (g : ℕ → Bool) where
  abbrev marks_to : ℕ → Files ℕ
  marks_to n s = cond (ltb s n && g s) marked_file (files s)

  marks_none : marks_to 0 ≡ files
  marks_none = fun_ext (λ y. rw (le-ltb y 0 (omega arith)))

  -- a set that is still to come
  marks_later : (n y : ℕ) → n ≤ y → marks_to n y ≡ files y
  marks_later n y l = rw (le-ltb y n l)

  marks_other : (n y : ℕ) → (n ≡ y → ⊥) → marks_to (suc n) y ≡ marks_to n y
  marks_other n y q =
      test? (ltb y n)
      (λ a. rw (a, lt-ltb y (suc n) (omega (arith, ltb-true y n a))))
      (λ a. rw (a, le-ltb y (suc n) (let z = ltb-false y n a in omega arith)))

  -- one set more
  marks_more : (n : ℕ) → cond (g n) (upd (marks_to n) n marked_file) (marks_to n) ≡ marks_to (suc n)
  marks_more n =
      test? (g n)
      (λ e. rw e (sym (upd_is (marks_to n) (marks_to (suc n)) n marked_file (rw (e, lt-ltb n (suc n) (omega arith))) (marks_other n))))
      (λ e. rw e (sym (upd_is (marks_to n) (marks_to (suc n)) n (marks_to n n) (rw (e, lt-ltb n (suc n) (omega arith), le-ltb n n (omega arith))) (marks_other n) ∙ upd_self (marks_to n) n)))

  -- the blocks of the file of set x free again, or not
  abbrev free_if : ℕ → (ℕ → Bool) → ℕ → Bool
  free_if x bits = cond (g x) (freed_bits (files x).map bits) bits

  abbrev bits_to : ℕ → (ℕ → Bool) → ℕ → Bool
  bits_to n bits = each free_if (from 0 n) bits

  bits_more : (n : ℕ) (bits : ℕ → Bool) → free_if n (bits_to n bits) ≡ bits_to (suc n) bits
  bits_more n bits = ap (λ x. free_if x (bits_to n bits)) (sym (zero-add n)) ∙ sym (from_last free_if n 0 bits)

  -- LAW: a bit that is 0 stays 0
  bits_clear : (n b : ℕ) (bits : ℕ → Bool) → bits b ≡ false → bits_to n bits b ≡ false
  bits_clear n b bits z =
      each_inv free_if (λ y. y b ≡ false) (from 0 n) (λ x y i e. test? (g x) (λ d. rw d (freed_clear (files x).map b y e)) (λ d. rw d e)) bits z

  -- LAW: freeing the blocks of sets changes the bits alone
  sets_bits : (t : Tree) (m : Memory) (bits : ℕ → Bool) → free_sets real t g files (memory_with m bits) ≡ memory_with m (bits_to set_count bits)
  unfolding free_sets
  sets_bits t m bits =
      each_through (memory_with m) free_if (λ x n. cond (g x) (free_map real (files x).map n) n)
      (λ x a. test? (g x) (λ e. rw e (free_map_bits (files x).map m a)) (λ e. rw e)) (from 0 set_count) bits

-- ---- the tables

-- the files of number f put twice
put_twice : (f : ℕ) (x y : Files ℕ) (a b : ℕ → Bool) (tb : Tables) → put_files f y (with_bits b (put_files f x (with_bits a tb))) ≡ put_files f y (with_bits b tb)
unfolding put_files
put_twice f x y a b tb = files_same (with_bits b tb) (upd (upd tb.files f x) f y) (upd tb.files f y) (upd_upd tb.files f x y)

put_same : (f : ℕ) (tb : Tables) → put_files f (tb.files f) tb ≡ tb
unfolding put_files
put_same f tb = files_same tb (upd tb.files f (tb.files f)) tb.files (upd_self tb.files f)

put_read : (f : ℕ) (x : Files ℕ) (bits : ℕ → Bool) (tb : Tables) → (put_files f x (with_bits bits tb)).files f ≡ x
unfolding put_files
put_read f x bits tb = upd_same tb.files f x

-- one set, by the bits and the files
mark_if_is : (f s : ℕ) (b : Bool) (tb : Tables)
    → mark_if f s b tb ≡ put_files f (cond b (upd (tb.files f) s marked_file) (tb.files f)) (with_bits (cond b (freed_bits (tb.files f s).map tb.bits) tb.bits) tb)
unfolding mark_if marked_in
mark_if_is f s true tb = ap (put_files f (upd (tb.files f) s marked_file)) (freed_by_bits f s tb)
mark_if_is f s false tb = sym (put_same f tb)

module _ (tb : Tables) (f : ℕ) (g : ℕ → Bool) where
  abbrev partly : ℕ → Tables
  partly n = put_files f (marks_to (tb.files f) g n) (with_bits (bits_to (tb.files f) g n tb.bits) tb)

  partly_more : (n : ℕ) → mark_if f n (g n) (partly n) ≡ partly (suc n)
  unfolding put_files
  partly_more n =
      let x = marks_to (tb.files f) g n in
      let bits = bits_to (tb.files f) g n tb.bits in
      let here = put_read f x bits tb in
      let file : (partly n).files f n ≡ tb.files f n = ap (λ (y : Files ℕ). y n) here ∙ marks_later (tb.files f) g n n (omega arith) in
      mark_if_is f n (g n) (partly n)
      ∙ (λ i. put_files f (cond (g n) (upd (here i) n marked_file) (here i)) (with_bits (cond (g n) (freed_bits (file i).map bits) bits) (partly n)))
      ∙ (λ i. put_files f (marks_more (tb.files f) g n i) (with_bits (bits_more (tb.files f) g n tb.bits i) (partly n)))
      ∙ put_twice f x (marks_to (tb.files f) g (suc n)) bits (bits_to (tb.files f) g (suc n) tb.bits) tb

  mark_start : mark_to f g 0 tb ≡ tb
  unfolding mark_to
  mark_start = from_none (λ s. mark_if f s (g s)) 0 tb

  -- one set more
  mark_more : (n : ℕ) → mark_to f g (suc n) tb ≡ mark_if f n (g n) (mark_to f g n tb)
  unfolding mark_to
  mark_more n = from_last (λ s. mark_if f s (g s)) n 0 tb ∙ ap (λ x. mark_if f x (g x) (each (λ s. mark_if f s (g s)) (from 0 n) tb)) (zero-add n)

  -- LAW: the first n sets, by the bits and the files
  marks_are : (n : ℕ) → mark_to f g n tb ≡ partly n
  marks_are zero =
      mark_start ∙ sym (put_same f tb)
      ∙ (λ i. put_files f (sym (marks_none (tb.files f) g) i) (with_bits (sym (from_none (free_if (tb.files f) g) 0 tb.bits) i) tb))
  marks_are (suc n) = mark_more n ∙ ap (mark_if f n (g n)) (marks_are n) ∙ partly_more n

-- ---- a set

pub mark_not : {t : List ℕ} (f s : ℕ) (b : Bool) → b ≡ false → PackedTables t → Turns t t (mark_if f s b)
unfolding mark_if
mark_not f s b e pk = record { view = rw e; packed = pk }

pub mark_yes : {t t' : List ℕ} (f s : ℕ) (b : Bool) → b ≡ true → Turns t t' (marked_in f s) → Turns t t' (mark_if f s b)
unfolding mark_if
mark_yes f s b e u = record { view = rw e u.view; packed = u.packed }

-- LAW: no map names a block that none named before
pub marked_blocks : {t t' : List ℕ} (f s : ℕ) (b : Bool) → Turns t t' (mark_if f s b) → ((x : ℕ) → BlocksIn f x (unpack t)) → (x : ℕ) → BlocksIn f x (unpack t')
marked_blocks {t} {t'} f s b u h x p d e =
    let tb = unpack t in
    let same : (unpack t').files f ≡ cond b (upd (tb.files f) s marked_file) (tb.files f) =
    ap (λ (y : Tables). y.files f) (u.view ∙ mark_if_is f s b tb) ∙ put_read f (cond b (upd (tb.files f) s marked_file) (tb.files f)) _ tb in
    go b (ap (λ (y : Files ℕ). (y x).map p) (sym same) ∙ e)
  where
    go : (b : Bool) → (cond b (upd ((unpack t).files f) s marked_file) ((unpack t).files f) x).map p ≡ stored d → d < largest_blocks
    go true = upd_all (λ (y : File ℕ). y.map p ≡ stored d → d < largest_blocks) ((unpack t).files f) s marked_file (λ q. absurd (not_stored unmapped d refl q)) (λ j. h j p d) x
    go false = h x p d

-- ---- the loop over the sets

pub marked_start : {t : List ℕ} (f : ℕ) (g : ℕ → Bool) → PackedTables t → MarkedBy t t f g 0 0
unfolding count
marked_start {t} f g pk = record { view = sym (mark_start (unpack t) f g); packed = pk; counted = refl }

count_more : (g : ℕ → Bool) (s n x : ℕ) → n ≡ count s g → x ≡ digit (g s) → n + x ≡ count (s + 1) g
unfolding count
count_more g s n x a b =
    rw add-one (test? (g s) (λ e. rw e (let z : digit (g s) ≡ 1 = ap digit e in omega arith)) (λ e. rw e (let z : digit (g s) ≡ 0 = ap digit e in omega arith)))

-- a digit is compared with 1
digit_is : (b : Bool) (d : ℕ) → d ≡ digit b → eqb d 1 ≡ b
digit_is true d e = rw e
digit_is false d e = rw e

-- LAW: a Boolean as a number is its digit, 1 at most
pub byte_is : (b : Bool) → from_bool b ≡ digit b
byte_is true = refl
byte_is false = refl

pub byte_most : (b : Bool) → from_bool b ≤ 1
byte_most true = omega arith
byte_most false = omega arith

-- LAW: one set more; d is its digit
pub marked_more : {t t₁ t₂ : List ℕ} {f s n : ℕ} {g : ℕ → Bool} (x d : ℕ) → d ≡ digit (g s) → x ≡ from_bool (eqb d 1) → MarkedBy t t₁ f g s n → Turns t₁ t₂ (mark_if f s (eqb d 1))
    → MarkedBy t t₂ f g (s + 1) (n + x)
marked_more {t} {f} {s} {n} {g} x d e q a b = record {
  view =
      b.view ∙ (λ i. mark_if f s (digit_is (g s) d e i) (a.view i)) ∙ sym (mark_more (unpack t) f g s)
      ∙ ap (λ i. mark_to f g i (unpack t)) (sym (add-one s));
  packed = b.packed;
  counted = count_more g s n x a.counted (q ∙ byte_is (eqb d 1) ∙ ap digit (digit_is (g s) d e));
}

-- no set from 8 on is reached from one below
reached_out : (t : List ℕ) (f c s : ℕ) → c < 8 → 8 ≤ s → reached (unpack t) f c s ≡ false
unfolding reaches depends_on
reached_out t f c s hc hs = rw (ap (λ (r : SetRecord). r.level) (set_default t s hs)) (ne_eqb c s (omega arith))

-- the bits after marking
abbrev pub marks_bits : ℕ → ℕ → Tables → ℕ → Bool
marks_bits f c tb = bits_to (tb.files f) (reached tb f c) set_count tb.bits

-- LAW: marking, by the bits and the files
marks_by_bits : (f c : ℕ) (tb : Tables) → marks_down f c tb ≡ put_files f (mark_down (tree_of tb.sets) (tb.files f) c) (with_bits (marks_bits f c tb) tb)
unfolding marks_down
marks_by_bits f c tb =
    ap (λ (m : Memory). put_files f (mark_down (tree_of tb.sets) (tb.files f) c) (with_bits m.bits tb)) (sets_bits (tb.files f) (reached tb f c) (tree_of tb.sets) (memory_of tb no_pages) tb.bits)

-- LAW: all eight sets
pub marked_all : {t t' : List ℕ} {f c r : ℕ} → c < 8 → MarkedBy t t' f (reached (unpack t) f c) 8 r → Turns t t' (marks_down f c) × (r ≡ count 8 (reached (unpack t) f c)) × (r ≤ 8)
unfolding mark_down
marked_all {t} {f} {c} {r} hc m =
    let tb = unpack t in (
      record {
        view = m.view ∙ marks_are tb f (reached tb f c) 8
            ∙ ap (λ (x : Files ℕ). put_files f x (with_bits (marks_bits f c tb) tb)) (fun_ext (λ s. test? (ltb s 8) (λ e. rw e) (λ e. rw (e, reached_out t f c s hc (ltb-false s 8 e)))))
            ∙ sym (marks_by_bits f c tb);
        packed = m.packed;
      },
      m.counted,
      subst (λ x. x ≤ 8) (sym m.counted) (count_le 8 (reached tb f c)),
    )

-- ---- how many files are live after marking

count_split : (n : ℕ) (h l l' : ℕ → Bool) → ((s : ℕ) → h s ≡ true → (l s ≡ true) × (l' s ≡ false)) → ((s : ℕ) → h s ≡ false → l' s ≡ l s) → count n h + count n l' ≡ count n l
unfolding count
count_split zero h l l' a b = omega arith
count_split (suc n) h l l' a b =
    let r = count_split n h l l' a b in
    test? (h n) (λ e. rw (e, (a n e).0, (a n e).1) (omega arith)) (λ e. rw (e, b n e) (omega arith))

module _ (t : Tree) (files : Files ℕ) (c : ℕ) (alive : live (files c).state ≡ true) where
  depends_live : (n s : ℕ) → depends_on t files c n s ≡ true → live (files s).state ≡ true
  unfolding depends_on dependent
  depends_live zero s h = subst (λ x. live (files x).state ≡ true) (eqb-true c s h) alive
  depends_live (suc n) s h =
      test? (eqb c s) (λ e. subst (λ x. live (files x).state ≡ true) (eqb-true c s e) alive)
      (λ e. and_left (live (files s).state) _ (and_left (dependent (files s)) _ (or_then (eqb c s) (dependent (files s) && depends_on t files c n (t.parent s)) h e)))

  -- LAW: a file that is marked was live, and no other loses its state
  pub mark_count : count 8 (reaches t files c) + count 8 (λ s. live (mark_down t files c s).state) ≡ count 8 (λ s. live (files s).state)
  unfolding reaches mark_down
  mark_count = count_split 8 (reaches t files c) (λ s. live (files s).state) (λ s. live (mark_down t files c s).state) (λ s h. (depends_live (t.level s) s h, rw h)) (λ s h. rw h)

-- a block that a map names when c is marked was named before
mark_named : (t : Tree) (files : Files ℕ) (c s q b : ℕ) → (mark_down t files c s).map q ≡ stored b → (files s).map q ≡ stored b
mark_named t files c s q b e =
    test? (reaches t files c s)
    (λ h. absurd (not_stored unmapped b refl (ap (λ (x : File ℕ). x.map q) (sym (marked_by t files c s true h)) ∙ e)))
    (λ h. ap (λ (x : File ℕ). x.map q) (sym (marked_by t files c s false h)) ∙ e)

-- ---- marking is a step

-- the counts after it: n files more are marked, l blocks are free
abbrev pub more_marks : Counts → ℕ → ℕ → Counts
more_marks k n l = record { taken = k.taken; copies = k.copies; marks = k.marks + n; left = l }

-- LAW: every block of the files is one of the bitmap
pub all_blocks : {t p : List ℕ} {f : ℕ} {k : Counts} → Ready t p f k → (s : ℕ) → BlocksIn f s (unpack t)
all_blocks re s q b e = let z = re.sound.named s q b e in omega (arith, re.sound.header.most)

module _ {t p t₁ : List ℕ} {f : ℕ} {k : Counts} (c : ℕ) (re : Ready t p f k) (u : Turns t t₁ (marks_down f c)) where
  marks_view : unpack t₁ ≡ put_files f (mark_down (tree_of (unpack t).sets) ((unpack t).files f) c) (with_bits (marks_bits f c (unpack t)) (unpack t))
  marks_view = u.view ∙ marks_by_bits f c (unpack t)

  past : (b : ℕ) → (unpack t).blocks ≤ b → marks_bits f c (unpack t) b ≡ false
  past b l = bits_clear ((unpack t).files f) (reached (unpack t) f c) set_count b (unpack t).bits (re.sound.bits_past b l)

  -- LAW: the free blocks can be counted
  pub marked_countable : (length t₁ ≡ table_bytes) × ((unpack t₁).blocks ≤ 4096) × ((b : ℕ) → (unpack t₁).blocks ≤ b → (unpack t₁).bits b ≡ false)
  unfolding put_files
  marked_countable =
      subst (λ (y : Tables). (length t₁ ≡ table_bytes) × (y.blocks ≤ 4096) × ((b : ℕ) → y.blocks ≤ b → y.bits b ≡ false)) (sym marks_view)
      (u.packed.len, re.sound.header.most, past)

  -- LAW
  pub marked_step : (n l : ℕ) → c < 8 → live ((unpack t).files f c).state ≡ true → n ≡ count 8 (reached (unpack t) f c)
      → (l ≡ count (unpack t₁).blocks (λ b. not ((unpack t₁).bits b))) × (l ≤ 4096) → Step t p t₁ p f k (more_marks k n l) (mark real (tree_of (unpack t).sets) c)
  unfolding mark reaches put_files
  marked_step n l hc lc en el =
      let tb = unpack t in
      let tree = tree_of tb.sets in
      let x = mark_down tree (tb.files f) c in
      let so = re.sound in
      let cnt = mark_count tree (tb.files f) c lc in
      let one : count 8 (reached tb f c) ≡ suc (count 8 (upd (reached tb f c) c false)) = count_upd_false 8 (reached tb f c) c hc (reaches_self tree (tb.files f) c (tree.level c)) in
      changed (with_bits (marks_bits f c tb) tb) x refl marks_view re u.packed refl
      (sound_bits tb f x (marks_bits f c tb) so (λ s q b e. so.named s q b (mark_named tree (tb.files f) c s q b e)) past
      (el.0 ∙ ap (λ (y : Tables). count y.blocks (λ b. not (y.bits b))) marks_view) (omega (arith, so.room, el.1, en, one)) (omega (arith, so.alive, cnt, en)))
      (mark real tree c)
      (λ h i. record {
        memory = sym (sets_bits (tb.files f) (reached tb f c) tree (memory_of tb (pages_of p)) tb.bits) i;
        files = x;
        pending = h;
        taken = k.taken;
        copies = k.copies;
        marks = k.marks + en i;
      })
