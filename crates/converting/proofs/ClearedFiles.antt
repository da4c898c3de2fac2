-- The marked files cleared one after another: each leaves what clearing all of them comes to, and where none is left nothing is to be cleared. Assumes nothing.
use mathlib.Core.Bool.{◌&&◌, Bool, false, not, true, true≢false, ◌||◌}
use mathlib.Core.List.{List}
use mathlib.Core.Path.{◌≡◌, ap, refl, subst, sym, ◌∙◌}
use Prim.Native.Nat.{◌%◌, ◌*◌, ◌+◌, ◌/◌, ◌<◌, suc, zero, ℕ}
use native.Mathlib.Nat.{zero-add}
use native.Mathlib.Omega.{arith}
use lib.Dec.{eqb}
use borrow.Author.Tests.{eq-eqb, ltb-true, ne_eqb}
use Rattle.base.specs.Count.{all, all_more, all_none}
use Rattle.base.specs.Logic.{and_both, and_false, and_left, and_right, and_true, same_test, same?, test?}
use Rattle.base.specs.Update.{upd, upd_other, upd_same}
use Rattle.converting.specs.Clearing.{cleared_file_in}
use Rattle.rules.proofs.Blocks.RealStore.{none_stored}
use Rattle.rules.proofs.Formed.Tests.{files_at_law, files_of_law, not_of, not_then, pages_at, pages_of}
use Rattle.rules.proofs.Tally.TallyLoops.{from_last, from_none}
use Rattle.rules.specs.Rules.{each, from, marked_file}
use Rattle.rules.specs.State.{Entry, File, State, Tables, hole, is_marked, largest_blocks, page_count, stored, unmapped}
use Rattle.rules.specs.Storage.{Memory}
use Rattle.rules.specs.WellFormed.{all_files, all_pages, bits_formed, block_below, blocks_formed, header_formed, names, pages_fit}
use Rattle.setchanges.proofs.Freeing.{free_map_bits, free_bit, freed_bits}
use Rattle.setchanges.specs.Changes.{BlocksIn, freed_in, marked_in, no_pages}
use Rattle.tables.proofs.FormedStore.{header_in}
use Rattle.tables.proofs.InRange.{file_in, page_in}
use Rattle.tables.proofs.ReadParts.{map_default, state_default}
use Rattle.tables.specs.Convert.{cleared, cleared_file, held_by_marked}
use Rattle.tables.specs.Layout.{table_bytes}
use Rattle.tables.specs.Packed.{block_rules, is_file, is_page, kinds_formed, older_set_rules, termed_well_formed, unpack}
use Rattle.tables.specs.Views.{PackedTables, Turns, memory_of, put_files}
use lib.ListN.{length}

-- ---- the bits after freeing the blocks of a map

free_bit_law : (e : Entry ℕ) (bits : ℕ → Bool) (b : ℕ) → free_bit e bits b ≡ (bits b && not (names b e))
free_bit_law unmapped bits b = sym (and_true (bits b))
free_bit_law hole bits b = sym (and_true (bits b))
free_bit_law (stored c) bits b = same? c b
    (λ q. subst (λ x. upd bits c false x ≡ (bits x && not (eqb x c))) q (upd_same bits c false ∙ sym (ap (λ x. bits c && not x) (eq-eqb c c refl) ∙ and_false (bits c))))
    (λ q. upd_other bits c false b q ∙ sym (ap (λ x. bits b && not x) (ne_eqb b c (λ e. q (sym e))) ∙ and_true (bits b)))

and_last : (x a n : Bool) → ((x && a) && n) ≡ (x && (n && a))
and_last false a n = refl
and_last true false n = sym (and_false n)
and_last true true n = sym (and_true n)

freed_first : (map : ℕ → Entry ℕ) (bits : ℕ → Bool) (b n : ℕ) → each (λ p. free_bit (map p)) (from 0 n) bits b ≡ (bits b && all n (λ p. not (names b (map p))))
freed_first map bits b zero = ap (λ (x : ℕ → Bool). x b) (from_none (λ p. free_bit (map p)) 0 bits) ∙ sym (ap (λ x. bits b && x) (all_none (λ p. not (names b (map p)))) ∙ and_true (bits b))
freed_first map bits b (suc n) =
    let g : ℕ → (ℕ → Bool) → ℕ → Bool = λ p. free_bit (map p) in
    let w : ℕ → Bool = each g (from 0 n) bits in
    ap (λ (x : ℕ → Bool). x b) (from_last g n 0 bits) ∙ ap (λ p. free_bit (map p) w b) (zero-add n) ∙ free_bit_law (map n) w b
    ∙ ap (λ x. x && not (names b (map n))) (freed_first map bits b n) ∙ and_last (bits b) (all n (λ p. not (names b (map p)))) (not (names b (map n)))
    ∙ ap (λ x. bits b && x) (sym (all_more n (λ p. not (names b (map p)))))

-- ---- one marked file cleared

-- does no entry of a marked file f of set s name block b
abbrev holds_not : Tables → ℕ → ℕ → ℕ → Bool
holds_not tb b f s = not (is_marked (tb.files f s).state) || all_pages (λ p. not (names b ((tb.files f s).map p)))

held_last : (x a f : Bool) → ((x && a) && not (not f)) ≡ (x && not (not (a && f)))
held_last false a f = refl
held_last true false f = refl
held_last true true f = refl

module _ (f s : ℕ) (tb : Tables) where
  abbrev marks : Tables
  marks = marked_in f s tb

  file_here : marks.files f s ≡ marked_file
  unfolding marked_in put_files freed_in
  file_here = ap (λ (x : ℕ → File ℕ). x s) (upd_same tb.files f (upd (tb.files f) s marked_file)) ∙ upd_same (tb.files f) s marked_file

  file_other : (g x : ℕ) → (f ≡ g → s ≡ x → ⊥) → marks.files g x ≡ tb.files g x
  unfolding marked_in put_files freed_in
  file_other g x n = same? f g
      (λ e. ap (λ (y : ℕ → File ℕ). y x) (subst (λ g. upd tb.files f (upd (tb.files f) s marked_file) g ≡ upd (tb.files g) s marked_file) e (upd_same tb.files f (upd (tb.files f) s marked_file)))
      ∙ upd_other (tb.files g) s marked_file x (n e))
      (λ e. ap (λ (y : ℕ → File ℕ). y x) (upd_other tb.files f (upd (tb.files f) s marked_file) g e))

  -- every file is that one or another
  file_cases : (P : ℕ → ℕ → Type 0) → P f s → ((g x : ℕ) → (f ≡ g → s ≡ x → ⊥) → P g x) → (g x : ℕ) → P g x
  file_cases P a b g x = same? f g
      (λ e. same? s x (λ q. subst (P g) q (subst (λ g. P g s) e a)) (λ q. b g x (λ u v. q v)))
      (λ e. b g x (λ u v. e u))

  -- LAW: blocks stay below 4,096
  pub marked_low : ((g x : ℕ) → BlocksIn g x tb) → (g x : ℕ) → BlocksIn g x marks
  marked_low low = file_cases (λ g x. BlocksIn g x marks)
      (λ p b e. absurd (none_stored b (sym (ap (λ (y : File ℕ). y.map p) file_here) ∙ e)))
      (λ g x n p b e. low g x p b (sym (ap (λ (y : File ℕ). y.map p) (file_other g x n)) ∙ e))

  module _ (lf : f < 16) (ls : s < 8) (m : is_marked (tb.files f s).state ≡ true) where
    files_after : (g x : ℕ) → cleared_file (marks.files g x) ≡ cleared_file (tb.files g x)
    files_after = file_cases (λ g x. cleared_file (marks.files g x) ≡ cleared_file (tb.files g x)) (ap cleared_file file_here ∙ rw m) (λ g x n. ap cleared_file (file_other g x n))

    module _ (b : ℕ) where
      -- no entry of that file names block b
      abbrev free : Bool
      free = all_pages (λ p. not (names b ((tb.files f s).map p)))

      held_same : (g x : ℕ) → (f ≡ g → s ≡ x → ⊥) → holds_not marks b g x ≡ holds_not tb b g x
      held_same g x n = ap (λ (y : File ℕ). not (is_marked y.state) || all_pages (λ p. not (names b (y.map p)))) (file_other g x n)

      held_here : holds_not marks b f s ≡ true
      held_here = ap (λ (y : File ℕ). not (is_marked y.state) || all_pages (λ p. not (names b (y.map p)))) file_here ∙ pages_of (λ p. not (names b unmapped)) (λ p l. refl)

      all_after : all_files (holds_not tb b) ≡ true → all_files (holds_not marks b) ≡ true
      all_after h = files_of_law (holds_not marks b)
          (file_cases (λ g x. g < 16 → x < 8 → holds_not marks b g x ≡ true) (λ k l. held_here) (λ g x n k l. held_same g x n ∙ files_at_law (holds_not tb b) h g x k l))

      all_before : free ≡ true → all_files (holds_not marks b) ≡ true → all_files (holds_not tb b) ≡ true
      all_before a h = files_of_law (holds_not tb b)
          (file_cases (λ g x. g < 16 → x < 8 → holds_not tb b g x ≡ true) (λ k l. not_of (is_marked (tb.files f s).state) free (λ e. a))
          (λ g x n k l. sym (held_same g x n) ∙ files_at_law (holds_not marks b) h g x k l))

      all_is : (free && all_files (holds_not marks b)) ≡ all_files (holds_not tb b)
      all_is = same_test (free && all_files (holds_not marks b)) (all_files (holds_not tb b))
          (λ h. all_before (and_left free (all_files (holds_not marks b)) h) (and_right free (all_files (holds_not marks b)) h))
          (λ h. and_both free (all_files (holds_not marks b)) (not_then (is_marked (tb.files f s).state) free (files_at_law (holds_not tb b) h f s lf ls) m) (all_after h))

      bits_freed : marks.bits b ≡ (tb.bits b && free)
      unfolding marked_in put_files freed_in freed_bits all_pages
      bits_freed =
          ap (λ (y : Memory). y.bits b) (free_map_bits (tb.files f s).map (memory_of tb no_pages) tb.bits) ∙ freed_first (tb.files f s).map tb.bits b page_count

      bits_after : (marks.bits b && not (held_by_marked marks b)) ≡ (tb.bits b && not (held_by_marked tb b))
      unfolding held_by_marked
      bits_after =
          ap (λ x. x && not (not (all_files (holds_not marks b)))) bits_freed ∙ held_last (tb.bits b) free (all_files (holds_not marks b))
          ∙ ap (λ x. tb.bits b && not (not x)) all_is

    -- LAW: what clearing all comes to is the same
    pub cleared_marked : cleared marks ≡ cleared tb
    unfolding cleared marked_in put_files freed_in
    cleared_marked = λ i. record {
      blocks = tb.blocks;
      next = tb.next;
      bits = λ b. bits_after b i;
      sets = tb.sets;
      files = λ g x. files_after g x i;
    }

-- ---- no marked file is left to clear

module _ (tb : Tables) (bare : (f s : ℕ) → is_marked (tb.files f s).state ≡ true → tb.files f s ≡ marked_file) where
  file_same : (f s : ℕ) → cleared_file (tb.files f s) ≡ tb.files f s
  file_same f s = test? (is_marked (tb.files f s).state) (λ m. rw m (sym (bare f s m))) (λ m. rw m)

  held_none : (b : ℕ) → held_by_marked tb b ≡ false
  unfolding held_by_marked
  held_none b =
      ap not (files_of_law (holds_not tb b) (λ f s k l. not_of (is_marked (tb.files f s).state) (all_pages (λ p. not (names b ((tb.files f s).map p)))) (λ m.
      pages_of (λ p. not (names b ((tb.files f s).map p))) (λ p j. ap (λ (x : File ℕ). not (names b (x.map p))) (bare f s m)))))

  bit_same : (b : ℕ) → (tb.bits b && not (held_by_marked tb b)) ≡ tb.bits b
  bit_same b = ap (λ x. tb.bits b && not x) (held_none b) ∙ and_true (tb.bits b)

  -- LAW
  cleared_bare : cleared tb ≡ tb
  unfolding cleared
  cleared_bare = λ i. record {
    blocks = tb.blocks;
    next = tb.next;
    bits = λ b. bit_same b i;
    sets = tb.sets;
    files = λ f s. file_same f s i;
  }

-- ---- one file of the tables, by the tests of the code

module _ (t : List ℕ) (f s : ℕ) (r : Bool) (l : State) (e : l ≡ ((unpack t).files f s).state) (q : r ≡ is_marked l) where
  marked_is : is_marked ((unpack t).files f s).state ≡ r
  marked_is = sym (q ∙ ap is_marked e)

  -- LAW: it is not marked
  pub clear_kept : PackedTables t → r ≡ false → Turns t t (cleared_file_in f s)
  unfolding cleared_file_in
  clear_kept k h = record { view = sym (rw (marked_is, h)); packed = k }

  -- LAW: it is
  pub clear_turns : (t' : List ℕ) → r ≡ true → Turns t t' (marked_in f s) → Turns t t' (cleared_file_in f s)
  unfolding cleared_file_in
  clear_turns t' h a = record { view = a.view ∙ sym (rw (marked_is, h)); packed = a.packed }

-- ---- the files in turn, that of number i % 16 in set i / 16

pub record Clearing (t₀ t : List ℕ) (n : ℕ) : Type 0 where
  pub packed : PackedTables t
  pub low : (f s : ℕ) → BlocksIn f s (unpack t)
  -- what clearing all comes to
  pub same : cleared (unpack t) ≡ cleared (unpack t₀)
  -- the first n are done
  pub done : (f s : ℕ) → f < 16 → s < 8 → s * 16 + f < n → is_marked ((unpack t).files f s).state ≡ true → (unpack t).files f s ≡ marked_file

-- LAW: at the start
pub clearing_start : (t : List ℕ) → PackedTables t → ((f s : ℕ) → BlocksIn f s (unpack t)) → Clearing t t 0
clearing_start t k low = record { packed = k; low = low; same = refl; done = λ f s hf hs l. absurd (omega arith) }

module _ (t₀ t : List ℕ) (n : ℕ) (k : Clearing t₀ t n) where
  -- LAW: one more
  module _ (l : n < 128) (t' : List ℕ) (a : Turns t t' (cleared_file_in (n % 16) (n / 16))) where
    abbrev f : ℕ
    f = n % 16

    abbrev s : ℕ
    s = n / 16

    -- the one that is cleared
    next_marked : is_marked ((unpack t).files f s).state ≡ true → Clearing t₀ t' (n + 1)
    unfolding cleared_file_in
    next_marked m =
        let v : unpack t' ≡ marked_in f s (unpack t) = a.view ∙ rw m in
        record {
          packed = a.packed;
          low = subst (λ (x : Tables). (g y : ℕ) → BlocksIn g y x) (sym v) (marked_low f s (unpack t) k.low);
          same = ap cleared v ∙ cleared_marked f s (unpack t) (omega arith) (omega arith) m ∙ k.same;
          done = subst (λ (x : Tables). (g y : ℕ) → g < 16 → y < 8 → y * 16 + g < n + 1 → is_marked (x.files g y).state ≡ true → x.files g y ≡ marked_file) (sym v)
              (file_cases f s (unpack t) (λ g y. g < 16 → y < 8 → y * 16 + g < n + 1 → is_marked ((marked_in f s (unpack t)).files g y).state ≡ true → (marked_in f s (unpack t)).files g y ≡ marked_file)
              (λ hg hy h e. file_here f s (unpack t))
              (λ g y d hg hy h e.
              let o = file_other f s (unpack t) g y d in
              let b : y * 16 + g < n = same? (y * 16 + g) n (λ q. absurd (d (omega arith) (omega arith))) (λ q. omega arith) in
              o ∙ k.done g y hg hy b (sym (ap (λ (x : File ℕ). is_marked x.state) o) ∙ e)));
        }

    -- the one that is not marked
    next_kept : is_marked ((unpack t).files f s).state ≡ false → Clearing t₀ t' (n + 1)
    unfolding cleared_file_in
    next_kept m =
        let v : unpack t' ≡ unpack t = a.view ∙ rw m in
        record {
          packed = a.packed;
          low = subst (λ (x : Tables). (g y : ℕ) → BlocksIn g y x) (sym v) k.low;
          same = ap cleared v ∙ k.same;
          done = subst (λ (x : Tables). (g y : ℕ) → g < 16 → y < 8 → y * 16 + g < n + 1 → is_marked (x.files g y).state ≡ true → x.files g y ≡ marked_file) (sym v)
              (λ g y hg hy h e. same? (y * 16 + g) n
              (λ q. let qg : g ≡ f = omega arith in let qy : y ≡ s = omega arith in
              absurd (true≢false (sym e ∙ (λ i. is_marked ((unpack t).files (qg i) (qy i)).state) ∙ m)))
              (λ q. k.done g y hg hy (omega arith) e));
        }

    pub clearing_next : Clearing t₀ t' (n + 1)
    clearing_next = test? (is_marked ((unpack t).files f s).state) next_marked next_kept

  -- LAW: all
  pub clearing_done : n ≡ 128 → Turns t₀ t cleared
  clearing_done e = record { view = sym (cleared_bare (unpack t) bare) ∙ k.same; packed = k.packed }
    where
      bare : (f s : ℕ) → is_marked ((unpack t).files f s).state ≡ true → (unpack t).files f s ≡ marked_file
      bare f s m = test? (is_file f s)
          (λ q. let l = file_in f s q in k.done f s l.0 l.1 (omega arith) m)
          (λ q. absurd (true≢false (sym m ∙ ap is_marked (state_default t f s q))))

-- ---- tables that are well formed by the rules before Ask 10

module _ (t : List ℕ) (n : ℕ) (h : termed_well_formed t n ≡ true) where
  blocks_pass : blocks_formed (unpack t) ≡ true
  unfolding termed_well_formed block_rules
  blocks_pass =
      and_right (eqb (length t) table_bytes && kinds_formed t) (blocks_formed (unpack t))
      (and_left (block_rules t) (pages_fit (unpack t) n) (and_left (block_rules t && pages_fit (unpack t) n) (older_set_rules t) h))

  below : (e : Entry ℕ) (c b : ℕ) → block_below c e ≡ true → e ≡ stored b → b < c
  below e c b q r = ltb-true b c (sym (ap (block_below c) r) ∙ q)

  -- LAW: every block that an entry names is one of the bitmap
  pub formed_low : (f s : ℕ) → BlocksIn f s (unpack t)
  unfolding bits_formed
  formed_low f s p b e = test? (is_page f s p)
      (λ q. let l = page_in f s p q in
      let k = and_right (header_formed (unpack t)) (bits_formed (unpack t)) blocks_pass in
      let all_below = and_right (all largest_blocks _) (all_files (λ f s. all_pages (λ p. block_below (unpack t).blocks (((unpack t).files f s).map p)))) k in
      let lb = below (((unpack t).files f s).map p) (unpack t).blocks b
      (pages_at (λ p. block_below (unpack t).blocks (((unpack t).files f s).map p)) (files_at_law (λ f s. all_pages (λ p. block_below (unpack t).blocks (((unpack t).files f s).map p))) all_below f s l.0 l.1) p l.2) e in
      let most = (header_in (unpack t) (and_left (header_formed (unpack t)) (bits_formed (unpack t)) blocks_pass)).most in
      omega (arith, lb, most))
      (λ q. absurd (none_stored b (sym (map_default t f s p q) ∙ e)))
