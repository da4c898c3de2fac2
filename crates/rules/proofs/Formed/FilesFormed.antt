-- The tests of well formed tables on files say what FilesFormed says, in both directions; with those on sets, what setsFormed says. Assumes nothing.
use mathlib.Core.Bool.{◌&&◌, false, not, true, true≢false, ◌||◌}
use mathlib.Core.Logic.{⊎_elim}
use mathlib.Core.Path.{ap, fun_ext, refl, subst, sym, ◌∙◌, ◌≡◌}
use Prim.Native.Nat.{◌*◌, ◌<◌, suc, zero, ℕ, ◌≤◌}
use native.Mathlib.Omega.{arith}
use lib.Dec.{eqb, ltb}
use borrow.Author.Tests.{eq-eqb, eqb-true, le-leb, le-ltb, leb-true, ltb-false, ltb-true, not-true}
use Rattle.base.specs.Count.{all, all_at, all_of}
use Rattle.base.specs.Logic.{and_both, and_left, and_right, test?}
use Rattle.rules.proofs.Formed.FilesOfSets.{format_formed}
use Rattle.rules.proofs.Steps.OneStep.{Alive, FilesOk, resolve_up, size_up}
use Rattle.rules.proofs.Steps.Reached.{some_unmapped_law, unmapped_some}
use Rattle.rules.proofs.Steps.States.{absent_is, live_present, marked_is, other_own, own_is, own_or_virgin, unmapped_is, virgin_is}
use Rattle.rules.proofs.Tree.SetsFormed.{sets_formed_law, terms_formed_law, tree_formed_law, zero_sets_formed}
use Rattle.rules.proofs.Tree.SetsOk.{SetsOk, set_listed}
use Rattle.rules.proofs.Formed.MarkedBare.{MarkedBare}
use Rattle.rules.proofs.Formed.Shape.{FileFits, FilesFormed, Shape, fits_absent}
use Rattle.rules.proofs.Formed.Tests.{all_3, all_4, and_3, and_4, files_at_law, files_of_law, not_of, not_then, or_of, or_then, pages_at, pages_of}
use Rattle.rules.proofs.Steps.WriterSteps.{size_here}
use Rattle.rules.specs.Reading.{dependent, resolve, size_by_reading, some_unmapped}
use Rattle.rules.specs.Rules.{marked_file}
use Rattle.rules.specs.State.{File, Files, State, Tables, Tree, absent, absent_file, is_absent, is_marked, is_own, is_stored, is_unmapped, is_virgin, live, marked, own, tree_of, unmapped, unused_set, virgin}
use Rattle.rules.specs.WellFormed.{above_formed, all_files, all_pages, all_sets, files_formed, marks_formed, older_sets_formed, past_formed, root_file_formed, sets_formed, size_formed, terms_formed, tree_formed, virgin_formed, zero_file, zero_set, zeros_formed}

-- what lies out of range in the tables: unused sets, absent files, unmapped entries
pub record Ranged (tb : Tables) : Type 0 where
  pub no_sets : (s : ℕ) → 8 ≤ s → tb.sets s ≡ unused_set
  pub no_numbers : (f s : ℕ) → 16 ≤ f → tb.files f s ≡ absent_file
  pub no_files : (f s : ℕ) → 8 ≤ s → tb.files f s ≡ absent_file
  pub no_pages : (f s p : ℕ) → 64 ≤ p → (tb.files f s).map p ≡ unmapped

-- size 0 and only unmapped entries
zero_size : (x : File ℕ) → zero_file x ≡ true → x.size ≡ 0
zero_size x h = eqb-true x.size 0 (and_left (eqb x.size 0) _ h)

zero_map : (x : File ℕ) → zero_file x ≡ true → (p : ℕ) → p < 64 → x.map p ≡ unmapped
zero_map x h p l = unmapped_is (x.map p) (pages_at (λ p. is_unmapped (x.map p)) (and_right (eqb x.size 0) (all_pages (λ p. is_unmapped (x.map p))) h) p l)

zero_file_law : (x : File ℕ) → x.size ≡ 0 → ((p : ℕ) → p < 64 → x.map p ≡ unmapped) → zero_file x ≡ true
zero_file_law x e h = and_both (eqb x.size 0) _ (eq-eqb x.size 0 e) (pages_of (λ p. is_unmapped (x.map p)) (λ p l. ap is_unmapped (h p l)))

-- THE RULES BEFORE ASK 10 on the files of one number: a marked file may keep its record
pub record FilesBefore {K : Type 0} (t : Tree) (files : Files K) : Type 0 where
  pub shape : Shape t files
  pub ok : FilesOk t files
  pub past : (s p : ℕ) → p < 64 → Alive files s → size_by_reading t files s ≤ p * 512 → is_stored (resolve t files s p) ≡ false

module _ {K : Type 0} {t : Tree} {files : Files K} where
  before_of : FilesFormed t files → FilesBefore t files
  before_of h = record { shape = h.shape; ok = h.ok; past = h.past }

  with_bare : FilesBefore t files → MarkedBare files → FilesFormed t files
  with_bare h m = record { shape = h.shape; ok = h.ok; past = h.past; bare_marked = m }

-- FROM THE TESTS
module _ (tb : Tables) (r : Ranged tb) (so : SetsOk tb.sets) (absents : all_files (λ f s. not (is_absent (tb.files f s).state) || zero_file (tb.files f s)) ≡ true)
    (unuseds : all_files (λ f s. (tb.sets s).used || is_absent (tb.files f s).state) ≡ true) (formed : files_formed tb ≡ true) where
  -- the four parts
  parts : (all_files (λ f s. size_formed (tb.files f s) && virgin_formed (tb.files f s)) ≡ true) × (all 16 (λ f. root_file_formed (tb.files f 0)) ≡ true)
      × (all_files (above_formed tb) ≡ true) × (all_files (past_formed tb) ≡ true)
  unfolding files_formed
  parts =
      and_4 (all_files (λ f s. size_formed (tb.files f s) && virgin_formed (tb.files f s))) (all 16 (λ f. root_file_formed (tb.files f 0))) (all_files (above_formed tb)) (all_files (past_formed tb))
      formed

  -- one number
  module _ (f : ℕ) (f16 : f < 16) where
    abbrev t : Tree
    t = tree_of tb.sets

    abbrev files : Files ℕ
    files = tb.files f

    present_below : (s : ℕ) → is_absent (files s).state ≡ false → s < 8
    present_below s a = test? (ltb s 8) (λ e. ltb-true s 8 e) (λ e. absurd (true≢false (sym (ap (λ (x : File ℕ). is_absent x.state) (r.no_files f s (ltb-false s 8 e))) ∙ a)))

    alive_below : (s : ℕ) → Alive files s → s < 8
    alive_below s h = present_below s (live_present (files s).state h)

    both : (s : ℕ) → s < 8 → (size_formed (files s) && virgin_formed (files s)) ≡ true
    both s l = files_at_law (λ f s. size_formed (tb.files f s) && virgin_formed (tb.files f s)) parts.0 f s f16 l

    virgin_zero : (s : ℕ) → s < 8 → (files s).state ≡ virgin → zero_file (files s) ≡ true
    virgin_zero s l v = not_then (is_virgin (files s).state) (zero_file (files s)) (and_right (size_formed (files s)) (virgin_formed (files s)) (both s l)) (ap is_virgin v)

    root_parts : is_absent (files 0).state ≡ false → (not (is_virgin (files 0).state) ≡ true) × (not (is_marked (files 0).state) ≡ true) × (not (some_unmapped 64 (files 0).map) ≡ true)
    root_parts a =
        and_3 (not (is_virgin (files 0).state)) (not (is_marked (files 0).state)) (not (some_unmapped 64 (files 0).map))
        (or_then (is_absent (files 0).state) _ (all_at 16 (λ f. root_file_formed (tb.files f 0)) parts.1 f f16) a)

    root_is_own : is_absent (files 0).state ≡ false → (files 0).state ≡ own
    root_is_own a = let q = root_parts a in other_own (files 0).state a q.0 q.1

    root_is_full : is_absent (files 0).state ≡ false → (p : ℕ) → p < 64 → (files 0).map p ≡ unmapped → ⊥
    root_is_full a p l u = true≢false (sym (unmapped_some (files 0).map p 64 l u) ∙ not-true (some_unmapped 64 (files 0).map) (root_parts a).2)

    zero_blank : (s : ℕ) (l : State) → (files s).state ≡ l → zero_file (files s) ≡ true → files s ≡ record { state = l; size = 0; map = λ p. unmapped }
    zero_blank s l e z = λ i. record {
      state = e i;
      size = zero_size (files s) z i;
      map = λ p. test? {P = (files s).map p ≡ unmapped} (ltb p 64) (λ e. zero_map (files s) z p (ltb-true p 64 e)) (λ e. r.no_pages f s p (ltb-false p 64 e)) i;
    }

    absent_blank : (s : ℕ) → s < 8 → is_absent (files s).state ≡ true → files s ≡ absent_file
    absent_blank s l a =
        zero_blank s absent (absent_is (files s).state a)
        (not_then (is_absent (files s).state) (zero_file (files s)) (files_at_law (λ f s. not (is_absent (tb.files f s).state) || zero_file (tb.files f s)) absents f s f16 l) a)

    fits : (s : ℕ) → s < 8 → FileFits t s (files s)
    fits s l = record {
      empty = absent_blank s l;
      unused = λ u. or_then (tb.sets s).used (is_absent (files s).state) (files_at_law (λ f s. (tb.sets s).used || is_absent (tb.files f s).state) unuseds f s f16 l) u;
      out = λ k. absurd (omega arith);
      beyond = r.no_pages f s;
      most = leb-true (files s).size 32768 (and_left (size_formed (files s)) (virgin_formed (files s)) (both s l));
      bare_size = λ v. zero_size (files s) (virgin_zero s l v);
      root_own = λ z. subst (λ x. is_absent (files x).state ≡ false → (files x).state ≡ own) (sym z) root_is_own;
      root_full = λ z. subst (λ x. is_absent (files x).state ≡ false → (p : ℕ) → p < 64 → (files x).map p ≡ unmapped → ⊥) (sym z) root_is_full;
    }

    shape_at : Shape t files
    shape_at s = test? (ltb s 8) (λ e. fits s (ltb-true s 8 e)) (λ e. rw (r.no_files f s (ltb-false s 8 e)) (fits_absent t s))

    ok_at : FilesOk t files
    unfolding dependent
    ok_at = record {
      closed = λ s p l h u.
          not_then (dependent (files s)) (live (files (tb.sets s).parent).state) (files_at_law (above_formed tb) parts.2 f s f16 (alive_below s h)) (rw h (unmapped_some (files s).map p 64 l u));
      listed = λ s p l h u.
          let a = live_present (files s).state h in
          set_listed tb.sets so s (test? (tb.sets s).used (λ e. e) (λ e. absurd (true≢false (sym ((shape_at s).unused e) ∙ a)))) (λ z. (shape_at s).root_full z a p l u);
      bare = λ s p l v. zero_map (files s) (virgin_zero s (alive_below s (ap live v)) v) p l;
    }

    own_past : (s p : ℕ) → p < 64 → (files s).state ≡ own → size_by_reading t files s ≤ p * 512 → is_stored (resolve t files s p) ≡ false
    unfolding past_formed
    own_past s p l o z =
        let e = size_here t files s o in
        let h = not_then (is_own (files s).state) _ (files_at_law (past_formed tb) parts.3 f s f16 (alive_below s (ap live o))) (ap is_own o) in
        not-true (is_stored (resolve t files s p))
        (or_then (ltb (p * 512) (files s).size) _ (pages_at (λ p. ltb (p * 512) (files s).size || not (is_stored (resolve t files s p))) h p l) (le-ltb (p * 512) (files s).size (omega arith)))

    -- a virgin file by that above it
    module _ (s p : ℕ) (l : p < 64) (h : Alive files s) (v : (files s).state ≡ virgin) where
      above_level : (tb.sets s).level ≡ suc (tb.sets (tb.sets s).parent).level
      above_level = so.tree.kid_lvl (tb.sets s).parent s (ok_at.listed s p l h (ok_at.bare s p l v))

      virgin_past : (Alive files (tb.sets s).parent → size_by_reading t files (tb.sets s).parent ≤ p * 512 → is_stored (resolve t files (tb.sets s).parent p) ≡ false) →
          size_by_reading t files s ≤ p * 512 → is_stored (resolve t files s p) ≡ false
      virgin_past rec z =
          let u = ok_at.bare s p l v in
          ap is_stored (resolve_up t files s p above_level u) ∙ rec (ok_at.closed s p l h u) (subst (λ n. n ≤ p * 512) (size_up t files s above_level v) z)

    past_at : (n s p : ℕ) → (tb.sets s).level ≡ n → p < 64 → Alive files s → size_by_reading t files s ≤ p * 512 → is_stored (resolve t files s p) ≡ false
    past_at zero s p e l h z =
        ⊎_elim (λ o. own_past s p l o z) (λ v. let a = above_level s p l h v in absurd (omega arith)) (own_or_virgin (files s).state h)
    past_at (suc n) s p e l h z =
        ⊎_elim (λ o. own_past s p l o z)
        (λ v. virgin_past s p l h v (past_at n (tb.sets s).parent p (let a = above_level s p l h v in omega arith) l) z) (own_or_virgin (files s).state h)

    number_before : FilesBefore t files
    number_before = record { shape = shape_at; ok = ok_at; past = λ s p l h z. past_at (tb.sets s).level s p refl l h z }

    module _ (marks : marks_formed tb ≡ true) where
      marked_blank : (s : ℕ) → (files s).state ≡ marked → files s ≡ marked_file
      unfolding marks_formed
      marked_blank s e =
          zero_blank s marked e
          (not_then (is_marked (files s).state) (zero_file (files s))
          (files_at_law (λ f s. not (is_marked (tb.files f s).state) || zero_file (tb.files f s)) marks f s f16 (present_below s (ap is_absent e))) (ap is_marked e))

  -- the files of every number: before Ask 10, and with its rule
  files_before : (f : ℕ) → FilesBefore (tree_of tb.sets) (tb.files f)
  files_before f =
      test? (ltb f 16) (λ e. number_before f (ltb-true f 16 e))
      (λ e. let q : tb.files f ≡ (λ s. absent_file) = fun_ext (λ s. r.no_numbers f s (ltb-false f 16 e)) in rw q (before_of (format_formed (tree_of tb.sets))))

  files_formed_law : marks_formed tb ≡ true → (f : ℕ) → FilesFormed (tree_of tb.sets) (tb.files f)
  files_formed_law marks f =
      test? (ltb f 16) (λ e. with_bare (files_before f) (marked_blank f (ltb-true f 16 e) marks))
      (λ e. with_bare (files_before f) (λ s m. absurd (true≢false (sym (ap is_marked m) ∙ ap (λ (x : File ℕ). is_marked x.state) (r.no_numbers f s (ltb-false f 16 e))))))

-- TO THE TESTS
module _ (tb : Tables) (k : (f : ℕ) → f < 16 → FilesFormed (tree_of tb.sets) (tb.files f)) where
  root_file_formed_law : (f : ℕ) → f < 16 → root_file_formed (tb.files f 0) ≡ true
  root_file_formed_law f l =
      let x : File ℕ = tb.files f 0 in
      or_of (is_absent x.state) _
      (λ a. let o = ((k f l).shape 0).root_own refl a in
      all_3 (not (is_virgin x.state)) (not (is_marked x.state)) (not (some_unmapped 64 x.map)) (rw o) (rw o)
      (test? (some_unmapped 64 x.map) (λ e. let u = some_unmapped_law x.map 64 e in absurd (((k f l).shape 0).root_full refl a u.0 u.1 u.2)) (λ e. rw e)))

  virgin_file_formed : (f s : ℕ) → f < 16 → virgin_formed (tb.files f s) ≡ true
  virgin_file_formed f s l =
      not_of (is_virgin (tb.files f s).state) (zero_file (tb.files f s))
      (λ v. let e = virgin_is (tb.files f s).state v in zero_file_law (tb.files f s) (((k f l).shape s).bare_size e) (λ p h. (k f l).ok.bare s p h e))

  above_file_formed : (f s : ℕ) → f < 16 → above_formed tb f s ≡ true
  unfolding dependent
  above_file_formed f s l =
      let x : File ℕ = tb.files f s in
      not_of (dependent x) (live (tb.files f (tb.sets s).parent).state)
      (λ d. let u = some_unmapped_law x.map 64 (and_right (live x.state) (some_unmapped 64 x.map) d) in
      (k f l).ok.closed s u.0 u.1 (and_left (live x.state) (some_unmapped 64 x.map) d) u.2)

  past_file_formed : (f s : ℕ) → f < 16 → past_formed tb f s ≡ true
  unfolding past_formed
  past_file_formed f s l =
      let x : File ℕ = tb.files f s in
      let t : Tree = tree_of tb.sets in
      not_of (is_own x.state) _
      (λ o. let w = own_is x.state o in
      pages_of (λ p. ltb (p * 512) x.size || not (is_stored (resolve t (tb.files f) s p)))
      (λ p h. or_of (ltb (p * 512) x.size) (not (is_stored (resolve t (tb.files f) s p)))
      (λ e. let z = ltb-false (p * 512) x.size e in let q = size_here t (tb.files f) s w in rw ((k f l).past s p h (ap live w) (omega arith)))))

  tests_files : files_formed tb ≡ true
  unfolding files_formed
  tests_files =
      all_4 (all_files (λ f s. size_formed (tb.files f s) && virgin_formed (tb.files f s))) (all 16 (λ f. root_file_formed (tb.files f 0))) (all_files (above_formed tb)) (all_files (past_formed tb))
      (files_of_law (λ f s. size_formed (tb.files f s) && virgin_formed (tb.files f s))
      (λ f s l h. and_both (size_formed (tb.files f s)) (virgin_formed (tb.files f s)) (le-leb (tb.files f s).size 32768 ((k f l).shape s).most) (virgin_file_formed f s l)))
      (all_of 16 (λ f. root_file_formed (tb.files f 0)) root_file_formed_law)
      (files_of_law (above_formed tb) (λ f s l h. above_file_formed f s l))
      (files_of_law (past_formed tb) (λ f s l h. past_file_formed f s l))

  tests_absent : all_files (λ f s. not (is_absent (tb.files f s).state) || zero_file (tb.files f s)) ≡ true
  tests_absent =
      files_of_law (λ f s. not (is_absent (tb.files f s).state) || zero_file (tb.files f s))
      (λ f s l h. not_of (is_absent (tb.files f s).state) (zero_file (tb.files f s))
      (λ a. let e = ((k f l).shape s).empty a in zero_file_law (tb.files f s) (ap (λ (x : File ℕ). x.size) e) (λ p b. ap (λ (x : File ℕ). x.map p) e)))

  tests_unused : all_files (λ f s. (tb.sets s).used || is_absent (tb.files f s).state) ≡ true
  tests_unused =
      files_of_law (λ f s. (tb.sets s).used || is_absent (tb.files f s).state)
      (λ f s l h. or_of (tb.sets s).used (is_absent (tb.files f s).state) (λ u. ((k f l).shape s).unused u))

  tests_marked : marks_formed tb ≡ true
  unfolding marks_formed
  tests_marked =
      files_of_law (λ f s. not (is_marked (tb.files f s).state) || zero_file (tb.files f s))
      (λ f s l h. not_of (is_marked (tb.files f s).state) (zero_file (tb.files f s))
      (λ m. let e = (k f l).bare_marked s (marked_is (tb.files f s).state m) in zero_file_law (tb.files f s) (ap (λ (x : File ℕ). x.size) e) (λ p b. ap (λ (x : File ℕ). x.map p) e)))

-- SETS AND FILES TOGETHER
pub record StateOk (tb : Tables) : Type 0 where
  pub sets_ok : SetsOk tb.sets
  pub files_ok : (f : ℕ) → FilesFormed (tree_of tb.sets) (tb.files f)

-- what the tests before Ask 10 give
pub record StateBefore (tb : Tables) : Type 0 where
  pub sets_ok : SetsOk tb.sets
  pub files_before : (f : ℕ) → FilesBefore (tree_of tb.sets) (tb.files f)

module _ (tb : Tables) (r : Ranged tb) (h : older_sets_formed tb ≡ true) where
  tests : (zeros_formed tb ≡ true) × (tree_formed tb ≡ true) × (terms_formed tb ≡ true) × (files_formed tb ≡ true)
  tests = and_4 (zeros_formed tb) (tree_formed tb) (terms_formed tb) (files_formed tb) h

  zeros : (all_sets (λ s. (tb.sets s).used || zero_set (tb.sets s)) ≡ true) × (all_files (λ f s. not (is_absent (tb.files f s).state) || zero_file (tb.files f s)) ≡ true)
      × (all_files (λ f s. (tb.sets s).used || is_absent (tb.files f s).state) ≡ true)
  unfolding zeros_formed
  zeros =
      and_3 (all_sets (λ s. (tb.sets s).used || zero_set (tb.sets s))) (all_files (λ f s. not (is_absent (tb.files f s).state) || zero_file (tb.files f s)))
      (all_files (λ f s. (tb.sets s).used || is_absent (tb.files f s).state)) tests.0

  so : SetsOk tb.sets
  so = sets_formed_law tb r.no_sets tests.1 zeros.0 tests.2

  pub before_state : StateBefore tb
  before_state = record { sets_ok = so; files_before = files_before tb r so zeros.1 zeros.2 tests.3 }

  with_marks : marks_formed tb ≡ true → StateOk tb
  with_marks m = record { sets_ok = so; files_ok = files_formed_law tb r so zeros.1 zeros.2 tests.3 m }

pub formed_state : (tb : Tables) → Ranged tb → sets_formed tb ≡ true → StateOk tb
formed_state tb r h =
    with_marks tb r (and_left (older_sets_formed tb) (marks_formed tb) h) (and_right (older_sets_formed tb) (marks_formed tb) h)

pub state_formed : (tb : Tables) → StateOk tb → sets_formed tb ≡ true
unfolding zeros_formed
state_formed tb k =
    and_both (older_sets_formed tb) (marks_formed tb)
    (all_4 (zeros_formed tb) (tree_formed tb) (terms_formed tb) (files_formed tb)
    (all_3 (all_sets (λ s. (tb.sets s).used || zero_set (tb.sets s))) (all_files (λ f s. not (is_absent (tb.files f s).state) || zero_file (tb.files f s)))
    (all_files (λ f s. (tb.sets s).used || is_absent (tb.files f s).state))
    (zero_sets_formed tb k.sets_ok) (tests_absent tb (λ f l. k.files_ok f)) (tests_unused tb (λ f l. k.files_ok f)))
    (tree_formed_law tb k.sets_ok)
    (terms_formed_law tb k.sets_ok)
    (tests_files tb (λ f l. k.files_ok f)))
    (tests_marked tb (λ f l. k.files_ok f))
