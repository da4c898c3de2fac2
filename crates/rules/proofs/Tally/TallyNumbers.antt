-- A store over `counting` and a tally that agree; their needs, and the number that the table gives a call on each. Assumes nothing.
use mathlib.Core.Bool.{◌&&◌, Bool, cond, false, not, true}
use mathlib.Core.List.{◌∷◌, []}
use mathlib.Core.Path.{ap, refl, sym, ◌∙◌, ◌≡◌}
use Prim.Native.Nat.{◌%◌, ◌+◌, ◌/◌, ℕ, ◌≤◌}
use native.Mathlib.Nat.{add-zero}
use lib.Dec.{eqb, ltb}
use lib.ListN.{length}
use borrow.Author.Tests.{ltb-false}
use Rattle.base.specs.Logic.{test?}
use Rattle.rules.proofs.Storages.Model.{counting}
use Rattle.rules.proofs.Steps.Handing.{ProperTree}
use Rattle.rules.proofs.Steps.OneStep.{FilesOk, TreeOk}
use Rattle.rules.proofs.Tally.TallyLoops.{byte_pages, count_pages}
use Rattle.rules.proofs.Tally.TallyReach.{NoVirginRoot, kind_resolve, no_virgin_root, size_reading}
use Rattle.rules.specs.Calls.{Store, tree_in, view_of}
use Rattle.rules.specs.Numbers.{Call, View, conditions, create, delete, format, lowest, make, number_of, read, remove, tell_free, tell_size, truncate, write}
use Rattle.rules.specs.Plain.{Plain}
use Rattle.rules.specs.Reading.{resolve, size_by_reading}
use Rattle.rules.specs.Rules.{count_in, kept_pages, own_need, touched, truncate_need}
use Rattle.rules.specs.State.{State, Tree, highest_level, is_stored, largest_size, page_bytes, tree_of}
use Rattle.rules.specs.Tally.{Tally, TallyFiles, judged, tally_size, tally_truncate_need, tally_write_need}

-- the tally of a store
abbrev pub tally_of : Store counting → Tally
tally_of k = record { tree = tree_in counting k; files = k.files; free = k.memory }

-- ta is the tally of k
pub record Tallies (k : Store counting) (ta : Tally) : Type 0 where
  pub tree : ta.tree ≡ tree_of k.sets
  pub files : (f : ℕ) → ta.files f ≡ k.files f
  pub free : ta.free ≡ k.memory

pub tallies_is : (k : Store counting) (ta : Tally) → Tallies k ta → ta ≡ tally_of k
tallies_is k ta h = λ i. record { tree = h.tree i; files = λ f. h.files f i; free = h.free i }

pub tallies_of : (k : Store counting) (ta : Tally) → ta ≡ tally_of k → Tallies k ta
tallies_of k ta e = record { tree = ap (λ (x : Tally). x.tree) e; files = λ f. ap (λ (x : Tally). x.files f) e; free = ap (λ (x : Tally). x.free) e }

-- what is asked of the store, and what a store has whose tables are well formed: the sets in order, no level over 5, the files in order, no size over 32,768
pub record TallyOrderly (k : Store counting) : Type 0 where
  pub proper : ProperTree (tree_in counting k)
  pub shallow : (s : ℕ) → (k.sets s).level ≤ highest_level
  pub files_ok : (f : ℕ) → FilesOk (tree_in counting k) (k.files f)
  pub small : (f s : ℕ) → (k.files f s).size ≤ largest_size

-- THE NEEDS
pub write_need_law : (fs : TallyFiles) (s off n : ℕ) → off + n ≤ largest_size → tally_write_need fs s off n ≡ own_need counting s (touched off n) fs
unfolding tally_write_need own_need
write_need_law fs s off n l = count_pages (byte_pages off n (λ z. l)) (λ p. not (is_stored ((fs s).map p)))

one_page : (a b : Bool) (p : ℕ) (h : ℕ → Bool) → cond (a && b && h p) 1 0 ≡ count_in (cond (a && b) (p ∷ []) []) h
unfolding count_in
one_page true true p h = sym (add-zero _)
one_page true false p h = refl
one_page false b p h = refl

-- a truncate below the size
pub kept_need : (t : Tree) (fs : TallyFiles) (s n : ℕ) → ltb n (tally_size t fs s) ≡ true → tally_truncate_need t fs s n ≡ own_need counting s (kept_pages n (resolve t fs s (n / page_bytes))) fs
unfolding tally_truncate_need own_need kept_pages
kept_need t fs s n h =
    rw (h, kind_resolve t fs s (n / page_bytes))
    (one_page (not (eqb (n % page_bytes) 0)) (is_stored (resolve t fs s (n / page_bytes))) (n / page_bytes) (λ p. not (is_stored ((fs s).map p))))

truncate_need_law : (t : Tree) → TreeOk t → (fs : TallyFiles) → NoVirginRoot t fs → (s n : ℕ) → tally_truncate_need t fs s n ≡ truncate_need counting t s n fs
unfolding truncate_need tally_truncate_need
truncate_need_law t ok fs nv s n =
    let z : tally_size t fs s ≡ size_by_reading t fs s = size_reading t fs ok nv s in
    test? (ltb n (size_by_reading t fs s))
    (λ e. rw e (kept_need t fs s n (ap (ltb n) z ∙ e)))
    (λ e. rw (z, e))

-- THE NUMBERS
module _ (tr : Tree) (st : ℕ → ℕ → State) (fr : ℕ) where
  abbrev view_with : (ℕ → ℕ → ℕ → ℕ → ℕ) → (ℕ → ℕ → ℕ → ℕ) → View
  view_with wn tn = record { formed = true; formats = true; tree = tr; state = st; free = fr; write_need = wn; truncate_need = tn }

  -- needs that agree up to 32,768 give the same numbers: past it, number 7 comes first
  same_number : (wn wn' : ℕ → ℕ → ℕ → ℕ → ℕ) (tn tn' : ℕ → ℕ → ℕ → ℕ) → ((s f off n : ℕ) → off + n ≤ largest_size → wn s f off n ≡ wn' s f off n) → ((s f n : ℕ) → tn s f n ≡ tn' s f n) →
      (c : Call) → number_of (view_with wn tn) c ≡ number_of (view_with wn' tn') c
  unfolding number_of conditions lowest
  same_number wn wn' tn tn' h k format = refl
  same_number wn wn' tn tn' h k (create s f) = refl
  same_number wn wn' tn tn' h k (write g s f off bs) =
      test? (ltb largest_size (off + length bs)) (λ e. rw e) (λ e. rw (e, h s f off (length bs) (ltb-false largest_size (off + length bs) e)))
  same_number wn wn' tn tn' h k (read s f off buffer) = refl
  same_number wn wn' tn tn' h k (truncate s f n) = rw (k s f n)
  same_number wn wn' tn tn' h k (delete s f) = refl
  same_number wn wn' tn tn' h k (make s c w) = refl
  same_number wn wn' tn tn' h k (remove s) = refl
  same_number wn wn' tn tn' h k (tell_size s f) = refl
  same_number wn wn' tn tn' h k tell_free = refl

-- THE NUMBER OF A CALL on the plain store's sets and the tally is its number on the store
pub same_numbers : (k : Store counting) (ta : Tally) (pl : Plain) → TallyOrderly k → Tallies k ta → pl.tree ≡ ta.tree → (c : Call) →
    number_of (judged pl ta) c ≡ number_of (view_of counting true true k) c
same_numbers k ta pl o h e c =
    let q : ta ≡ tally_of k = tallies_is k ta h in
    ap (λ (v : View). number_of v c) (λ i. record {
      formed = true;
      formats = true;
      tree = (e ∙ h.tree) i;
      state = λ f s. ((q i).files f s).state;
      free = (q i).free;
      write_need = λ s f off n. tally_write_need ((q i).files f) s off n;
      truncate_need = λ s f n. tally_truncate_need (q i).tree ((q i).files f) s n;
    })
    ∙ same_number (tree_in counting k) (λ f s. (k.files f s).state) k.memory _ _ _ _
    (λ s f off n l. write_need_law (k.files f) s off n l)
    (λ s f n. truncate_need_law (tree_in counting k) o.proper.ok (k.files f) (no_virgin_root (tree_in counting k) (k.files f) o.proper.ok (o.files_ok f)) s n) c
