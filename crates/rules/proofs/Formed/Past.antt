-- No page wholly past the size resolves to stored: kept by a change of one file. With it, that write, truncate and delete over the model keep the rules on files. Assumes nothing.
use mathlib.Core.Bool.{Bool, false, true, true≢false}
use mathlib.Core.List.{List, Memᴰ, []}
use mathlib.Core.Logic.{⊎_elim}
use mathlib.Core.Path.{ap, refl, subst, sym, ◌∙◌, ◌≡◌}
use Prim.Native.Nat.{◌%◌, ◌*◌, ◌+◌, ◌-◌, ◌/◌, ◌<◌, max, suc, zero, ℕ, ◌≤◌}
use native.Mathlib.Nat.{div-add-mod'}
use native.Mathlib.Omega.{arith}
use lib.Dec.{eqb, ltb}
use lib.ListN.{length}
use borrow.Author.Tests.{eqb-false, ltb-false, ltb-true}
use Rattle.base.specs.Logic.{same?, test?}
use Rattle.rules.proofs.Agreement.Agree.{from_high, from_mem, touched_once}
use Rattle.rules.proofs.Agreement.Change.{Changed, changed}
use Rattle.rules.proofs.Agreement.Delete.{deleted}
use Rattle.rules.proofs.Storages.Model.{model}
use Rattle.rules.proofs.Steps.Groups.{extra_under}
use Rattle.rules.proofs.Steps.OneStep.{Alive}
use Rattle.rules.proofs.Steps.States.{live_present}
use Rattle.rules.proofs.Formed.MarkedBare.{bare_change, bare_delete}
use Rattle.rules.proofs.Formed.Shape.{FilesFormed, Fit, fit_change, shape_delete, size_most}
use Rattle.rules.proofs.Agreement.Truncate.{apart, dropped_under, kept_in, kept_once, kept_part, part_in}
use Rattle.rules.proofs.Steps.WriterSteps.{NoDup, mem?}
use Rattle.rules.specs.Reading.{resolve, size_by_reading}
use Rattle.rules.specs.Rules.{Work, change, cut_pages, delete_file, dropped_pages, extra_pages, kept_pages, part_pages, touched, truncate_as, truncate_file, write_file}
use Rattle.rules.specs.State.{Entry, Files, Tree, is_stored, live}
use Rattle.rules.specs.Storage.{PageData, overlay, zero_from}
use Rattle.rules.proofs.Steps.Handing.{ProperTree}

-- The file of one set is another, and keeps the rule itself; the others that are alive were so before and read what they read.
module _ {K : Type 0} (t t' : Tree) (a b : Files K) (s : ℕ) (k : FilesFormed t a)
    (alive : (x : ℕ) → (s ≡ x → ⊥) → Alive b x → Alive a x)
    (page : (x p : ℕ) → p < 64 → (s ≡ x → ⊥) → Alive b x → resolve t' b x p ≡ resolve t a x p)
    (size : (x : ℕ) → (s ≡ x → ⊥) → Alive b x → size_by_reading t' b x ≡ size_by_reading t a x)
    (self : (p : ℕ) → p < 64 → Alive b s → size_by_reading t' b s ≤ p * 512 → is_stored (resolve t' b s p) ≡ false) where
  pub past_one : (x p : ℕ) → p < 64 → Alive b x → size_by_reading t' b x ≤ p * 512 → is_stored (resolve t' b x p) ≡ false
  past_one x p l h z =
      same? s x
      (λ e. subst (λ y. Alive b y → size_by_reading t' b y ≤ p * 512 → is_stored (resolve t' b y p) ≡ false) e (self p l) h z)
      (λ n. rw (page x p l n h) (k.past x p l (alive x n h) (subst (λ m. m ≤ p * 512) (size x n h) z)))

-- the pages of a write, and of a cut
touched_end : (off n p : ℕ) → Memᴰ p (touched off n) → p * 512 < off + n
unfolding touched
touched_end off zero p m = elim m [ ]
touched_end off (suc n) p m = let h = from_high (off / 512) (suc ((off + n) / 512 - off / 512)) p m in omega arith

cut_end : (n z p : ℕ) → n < z → Memᴰ p (cut_pages n z) → p * 512 < z
unfolding cut_pages
cut_end n z p l m = let h = from_high (n / 512) (suc ((z - 1) / 512 - n / 512)) p m in omega arith

-- a page wholly past the new size is dropped
dropped_past : (n z p : ℕ) → n ≤ p * 512 → p * 512 < z → Memᴰ p (dropped_pages n z)
unfolding dropped_pages cut_pages
dropped_past n z p l h =
    test? (eqb (n % 512) 0)
    (λ e. rw e (from_mem (n / 512) (suc ((z - 1) / 512 - n / 512)) p (omega arith) (omega arith)))
    (λ e. let o : suc (n / 512) ≤ p = odd (n / 512) (n % 512) p (eqb-false (n % 512) 0 e) (omega arith) (omega (arith, div-add-mod' n 512)) in
    rw e (from_mem (suc (n / 512)) ((z - 1) / 512 - n / 512) p o (omega arith)))
  where
    odd : (q r p : ℕ) → (r ≡ 0 → ⊥) → r < 512 → q * 512 + r ≤ p * 512 → suc q ≤ p
    odd q r p n b l = same? r 0 (λ e. absurd (n e)) (λ d. omega arith)

module _ (t : Tree) (proper : ProperTree t) (s : ℕ) (w : Work model) (k : FilesFormed t w.files) where
  -- DELETE
  pub delete_formed : FilesFormed t (delete_file model t s w).files
  delete_formed =
      let r = deleted t proper s w k.ok in
      record {
        shape = shape_delete model t s proper w k.shape;
        ok = r.ok';
        past = past_one t t w.files (delete_file model t s w).files s k r.alive r.page r.size (λ p l h z. absurd (true≢false (sym h ∙ ap live r.empty)));
        bare_marked = bare_delete model t s proper w k.bare_marked;
      }

  module _ (al : Alive w.files s) where
    fit : Fit t s w.files
    fit = record { shape = k.shape; here = live_present (w.files s).state al }

    -- any change of the file in s
    change_formed : (ps rs ds es : List ℕ) (lay : ℕ → PageData → PageData) (sz : ℕ → ℕ) → ((p : ℕ) → Memᴰ p ps → p < 64) →
        (in-r : (p : ℕ) → Memᴰ p rs → Memᴰ p ps) → ((p : ℕ) → Memᴰ p ds → Memᴰ p rs → ⊥) → ((p : ℕ) → Memᴰ p ds → p < 64) → ((p : ℕ) → Memᴰ p es → p < 64) → NoDup rs → ((n : ℕ) → n ≤ 32768 → sz n ≤ 32768) →
        ((p : ℕ) → p < 64 → (Memᴰ p ds → ⊥) → sz (size_by_reading t w.files s) ≤ p * 512 → (Memᴰ p rs → ⊥) × (size_by_reading t w.files s ≤ p * 512)) →
        FilesFormed t (change model t s ps rs ds es lay sz w).files
    change_formed ps rs ds es lay sz under in-r away under-d under-e nd most past =
        let b : Files PageData = (change model t s ps rs ds es lay sz w).files in
        let r : Changed t s rs ds lay sz w.files b = changed t proper s ps rs ds es in-r away under-d nd lay sz w k.ok al in
        record {
          shape = (fit_change model t s proper ps rs ds es lay sz under (λ p m. under p (in-r p m)) under-d under-e most w fit).shape;
          ok = r.ok';
          past = past_one t t w.files b s k (λ x n. r.alive x) r.page r.size
              (λ p l h z. ⊎_elim
              (λ m. ap is_stored (r.cut_page' p l m))
              (λ o. let q = past p l o (subst (λ m. m ≤ p * 512) r.new_size z) in ap is_stored (r.old_page p l q.0 o) ∙ k.past s p l al q.1)
              (mem? p ds));
          bare_marked = bare_change model t s proper ps rs ds es lay sz w k.bare_marked;
        }

    -- WRITE
    pub write_formed : (g off : ℕ) (bs : List ℕ) → off + length bs ≤ 32768 → FilesFormed t (write_file model t g s off bs w).files
    unfolding write_file
    write_formed g off bs l =
        change_formed (touched off (length bs)) (touched off (length bs)) [] (extra_pages g off (length bs)) (overlay off bs) (λ n. max n (off + length bs))
        (λ p m. let e = touched_end off (length bs) p m in omega arith) (λ p m. m) (λ p m o. elim m [ ]) (λ p m. elim m [ ]) (λ p m. extra_under g off (length bs) p l m) (touched_once off (length bs)) (λ n h. omega arith)
        (λ p h o z. (λ m. let e = touched_end off (length bs) p m in omega arith, omega arith))

    -- TRUNCATE
    pub truncate_formed : (n : ℕ) → n ≤ 32768 → FilesFormed t (truncate_file model t s n w).files
    unfolding truncate_file truncate_as
    truncate_formed n l = go (eqb n size) (ltb size n) refl refl
      where
        size : ℕ
        size = size_by_reading t w.files s

        go : (b c : Bool) → eqb n size ≡ b → ltb size n ≡ c → FilesFormed t (truncate_as model t b c s n size w).files
        go true c e h = k
        go false true e h =
            let d = ltb-true size n h in
            change_formed [] [] [] [] (λ p v. v) (λ m. n) (λ p m. elim m [ ]) (λ p m. m) (λ p m o. elim m [ ]) (λ p m. elim m [ ]) (λ p m. elim m [ ]) tt (λ m h. l) (λ p h o z. (o, omega arith))
        go false false e h =
            let d = ltb-false size n h in
            let n≢ = eqb-false n size e in
            let less : n < size = same? n size (λ q. absurd (n≢ q)) (λ q. omega arith) in
            let kept : Entry PageData = resolve t w.files s (n / 512) in
            change_formed (part_pages n) (kept_pages n kept) (dropped_pages n size) [] (λ p. zero_from (n % 512)) (λ m. n)
            (λ p m. let a = cut_end n size p less (part_in n size p m) in let b = size_most t w.files k.shape s in omega arith)
            (kept_part n kept) (apart n size kept) (λ p m. dropped_under n size p (size_most t w.files k.shape s) less m) (λ p m. elim m [ ]) (kept_once n kept) (λ m h. l)
            (λ p h o z.
            let f : size ≤ p * 512 = test? (ltb (p * 512) size) (λ q. absurd (o (dropped_past n size p z (ltb-true (p * 512) size q)))) (λ q. ltb-false (p * 512) size q) in
            (λ m. let a = cut_end n size p less (kept_in n size kept p m) in omega arith, f))
