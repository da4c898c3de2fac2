-- What a truncate or a delete leaves of the other files, over the model: each of them that stays own or virgin reads what it read. Assumes nothing.
use mathlib.Core.Bool.{Bool, false, true}
use mathlib.Core.List.{List}
use mathlib.Core.Path.{refl, subst, sym, ◌≡◌}
use Prim.Native.Nat.{◌<◌, suc, zero, ℕ, ◌≤◌}
use native.Mathlib.Omega.{arith}
use lib.Dec.{eqb, ltb}
use borrow.Author.Tests.{eqb-false, ltb-false}
use Rattle.base.specs.Logic.{same?}
use Rattle.base.specs.Update.{upd, upd_other, upd_same}
use Rattle.rules.proofs.Agreement.AgreeCalls.{Orderly}
use Rattle.rules.proofs.Agreement.Change.{Changed}
use Rattle.rules.proofs.Agreement.Delete.{Gone, deleted}
use Rattle.rules.proofs.Agreement.Truncate.{cut_off, filled_up}
use Rattle.rules.proofs.Steps.Handing.{ProperTree}
use Rattle.rules.proofs.Steps.OneStep.{Alive, FilesOk}
use Rattle.rules.proofs.Storages.Model.{model}
use Rattle.rules.proofs.Whole.Accepted.{passed_truncate}
use Rattle.rules.specs.Calls.{Store, accepted, begin, result_of, step, tree_in, view_of, worked}
use Rattle.rules.specs.Numbers.{Call, delete, number_of, truncate}
use Rattle.rules.specs.Reading.{resolve, size_by_reading}
use Rattle.rules.specs.Rules.{Work, delete_file, truncate_as, truncate_file}
use Rattle.rules.specs.State.{Files, Tree, is_absent}
use Rattle.rules.specs.Storage.{PageData}

-- The file of set x, after in b over the tree t', before in a over t: it is absent in both or in neither; and if it is own or virgin after,
-- it was so before and reads what it read
pub record StillReads {K : Type 0} (t t' : Tree) (a b : Files K) (x : ℕ) : Type 0 where
  pub presence : is_absent (b x).state ≡ is_absent (a x).state
  pub alive : Alive b x → Alive a x
  pub page : (p : ℕ) → p < 64 → Alive b x → resolve t' b x p ≡ resolve t a x p
  pub size : Alive b x → size_by_reading t' b x ≡ size_by_reading t a x

-- where nothing changes
still : {K : Type 0} (t : Tree) (a : Files K) (x : ℕ) → StillReads t t a a x
still t a x = record { presence = refl; alive = λ h. h; page = λ p l h. refl; size = λ h. refl }

-- ---- the files of one number, that of set s being changed

-- every other file reads what it read
abbrev pub OthersRead : Tree → ℕ → Files PageData → Files PageData → Type 0
OthersRead t s a b = (x : ℕ) → (s ≡ x → ⊥) → StillReads t t a b x

-- by a change
changed_others : {t : Tree} {s : ℕ} {rs ds : List ℕ} {lay : ℕ → PageData → PageData} {sz : ℕ → ℕ} {a b : Files PageData} →
    Changed t s rs ds lay sz a b → OthersRead t s a b
changed_others r x n = record { presence = r.presence x; alive = r.alive x; page = λ p l h. r.page x p l n h; size = r.size x n }

-- by its end
gone_others : {t : Tree} {s : ℕ} {a b : Files PageData} → Gone t s a b → OthersRead t s a b
gone_others r x n = record { presence = r.presence x n; alive = r.alive x n; page = λ p l h. r.page x p l n h; size = r.size x n }

module _ (t : Tree) (proper : ProperTree t) (s : ℕ) (w : Work model) (k : FilesOk t w.files) where
  -- a truncate to the size changes nothing; above it and below it, it is a change
  truncated_others : Alive w.files s → size_by_reading t w.files s ≤ 32768 → (n : ℕ) → OthersRead t s w.files (truncate_file model t s n w).files
  unfolding truncate_file truncate_as
  truncated_others al most n = go (eqb n z) (ltb z n) refl refl
    where
      z : ℕ
      z = size_by_reading t w.files s

      go : (b c : Bool) → eqb n z ≡ b → ltb z n ≡ c → OthersRead t s w.files (truncate_as model t b c s n z w).files
      go true c e d = λ x ne. still t w.files x
      go false true e d = changed_others (filled_up t proper s n w k al)
      go false false e d =
          let h = eqb-false n z e in let h' = ltb-false z n d in
          changed_others (cut_off t proper s n w k al z most (omega arith))

  -- a delete, of a marked file or of a live one
  deleted_others : OthersRead t s w.files (delete_file model t s w).files
  deleted_others = gone_others (deleted t proper s w k)

-- ---- the files of all numbers

-- file f of set s, in one store and in another
abbrev pub StillIn : Store model → Store model → ℕ → ℕ → Type 0
StillIn st st' f s = StillReads (tree_in model st) (tree_in model st') (st.files f) (st'.files f) s

module _ (st : Store model) where
  -- every other than file f of set s
  abbrev pub OthersIn : ℕ → ℕ → Store model → Type 0
  OthersIn f s st' = (x y : ℕ) → (x ≡ f → y ≡ s → ⊥) → StillIn st st' x y

  -- the files of number f are worked on
  worked_others : (f s : ℕ) (w : Work model) → OthersRead (tree_in model st) s (st.files f) w.files → OthersIn f s (worked model st f w).store
  unfolding worked
  worked_others f s w k x y ne =
      let t = tree_in model st in
      same? f x
      (λ e. subst (λ z. StillReads t t (st.files z) (upd st.files f w.files z) y) e
      (rw (upd_same st.files f w.files) (k y (λ d. ne (sym e) (sym d)))))
      (λ n. rw (upd_other st.files f w.files x n) (still t (st.files x) y))

  module _ (B : ℕ) where
    -- a call that is refused leaves all files
    step_others : (c : Call) (f s : ℕ) → (number_of (view_of model true true st) c ≡ 0 → OthersIn f s (accepted model B c st).store)
        → OthersIn f s (step model B c st).store
    unfolding step result_of
    step_others c f s k = go (number_of (view_of model true true st) c) refl
      where
        go : (n : ℕ) → number_of (view_of model true true st) c ≡ n → OthersIn f s (result_of model n B c st).store
        go zero e = k e
        go (suc n) e = λ x y ne. still (tree_in model st) (st.files x) y

    module _ (v : Orderly st) where
      -- A TRUNCATE
      pub truncate_others : (s f n : ℕ) → OthersIn f s (step model B (truncate s f n) st).store
      unfolding accepted
      truncate_others s f n = step_others (truncate s f n) f s (λ e.
          let al = (passed_truncate (view_of model true true st) s f n e).alive in
          worked_others f s _ (truncated_others (tree_in model st) v.proper s (begin model st f) (v.files_ok f) al (v.small f s) n))

      -- A DELETE
      pub delete_others : (s f : ℕ) → OthersIn f s (step model B (delete s f) st).store
      unfolding accepted
      delete_others s f = step_others (delete s f) f s (λ e.
          worked_others f s _ (deleted_others (tree_in model st) v.proper s (begin model st f) (v.files_ok f)))
