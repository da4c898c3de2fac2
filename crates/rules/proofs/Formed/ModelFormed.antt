-- Every accepted call keeps sets and files of the model in order. Assumes nothing.
use mathlib.Core.Bool.{Bool, true}
use mathlib.Core.List.{◌∷◌, []}
use mathlib.Core.Path.{ap, refl, subst, ◌∙◌, ◌≡◌}
use Prim.Native.Nat.{◌<◌, ℕ, ◌≤◌}
use native.Mathlib.Omega.{arith}
use Rattle.base.specs.Logic.{same?}
use Rattle.base.specs.Update.{upd, upd_all, upd_other, upd_same}
use Rattle.rules.proofs.Whole.Accepted.{MayMake, MayRemove, passed_create, passed_delete, passed_make, passed_remove, passed_truncate, passed_write}
use Rattle.rules.proofs.Formed.FilesOfSets.{create_formed, format_formed, make_records, remove_records}
use Rattle.rules.proofs.Tree.MakeSet.{make_sets}
use Rattle.rules.proofs.Storages.Model.{model}
use Rattle.rules.proofs.Steps.OneStep.{TreeOk}
use Rattle.rules.proofs.Formed.Past.{delete_formed, truncate_formed, write_formed}
use Rattle.rules.proofs.Tree.RemoveSet.{remove_sets}
use Rattle.rules.proofs.Tree.SetsOk.{SetsOk, format_sets, proper_tree}
use Rattle.rules.proofs.Formed.Shape.{FilesFormed}
use Rattle.rules.specs.Calls.{Store, accepted, begin, created, formatted, made, removed, tree_in, view_of, worked}
use Rattle.rules.specs.Numbers.{Call, View, create, delete, format, make, number_of, read, remove, tell_free, tell_size, truncate, write}
use Rattle.rules.specs.Sets.{child_file, root_alone}
use Rattle.rules.specs.State.{File, Files, Tree, absent_file, tree_of}
use Rattle.rules.specs.Storage.{PageData}
use Rattle.rules.proofs.Steps.Handing.{ProperTree}

-- the rules on sets and files hold, and there are no files from number 16 on
pub record ModelFormed (m : Store model) : Type 0 where
  pub sets_ok : SetsOk m.sets
  pub files_ok : (f : ℕ) → FilesFormed (tree_in model m) (m.files f)
  pub numbers : (f s : ℕ) → 16 ≤ f → m.files f s ≡ absent_file

-- the files of one number below 16 are changed
one_number : (m : Store model) → ModelFormed m → (f : ℕ) → f < 16 → (b : Files PageData) (n : ℕ) → FilesFormed (tree_in model m) b →
    ModelFormed (record { memory = n; sets = m.sets; files = upd m.files f b })
one_number m v f l b n k = record {
  sets_ok = v.sets_ok;
  files_ok = λ g. same? f g
      (λ e. subst (λ y. FilesFormed (tree_in model m) (upd m.files f b y)) e (rw (upd_same m.files f b) k))
      (λ d. rw (upd_other m.files f b g d) (v.files_ok g));
  numbers = λ g s h. ap (λ (c : Files PageData). c s) (upd_other m.files f b g (λ e. absurd (omega arith))) ∙ v.numbers g s h;
}

module _ (m : Store model) (v : ModelFormed m) (B : ℕ) where
  abbrev now : View
  now = view_of model true true m

  abbrev t : Tree
  t = tree_in model m

  numbers_at : (g c s : ℕ) (x : File PageData) → 16 ≤ g → x ≡ absent_file → upd (m.files g) c x s ≡ absent_file
  numbers_at g c s x h e = upd_all (λ (y : File PageData). y ≡ absent_file) (m.files g) c x e (λ s. v.numbers g s h) s

  make_kept : (s c : ℕ) (w : Bool) → MayMake now s c → ModelFormed (made model s c w m)
  unfolding made
  make_kept s c w a = record {
    sets_ok = make_sets m.sets v.sets_ok s c w a.set.used a.new a.unused a.level_in;
    files_ok = λ f. make_records m.sets v.sets_ok (m.files f) (v.files_ok f) s c w a.set.used a.new a.unused;
    numbers = λ g x h. numbers_at g c x (child_file (m.files g s)) h (ap child_file (v.numbers g s h));
  }

  remove_kept : (c : ℕ) → MayRemove now c → ModelFormed (removed model c m)
  unfolding removed
  remove_kept c a = record {
    sets_ok = remove_sets m.sets v.sets_ok c a.set.used a.not_root a.childless;
    files_ok = λ f. remove_records m.sets v.sets_ok (m.files f) (v.files_ok f) c a.set.used a.not_root a.childless;
    numbers = λ g x h. numbers_at g c x absent_file h refl;
  }

  format_kept : ModelFormed (formatted model B)
  unfolding formatted
  format_kept = record { sets_ok = format_sets; files_ok = λ f. format_formed (tree_of root_alone); numbers = λ g s h. refl }

  tree_ok : TreeOk t
  tree_ok = v.sets_ok.tree

  proper : ProperTree t
  proper = proper_tree m.sets v.sets_ok

  -- AN ACCEPTED CALL
  pub accepted_formed : (c : Call) → number_of now c ≡ 0 → ModelFormed (accepted model B c m).store
  unfolding accepted created worked
  accepted_formed format h = format_kept
  accepted_formed (create s f) h =
      let a = passed_create now s f h in
      one_number m v f a.file _ _ (create_formed t tree_ok (m.files f) (v.files_ok f) s a.set.used a.set.low a.gone)
  accepted_formed (write g s f off []) h = v
  accepted_formed (write g s f off (x ∷ bs)) h =
      let a = passed_write now g s f off (x ∷ bs) h in
      one_number m v f a.file _ _ (write_formed t proper s (begin model m f) (v.files_ok f) a.alive g off (x ∷ bs) a.end_in)
  accepted_formed (read s f off buffer) h = v
  accepted_formed (truncate s f n) h =
      let a = passed_truncate now s f n h in
      one_number m v f a.file _ _ (truncate_formed t proper s (begin model m f) (v.files_ok f) a.alive n a.end_in)
  accepted_formed (delete s f) h =
      let a = passed_delete now s f h in
      one_number m v f a.file _ _ (delete_formed t proper s (begin model m f) (v.files_ok f))
  accepted_formed (make s c w) h = make_kept s c w (passed_make now s c w h)
  accepted_formed (remove s) h = remove_kept s (passed_remove now s h)
  accepted_formed (tell_size s f) h = v
  accepted_formed tell_free h = v
