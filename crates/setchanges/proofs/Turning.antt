-- Changes of one file of the tables. Assumes nothing.
use mathlib.Core.Path.{◌≡◌, ap, ◌∙◌}
use Prim.Native.Nat.{ℕ}
use Rattle.base.specs.Update.{upd, upd_same, upd_self, upd_upd}
use Rattle.rules.specs.State.{File, Files, Tables}
use Rattle.tables.proofs.Operations.{files_same}
use Rattle.tables.specs.Views.{put_files}

-- file f of set s is changed by g
abbrev pub change_file : ℕ → ℕ → (File ℕ → File ℕ) → Tables → Tables
change_file f s g tb = put_files f (upd (tb.files f) s (g (tb.files f s))) tb

module _ (f s : ℕ) (tb : Tables) where
  -- not changed
  pub change_none : (g : File ℕ → File ℕ) → g (tb.files f s) ≡ tb.files f s → change_file f s g tb ≡ tb
  unfolding put_files
  change_none g e =
      files_same tb (upd tb.files f (upd (tb.files f) s (g (tb.files f s)))) tb.files
      (ap (λ (x : File ℕ). upd tb.files f (upd (tb.files f) s x)) e ∙ ap (upd tb.files f) (upd_self (tb.files f) s) ∙ upd_self tb.files f)

  -- changed twice
  pub change_twice : (g h : File ℕ → File ℕ) → change_file f s g (change_file f s h tb) ≡ change_file f s (λ x. g (h x)) tb
  unfolding put_files
  change_twice g h =
      let x : File ℕ = h (tb.files f s) in
      let one : Files ℕ = upd (tb.files f) s x in
      let here : upd tb.files f one f ≡ one = upd_same tb.files f one in
      let file : upd tb.files f one f s ≡ x = ap (λ (y : Files ℕ). y s) here ∙ upd_same (tb.files f) s x in
      let two : upd (upd tb.files f one f) s (g (upd tb.files f one f s)) ≡ upd (tb.files f) s (g x) =
      (λ i. upd (here i) s (g (file i))) ∙ upd_upd (tb.files f) s x (g x) in
      files_same tb _ _ (upd_upd tb.files f one _ ∙ ap (upd tb.files f) two)
