-- Compaction of the image of a store in order: the image of a store in order with the same model. Assumes nothing.
use mathlib.Core.Bool.{true}
use mathlib.Core.List.{List}
use mathlib.Core.Path.{◌≡◌, ap, refl, ◌∙◌}
use Prim.Native.Nat.{ℕ, ◌≤◌}
use lib.ListN.{length}
use Rattle.base.specs.Logic.{same?}
use Rattle.compaction.proofs.Cases.{compact_accepted, compact_spare}
use Rattle.compaction.proofs.Compacted.{compacted_model, compacted_order}
use Rattle.compaction.specs.Call.{Free, compact_on, left_by}
use Rattle.compaction.specs.Compact.{compacted}
use Rattle.history.proofs.Image.{image_formed, image_store, image_of}
use Rattle.history.specs.Compaction.{compacted_by}
use Rattle.history.specs.Image.{image_left}
use Rattle.rules.proofs.Storages.CountCalls.{model_of}
use Rattle.rules.proofs.Whole.Order.{InOrder}
use Rattle.rules.specs.Calls.{Store}
use Rattle.rules.specs.Storage.{real}
use Rattle.tables.specs.Packed.{well_formed}

module _ (B : ℕ) (most : B ≤ 4096) (r : Store real) (o : InOrder B r) (spare : List ℕ) (free : Free) where
  abbrev t : List ℕ
  t = (image_of r).tables

  abbrev p : List ℕ
  p = (image_of r).pages

  formed : well_formed t (length p) ≡ true
  formed = image_formed B most r o

  -- it is accepted
  pub new_outcome : length spare ≡ 512 → compact_on spare free t p ≡ left_by (compacted free.pages r) free.spare
  new_outcome e = compact_accepted spare free t p formed e ∙ ap (λ (x : Store real). left_by (compacted free.pages x) free.spare) (image_store B most r o)

  pub new_image : length spare ≡ 512 → compacted_by spare free (image_of r) ≡ image_of (compacted free.pages r)
  new_image e = ap image_left (new_outcome e)

  -- WHAT IS LEFT, accepted or refused
  pub record Left : Type 0 where
    pub store : Store real
    pub image : compacted_by spare free (image_of r) ≡ image_of store
    pub order : InOrder B store
    pub model : model_of store ≡ model_of r

  pub compacting : Left
  compacting = same? (length spare) 512
      (λ e. record {
        store = compacted free.pages r;
        image = new_image e;
        order = compacted_order B free.pages r o;
        model = compacted_model B free.pages r o;
      })
      (λ n. record { store = r; image = ap image_left (compact_spare spare free t p formed n); order = o; model = refl })
