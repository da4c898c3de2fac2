-- What a delete or a truncate leaves of other files, on any well-formed bytes. Assumes nothing.
use mathlib.Core.Bool.{false}
use mathlib.Core.Path.{subst, sym, ◌≡◌}
use Prim.Native.Nat.{ℕ, ◌≤◌}
use Rattle.history.proofs.CallImage.{marks_image, store_after}
use Rattle.history.proofs.Formed.{of_image}
use Rattle.history.proofs.Image.{image_store, image_of}
use Rattle.history.specs.Image.{after, store_in}
use Rattle.history.specs.Others.{Drops, OthersClaim, OthersKept, ReadsAs, by_delete, by_truncate}
use Rattle.rules.proofs.Agreement.OthersRead.{OthersIn, StillIn}
use Rattle.rules.proofs.Storages.CountCalls.{model_of}
use Rattle.rules.proofs.Whole.Order.{InOrder, order_step}
use Rattle.rules.proofs.Whole.OrderOthers.{delete_keeps, same_bytes, same_size, truncate_keeps, was_unmarked}
use Rattle.rules.specs.Calls.{Store, blank_memory, step}
use Rattle.rules.specs.Numbers.{Call}
use Rattle.rules.specs.State.{is_marked}
use Rattle.rules.specs.Storage.{real}

-- every file but f of set s, if it is not marked in the second store, reads there as in the first
abbrev OthersReadAs : ℕ → ℕ → Store real → Store real → Type 0
OthersReadAs s f st st' = (x y : ℕ) → (x ≡ f → y ≡ s → ⊥) → is_marked (st'.files x y).state ≡ false → ReadsAs st st' x y

module _ (B : ℕ) (least : 1 ≤ B) (most : B ≤ 4096) (r : Store real) (o : InOrder B r) (s f : ℕ) where
  -- every other file still reads in the model after the call
  drops_keep : (c : Call) → Drops s f c → OthersIn (model_of r) f s (model_of (step real (blank_memory B) c r).store)
  drops_keep _ by_delete = delete_keeps B least r o s f
  drops_keep _ (by_truncate n) = truncate_keeps B least r o s f n

  -- and so in the store
  drops_read : (c : Call) → Drops s f c → OthersReadAs s f r (step real (blank_memory B) c r).store
  drops_read c d x y ne u =
      let r' : Store real = (step real (blank_memory B) c r).store in
      let o' : InOrder B r' = order_step B least r o c in
      let k : StillIn (model_of r) (model_of r') x y = drops_keep c d x y ne in
      record {
        present = k.presence;
        unmarked = was_unmarked B r r' o o' x y k u;
        size = same_size B r r' o o' x y k u;
        bytes = same_bytes B r r' o o' x y k u;
      }

  -- and in its image
  others_image : (c : Call) → Drops s f c → OthersKept s f c (image_of r)
  others_image c d = record {
    reads = subst (λ x. OthersReadAs s f x (store_in (after c (image_of r)))) (sym (image_store B most r o))
        (subst (OthersReadAs s f r) (sym (store_after B least most r o c)) (drops_read c d));
    marks = marks_image B least most r o c;
  }

-- THEOREM
pub others : OthersClaim
others m bs h s f c d = of_image m bs h (OthersKept s f c) (λ B least most r o. others_image B least most r o s f c d)
