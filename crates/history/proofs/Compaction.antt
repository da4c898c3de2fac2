-- What a compaction does and leaves, of any well-formed bytes, and when it is refused. Assumes nothing.
use mathlib.Core.Bool.{true}
use mathlib.Core.List.{List}
use mathlib.Core.Path.{◌≡◌, ap, subst, sym, ◌∙◌}
use Prim.Native.Nat.{◌<◌, ℕ, ◌≤◌}
use lib.ListN.{length}
use Rattle.compaction.proofs.Again.{pages_again, tables_again}
use Rattle.compaction.proofs.Cases.{compact_spare, compact_unformed}
use Rattle.compaction.proofs.Compacted.{compacted_free, compacted_model, compacted_order, compacted_renumbered}
use Rattle.compaction.specs.Call.{Free, compact_on}
use Rattle.compaction.specs.Compact.{compacted}
use Rattle.compaction.specs.Renumbered.{Renumbered, used_in}
use Rattle.history.proofs.CallImage.{gave_image}
use Rattle.history.proofs.Compacting.{new_image, new_outcome}
use Rattle.history.proofs.Formed.{of_image}
use Rattle.history.proofs.Image.{image_formed, image_store, image_of}
use Rattle.history.specs.Compaction.{Compaction, CompactionClaim, CompactionRefusedClaim, SameUsed, compacted_by}
use Rattle.history.specs.Image.{Image, gave, store_in}
use Rattle.rules.proofs.Storages.CountCalls.{model_of}
use Rattle.rules.proofs.Storages.Model.{model}
use Rattle.rules.proofs.Whole.Order.{InOrder}
use Rattle.rules.proofs.Whole.Quiet.{gives_quiet}
use Rattle.rules.specs.Calls.{Store, tree_in}
use Rattle.rules.specs.Numbers.{Call, no_counts}
use Rattle.rules.specs.Storage.{real}
use Rattle.tables.specs.Calls.{Outcome}
use Rattle.tables.specs.Packed.{pack, well_formed}

module _ (B : ℕ) (least : 1 ≤ B) (most : B ≤ 4096) where
  -- the store after a compaction of the image of a store in order
  module _ (r : Store real) (o : InOrder B r) (spare : List ℕ) (len : length spare ≡ 512) (free : Free) where
    abbrev r' : Store real
    r' = compacted free.pages r

    abbrev order : InOrder B r'
    order = compacted_order B free.pages r o

    abbrev image : compacted_by spare free (image_of r) ≡ image_of r'
    image = new_image B most r o spare free len

    store_after : store_in (compacted_by spare free (image_of r)) ≡ r'
    store_after = ap store_in image ∙ image_store B most r' order

    reads_same : (c : Call) → gave c (image_of r') ≡ gave c (image_of r)
    reads_same c =
        let e : model_of r' ≡ model_of r = compacted_model B free.pages r o in
        gave_image B least most r' order c
        ∙ gives_quiet B least r r' (ap (λ (m : Store model). tree_in model m) e) (λ f. ap (λ (m : Store model). m.files f) e) (ap (λ (m : Store model). m.memory) e) o order c
        ∙ sym (gave_image B least most r o c)

  -- a second one changes nothing but what is free
  module _ (r : Store real) (o : InOrder B r) (spare : List ℕ) (len : length spare ≡ 512) (free : Free) (spare' : List ℕ) (len' : length spare' ≡ 512) (free' : Free) where
    second_same : SameUsed (image_of (r' r o spare len free)) (compacted_by spare' free' (image_of (r' r o spare len free)))
    second_same =
        let one : Store real = r' r o spare len free in
        let ord : InOrder B one = order r o spare len free in
        let back = image_store B most one ord in
        record {
          tables = ap (λ (m : Image). m.tables) (image one ord spare' len' free') ∙ ap pack (tables_again B r o free.pages free'.pages);
          pages = λ b h.
              ap (λ (x : Store real). x.memory.pages b) (store_after one ord spare' len' free')
              ∙ pages_again B r o free.pages free'.pages b (sym (ap (λ (x : Store real). x.memory.bits b) back) ∙ h)
              ∙ sym (ap (λ (x : Store real). x.memory.pages b) back);
        }

  leaves : (r : Store real) → InOrder B r → (spare : List ℕ) → length spare ≡ 512 → (free : Free) → Compaction (image_of r) spare free
  leaves r o spare len free =
      let e = image r o spare len free in
      let after : Store real = r' r o spare len free in
      let ord : InOrder B after = order r o spare len free in
      let back = image_store B most r o in
      record {
        answer = ap (λ (x : Outcome). x.answer) (new_outcome B most r o spare free len);
        formed = subst (λ (x : Image). well_formed x.tables (length x.pages) ≡ true) (sym e) (image_formed B most after ord);
        renumbered = subst (λ (x : Store real). Renumbered x (store_in (compacted_by spare free (image_of r)))) (sym back)
            (subst (Renumbered r) (sym (store_after r o spare len free)) (compacted_renumbered B free.pages r o));
        reader = λ c. ap (gave c) e ∙ reads_same r o spare len free c;
        free_pages = λ b i l m k.
            ap (λ (x : Store real). x.memory.pages b i) (store_after r o spare len free)
            ∙ compacted_free B free.pages r o b i (subst (λ (x : Store real). used_in x ≤ b) back l) (subst (λ (x : Store real). b < x.memory.blocks) back m) k;
        free_spare = ap (λ (x : Outcome). x.buffer) (new_outcome B most r o spare free len);
        twice = λ spare' len' free'. subst (λ (x : Image). ((compact_on spare' free' x.tables x.pages).answer ≡ no_counts) × SameUsed x (compacted_by spare' free' x)) (sym e)
            (ap (λ (x : Outcome). x.answer) (new_outcome B most after ord spare' free' len'), second_same r o spare len free spare' len' free');
      }

-- THEOREM
pub compaction : CompactionClaim
compaction m bs f spare len free = of_image m bs f (λ (x : Image). Compaction x spare free) (λ B least most r o. leaves B least most r o spare len free)

-- THEOREM
pub compaction_refused : CompactionRefusedClaim
compaction_refused m spare free = record {
  unformed = compact_unformed spare free m.tables m.pages;
  bad_spare = compact_spare spare free m.tables m.pages;
}
