-- What a truncate or a delete leaves of the other files of a store in order: each that is not marked afterwards was not marked before, and reads as before.
-- Assumes nothing.
use mathlib.Core.Bool.{false, true}
use mathlib.Core.Path.{ap, subst, sym, ◌∙◌, ◌≡◌}
use Prim.Native.Nat.{◌%◌, ◌*◌, ◌/◌, ◌<◌, ℕ, ◌≤◌}
use native.Mathlib.Omega.{arith}
use Rattle.base.specs.Logic.{test?}
use Rattle.rules.proofs.Agreement.OthersRead.{OthersIn, StillIn, delete_others, truncate_others}
use Rattle.rules.proofs.Steps.States.{absent_is, live_of, live_unmarked}
use Rattle.rules.proofs.Steps.WriterSteps.{bytes, size_absent}
use Rattle.rules.proofs.Storages.CountCalls.{model_of}
use Rattle.rules.proofs.Whole.Holds.{orderly}
use Rattle.rules.proofs.Whole.HoldsMeans.{byte_model, size_model}
use Rattle.rules.proofs.Whole.Order.{InOrder, model_after}
use Rattle.rules.specs.Calls.{Store, blank_memory, byte_by_reading, step, tree_in}
use Rattle.rules.specs.Numbers.{delete, truncate}
use Rattle.rules.specs.Reading.{size_by_reading}
use Rattle.rules.specs.State.{is_absent, is_marked}
use Rattle.rules.specs.Storage.{real}

-- the models of the stores before and after a call: every other file still reads
module _ (B : ℕ) (least : 1 ≤ B) (r : Store real) (o : InOrder B r) where
  -- a truncate
  pub truncate_keeps : (s f n : ℕ) → OthersIn (model_of r) f s (model_of (step real (blank_memory B) (truncate s f n) r).store)
  truncate_keeps s f n =
      subst (OthersIn (model_of r) f s) (model_after B least r o (truncate s f n)) (truncate_others (model_of r) B (orderly (model_of r) o.formed) s f n)

  -- a delete
  pub delete_keeps : (s f : ℕ) → OthersIn (model_of r) f s (model_of (step real (blank_memory B) (delete s f) r).store)
  delete_keeps s f = subst (OthersIn (model_of r) f s) (model_after B least r o (delete s f)) (delete_others (model_of r) B (orderly (model_of r) o.formed) s f)

-- the size of an absent file
absent_size : (B : ℕ) (r : Store real) → InOrder B r → (f s : ℕ) → is_absent (r.files f s).state ≡ true → size_by_reading (tree_in real r) (r.files f) s ≡ 0
absent_size B r o f s e = size_model r s f ∙ size_absent (tree_in real r) ((model_of r).files f) s (((o.formed.files_ok f).shape s).empty e)

-- WHAT THE MODELS SAY OF TWO STORES IN ORDER: a file that still reads in the second model, and is not marked there, reads in the second store as in the first
module _ (B : ℕ) (r r' : Store real) (o : InOrder B r) (o' : InOrder B r') (f s : ℕ)
    (k : StillIn (model_of r) (model_of r') f s) (u : is_marked (r'.files f s).state ≡ false) where
  -- it was not marked
  pub was_unmarked : is_marked (r.files f s).state ≡ false
  was_unmarked =
      test? (is_absent (r'.files f s).state)
      (λ e. ap is_marked (absent_is (r.files f s).state (sym k.presence ∙ e)))
      (λ e. live_unmarked (r.files f s).state (k.alive (live_of (r'.files f s).state e u)))

  -- its size
  pub same_size : size_by_reading (tree_in real r') (r'.files f) s ≡ size_by_reading (tree_in real r) (r.files f) s
  same_size =
      test? (is_absent (r'.files f s).state)
      (λ e. absent_size B r' o' f s e ∙ sym (absent_size B r o f s (sym k.presence ∙ e)))
      (λ e. size_model r' s f ∙ k.size (live_of (r'.files f s).state e u) ∙ sym (size_model r s f))

  -- its bytes
  pub same_bytes : is_absent (r.files f s).state ≡ false → (i : ℕ) → i < 64 * 512 → byte_by_reading r' s f i ≡ byte_by_reading r s f i
  same_bytes e i l =
      byte_model r' s f i
      ∙ ap (λ x. bytes x (i % 512)) (k.page (i / 512) (omega arith) (live_of (r'.files f s).state (k.presence ∙ e) u))
      ∙ sym (byte_model r s f i)
