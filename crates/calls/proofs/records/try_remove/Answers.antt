-- `calls::records::try_remove` meets its contract. Assumes nothing.
use mathlib.Core.Path.{refl}
use Prim.Native.Nat.{ℕ}
use Rattle.rules.specs.Numbers.{remove}
use Rattle.tables.proofs.FormedStore.{formed_store}
use Rattle.calls.proofs.CallCases.{refused_as, unformed_as}
use Rattle.calls.proofs.ChangedRecords.{removed_as, remove_requires}
use Rattle.calls.proofs.records.try_remove.Goals as goal

pub returns-in_err-checked : goal.returns-in_err-checked
returns-in_err-checked c =
    unformed_as _ _ c.from_residual.ensures.1 _ _ (remove _) refl c.in_err-checked.ensures

pub of_remove-requires : goal.of_remove-requires
of_remove-requires c =
    formed_store _ _ c.in_ok-checked.ensures

pub returns-in_err-of_remove : goal.returns-in_err-of_remove
returns-in_err-of_remove c =
    refused_as _ _ c.from_residual-in_err-of_remove.ensures.1 _ _ (remove _) refl c.in_ok-checked.ensures c.in_err-of_remove.ensures

pub remove_set-requires : goal.remove_set-requires
remove_set-requires c =
    remove_requires _ _ c.in_ok-checked.ensures _ c.in_ok-of_remove.ensures

pub returns : goal.returns
returns c =
    removed_as _ _ _ _ c.in_ok-checked.ensures refl (λ (j : ℕ). (c.type_inv.t j).fits)
    _ c.in_ok-of_remove.ensures c.remove_set.ensures
