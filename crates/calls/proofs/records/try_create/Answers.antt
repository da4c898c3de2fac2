-- `calls::records::try_create` meets its contract. Assumes nothing.
use mathlib.Core.Path.{refl}
use Prim.Native.Nat.{ℕ}
use Rattle.rules.specs.Numbers.{create}
use Rattle.tables.proofs.FormedStore.{formed_store}
use Rattle.calls.proofs.CallCases.{refused_as, unformed_as}
use Rattle.calls.proofs.ChangedRecords.{created_as, create_requires}
use Rattle.calls.proofs.records.try_create.Goals as goal

pub returns-in_err-checked : goal.returns-in_err-checked
returns-in_err-checked c =
    unformed_as _ _ c.from_residual.ensures.1 _ _ (create _ _) refl c.in_err-checked.ensures

pub of_create-requires : goal.of_create-requires
of_create-requires c =
    formed_store _ _ c.in_ok-checked.ensures

pub returns-in_err-of_create : goal.returns-in_err-of_create
returns-in_err-of_create c =
    refused_as _ _ c.from_residual-in_err-of_create.ensures.1 _ _ (create _ _) refl c.in_ok-checked.ensures c.in_err-of_create.ensures

pub create_file-requires : goal.create_file-requires
create_file-requires c =
    create_requires _ _ c.in_ok-checked.ensures _ _ c.in_ok-of_create.ensures

pub returns : goal.returns
returns c =
    created_as _ _ _ _ c.in_ok-checked.ensures refl (λ (j : ℕ). (c.type_inv.t j).fits)
    _ _ c.in_ok-of_create.ensures c.create_file.ensures
