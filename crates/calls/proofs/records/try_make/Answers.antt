-- `calls::records::try_make` meets its contract. Assumes nothing.
use mathlib.Core.Path.{refl}
use Prim.Native.Nat.{ℕ}
use Rattle.rules.specs.Numbers.{make}
use Rattle.tables.proofs.FormedStore.{formed_store}
use Rattle.calls.proofs.CallCases.{refused_as, unformed_as}
use Rattle.calls.proofs.ChangedRecords.{made_as, make_requires}
use Rattle.calls.proofs.records.try_make.Goals as goal

pub returns-in_err-checked : goal.returns-in_err-checked
returns-in_err-checked c =
    unformed_as _ _ c.from_residual.ensures.1 _ _ (make _ _ _) refl c.in_err-checked.ensures

pub of_make-requires : goal.of_make-requires
of_make-requires c =
    formed_store _ _ c.in_ok-checked.ensures

pub returns-in_err-of_make : goal.returns-in_err-of_make
returns-in_err-of_make c =
    refused_as _ _ c.from_residual-in_err-of_make.ensures.1 _ _ (make _ _ _) refl c.in_ok-checked.ensures c.in_err-of_make.ensures

pub make_set-requires : goal.make_set-requires
make_set-requires c =
    make_requires _ _ c.in_ok-checked.ensures _ _ _ c.in_ok-of_make.ensures

pub returns : goal.returns
returns c =
    made_as _ _ _ _ c.in_ok-checked.ensures refl (λ (j : ℕ). (c.type_inv.t j).fits)
    _ _ _ c.in_ok-of_make.ensures c.make_set.ensures
