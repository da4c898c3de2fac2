-- `calls::changes::try_delete` meets its contract. Assumes nothing.
use mathlib.Core.Path.{ap, refl}
use Prim.Native.Nat.{ℕ}
use borrow.Author.Rules.{rules}
use Rattle.rules.specs.Numbers.{delete}
use Rattle.tables.proofs.FormedStore.{formed_store}
use Rattle.calls.specs.Answered.{counted}
use Rattle.calls.specs.Outcomes.{answer_meant}
use Rattle.calls.proofs.CallCases.{refused_as, unformed_as}
use Rattle.calls.proofs.WorkedOn.{delete_requires, deleted_as}
use Rattle.calls.proofs.changes.try_delete.Goals as goal

pub returns-in_err-checked : goal.returns-in_err-checked
returns-in_err-checked c =
    unformed_as _ _ c.from_residual.ensures.1 _ _ (delete _ _) refl c.in_err-checked.ensures

pub of_delete-requires : goal.of_delete-requires
of_delete-requires c =
    formed_store _ _ c.in_ok-checked.ensures

pub returns-in_err-of_delete : goal.returns-in_err-of_delete
returns-in_err-of_delete c =
    refused_as _ _ c.from_residual-in_err-of_delete.ensures.1 _ _ (delete _ _) refl c.in_ok-checked.ensures c.in_err-of_delete.ensures

pub delete_file-k-requires : goal.delete_file-k-requires
delete_file-k-requires c =
    let k = delete_requires _ _ _ _ c.in_ok-of_delete.ensures in
    (c.in_ok-checked.ensures, k.0, k.1, k.2)

pub returns : goal.returns
returns c =
    deleted_as _ _ _ _ _ _ _ c.in_ok-checked.ensures (ap (λ q. answer_meant (counted q)) c.from.ensures) (λ (j : ℕ). (c.type_inv.t j).fits) (search rules)
    _ c.in_ok-of_delete.ensures c.delete_file-k.ensures
