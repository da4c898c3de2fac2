-- `calls::changes::try_truncate` meets its contract. Assumes nothing.
use mathlib.Core.Path.{ap, refl}
use Prim.Native.Nat.{ℕ}
use borrow.Author.Rules.{rules}
use Rattle.rules.specs.Numbers.{truncate}
use Rattle.tables.proofs.FormedStore.{formed_store}
use Rattle.calls.specs.Answered.{counted}
use Rattle.calls.specs.Outcomes.{answer_meant}
use Rattle.calls.proofs.CallCases.{refused_as, unformed_as}
use Rattle.calls.proofs.WorkedOn.{truncate_requires, truncated_as}
use Rattle.calls.proofs.changes.try_truncate.Goals as goal

pub returns-in_err-checked : goal.returns-in_err-checked
returns-in_err-checked c =
    unformed_as _ _ c.from_residual.ensures.1 _ _ (truncate _ _ _) refl c.in_err-checked.ensures

pub of_truncate-requires : goal.of_truncate-requires
of_truncate-requires c =
    formed_store _ _ c.in_ok-checked.ensures

pub returns-in_err-of_truncate : goal.returns-in_err-of_truncate
returns-in_err-of_truncate c =
    refused_as _ _ c.from_residual-in_err-of_truncate.ensures.1 _ _ (truncate _ _ _) refl c.in_ok-checked.ensures c.in_err-of_truncate.ensures

pub truncate_file-k-requires : goal.truncate_file-k-requires
truncate_file-k-requires c =
    let k = truncate_requires _ _ _ _ _ c.in_ok-of_truncate.ensures in
    (c.in_ok-checked.ensures, k.0, k.1, k.2, k.3, k.4)

pub returns : goal.returns
returns c =
    truncated_as _ _ _ _ _ _ _ c.in_ok-checked.ensures (ap (λ q. answer_meant (counted q)) c.from.ensures) (λ (j : ℕ). (c.type_inv.t j).fits) (search rules)
    _ _ c.in_ok-of_truncate.ensures c.truncate_file-k.ensures
