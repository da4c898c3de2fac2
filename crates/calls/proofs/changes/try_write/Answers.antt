-- `calls::changes::try_write` meets its contract. Assumes nothing.
use mathlib.Core.Path.{ap, refl}
use Prim.Native.Nat.{ℕ}
use native.Mathlib.Omega.{arith}
use borrow.Author.Rules.{rules}
use Rattle.rules.specs.Numbers.{write}
use Rattle.tables.proofs.FormedStore.{formed_store}
use Rattle.calls.specs.Answered.{counted}
use Rattle.calls.specs.Outcomes.{answer_meant}
use Rattle.calls.proofs.CallCases.{refused_as, unformed_as}
use Rattle.calls.proofs.WorkedOn.{nothing_written, write_requires, written_as}
use Rattle.calls.proofs.changes.try_write.Goals as goal

pub returns-in_err-checked : goal.returns-in_err-checked
returns-in_err-checked c =
    unformed_as _ _ c.from_residual.ensures.1 _ _ (write _ _ _ _ _) refl c.in_err-checked.ensures

pub of_write-requires : goal.of_write-requires
of_write-requires c =
    formed_store _ _ c.in_ok-checked.ensures

pub returns-in_err-of_write : goal.returns-in_err-of_write
returns-in_err-of_write c =
    refused_as _ _ c.from_residual-in_err-of_write.ensures.1 _ _ (write _ _ _ _ _) refl c.in_ok-checked.ensures (c.in_err-of_write.ensures _)

pub returns-then-data-eq0 : goal.returns-then-data-eq0
returns-then-data-eq0 c =
    nothing_written _ _ _ c.in_ok-checked.ensures refl (λ (j : ℕ). search rules)
    _ _ _ _ _ (omega arith) (c.in_ok-of_write.ensures _)

pub write_file-k-requires : goal.write_file-k-requires
write_file-k-requires c =
    let k = write_requires _ _ _ _ _ _ _ (c.in_ok-of_write.ensures 1) in
    (search rules, search rules, c.in_ok-checked.ensures, k.0, k.1, k.2, omega arith, k.3, k.4)

pub returns : goal.returns
returns c =
    written_as _ _ _ _ _ _ _ c.in_ok-checked.ensures (ap (λ q. answer_meant (counted q)) c.from.ensures) (λ (j : ℕ). (c.type_inv.t j).fits) (search rules)
    _ _ _ _ (omega arith) (c.in_ok-of_write.ensures _) c.write_file-k.ensures
