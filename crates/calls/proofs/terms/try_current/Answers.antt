-- `calls::terms::try_current` meets its contract. Assumes nothing.
use mathlib.Core.Path.{ap, ◌∙◌}
use Rattle.base.specs.Logic.{digit}
use native.Mathlib.Omega.{arith}
use Rattle.tables.proofs.FormedStore.{formed_store}
use Rattle.calls.specs.Answered.{counted}
use Rattle.calls.specs.Outcomes.{answer_meant}
use Rattle.calls.proofs.TermCases.{byte_digit, current_as, current_refused_as, current_requires, current_unformed_as}
use Rattle.calls.proofs.terms.try_current.Goals as goal

pub returns-in_err-checked : goal.returns-in_err-checked
returns-in_err-checked c =
    current_unformed_as _ _ c.from_residual.ensures.1 _ _ _ _ c.in_err-checked.ensures

pub of_current-requires : goal.of_current-requires
of_current-requires c = formed_store _ _ c.in_ok-checked.ensures

pub returns-in_err-of_current : goal.returns-in_err-of_current
returns-in_err-of_current c =
    current_refused_as _ _ c.from_residual-in_err-of_current.ensures.1 _ _ _ _ c.in_ok-checked.ensures c.in_err-of_current.ensures

pub set_at-r-requires : goal.set_at-r-requires
set_at-r-requires c =
    let l = (formed_store _ c.args.p.now c.in_ok-checked.ensures).packed.len in
    (omega (arith, l), current_requires _ c.args.p.now _ c.in_ok-of_current.ensures)

pub returns : goal.returns
returns c =
    current_as _ _ _ _ _ _ _ c.in_ok-checked.ensures c.in_ok-of_current.ensures c.set_at-r.ensures.0
    (c.from.ensures ∙ byte_digit _ ∙ ap digit c.on_day-yes.ensures) (ap (λ q. answer_meant (counted q)) c.one.ensures)
