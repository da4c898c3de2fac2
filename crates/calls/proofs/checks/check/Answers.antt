-- `calls::checks::check` meets its contract. Assumes nothing.
use mathlib.Core.Path.{ap, refl, ◌∙◌}
use Rattle.numbers.specs.Refusals.{number}
use Rattle.numbers.specs.declared.refusal.Refusal.{Refusal}
use Rattle.rules.specs.Numbers.{refusal}
use Rattle.calls.specs.Outcomes.{answer_meant}
use Rattle.calls.proofs.Checked.{accepted_as, refused_as}
use Rattle.calls.proofs.checks.check.Goals as goal

pub returns-in-Ok : goal.returns-in-Ok
returns-in-Ok c = accepted_as _ _ _ _ _ refl c.in-Ok.ensures (ap answer_meant c.accepted.ensures)

pub returns-in-Err : goal.returns-in-Err
returns-in-Err c =
    let e = c.in-Err.ensures in
    refused_as _ _ _ _ _ refl e.0 (c.refused.ensures ∙ ap (λ (x : Refusal). refusal (number x)) e.1)
