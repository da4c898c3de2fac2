-- `calls::looks::try_size` meets its contract. Assumes nothing.
use mathlib.Core.Path.{ap, refl}
use Rattle.rules.specs.Numbers.{tell_size}
use Rattle.tables.proofs.FormedStore.{formed_store}
use Rattle.calls.specs.Answered.{counted}
use Rattle.calls.specs.Outcomes.{answer_meant}
use Rattle.calls.proofs.CallCases.{refused_as, unformed_as}
use Rattle.calls.proofs.Told.{size_as, look_requires}
use Rattle.calls.proofs.looks.try_size.Goals as goal

pub returns-in_err-checked : goal.returns-in_err-checked
returns-in_err-checked c =
    unformed_as _ _ c.from_residual.ensures.1 _ _ (tell_size _ _) refl c.in_err-checked.ensures

pub of_look-requires : goal.of_look-requires
of_look-requires c = formed_store _ _ c.in_ok-checked.ensures

pub returns-in_err-of_look : goal.returns-in_err-of_look
returns-in_err-of_look c =
    refused_as _ _ c.from_residual-in_err-of_look.ensures.1 _ _ (tell_size _ _) refl c.in_ok-checked.ensures c.in_err-of_look.ensures.1

pub size_of-z-requires : goal.size_of-z-requires
size_of-z-requires c =
    let k = look_requires _ _ _ _ c.in_ok-of_look.ensures.1 in
    ((formed_store _ c.args.p.now c.in_ok-checked.ensures).packed.len, k.0, k.1)

pub returns : goal.returns
returns c =
    size_as _ _ _ c.in_ok-checked.ensures _ _ _ c.in_ok-of_look.ensures.1 (ap (λ q. answer_meant (counted q)) c.one.ensures) c.size_of-z.ensures.0
