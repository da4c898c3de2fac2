-- `calls::looks::try_free` meets its contract. Assumes nothing.
use mathlib.Core.Path.{ap, refl}
use Rattle.rules.specs.Numbers.{tell_free}
use Rattle.tables.proofs.FormedStore.{formed_store}
use Rattle.calls.specs.Answered.{counted}
use Rattle.calls.specs.Outcomes.{answer_meant}
use Rattle.calls.proofs.CallCases.{unformed_as}
use Rattle.calls.proofs.Told.{free_as}
use Rattle.calls.proofs.looks.try_free.Goals as goal

pub returns-in_err-checked : goal.returns-in_err-checked
returns-in_err-checked c =
    unformed_as _ _ c.from_residual.ensures.1 _ _ tell_free refl c.in_err-checked.ensures

pub free_blocks-n-requires : goal.free_blocks-n-requires
free_blocks-n-requires c =
    let fs = formed_store _ c.args.p.now c.in_ok-checked.ensures in
    (fs.packed.len, fs.header.most, fs.bits_past)

pub returns : goal.returns
returns c =
    free_as _ _ _ c.in_ok-checked.ensures _ (ap (λ q. answer_meant (counted q)) c.one.ensures) c.free_blocks-n.ensures.0
