-- `calls::looks::try_read` meets its contract. Assumes nothing.
use mathlib.Core.Path.{refl}
use Rattle.rules.specs.Numbers.{read}
use Rattle.tables.proofs.FormedStore.{formed_store}
use Rattle.calls.proofs.CallCases.{refused_as, unformed_as}
use Rattle.calls.proofs.Told.{look_requires, read_as}
use Rattle.calls.proofs.looks.try_read.Goals as goal

pub returns-in_err-checked : goal.returns-in_err-checked
returns-in_err-checked c =
    unformed_as _ _ c.from_residual.ensures.1 _ _ (read _ _ _ _) refl c.in_err-checked.ensures

pub of_look-requires : goal.of_look-requires
of_look-requires c = formed_store _ _ c.in_ok-checked.ensures

pub returns-in_err-of_look : goal.returns-in_err-of_look
returns-in_err-of_look c =
    refused_as _ _ c.from_residual-in_err-of_look.ensures.1 _ _ (read _ _ _ _) refl c.in_ok-checked.ensures (c.in_err-of_look.ensures.0 _ _)

pub read_file-r-requires : goal.read_file-r-requires
read_file-r-requires c =
    let k = look_requires _ _ _ _ c.in_ok-of_look.ensures.1 in
    (formed_store _ _ c.in_ok-checked.ensures, k.0, k.1)

pub returns : goal.returns
returns c =
    read_as _ _ _ c.in_ok-checked.ensures _ _ _ _ _ (c.in_ok-of_look.ensures.0 _ _) c.read_file-r.ensures (refl, refl)
