-- `tables::sets::level_of` meets its contract. Assumes nothing.
use mathlib.Core.Path.{ap, ◌∙◌}
use native.Mathlib.Omega.{arith}
use Rattle.rules.specs.State.{SetRecord}
use Rattle.tables.proofs.Codes.{set_fields_are}
use Rattle.tables.proofs.sets.level_of.Goals as goal

pub returns : goal.returns
returns c =
    let p = set_fields_are c.args.t.now c.args.s (λ i. (c.type_inv.t i).fits) c.requires.1 in
    (c.field.ensures.0 ∙ ap (λ (r : SetRecord). r.level) p, omega arith)
