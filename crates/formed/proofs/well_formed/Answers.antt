-- `formed::well_formed` meets its contract. Assumes nothing.
use mathlib.Core.Path.{ap, ◌∙◌}
use Rattle.formed.proofs.Whole.{whole_wrong}
use Rattle.tables.proofs.Parts.{two_parts}
use Rattle.tables.specs.Packed.{well_formed}
use Rattle.formed.proofs.well_formed.Goals as goal

pub returns-then-t-ne-TABLE_BYTES : goal.returns-then-t-ne-TABLE_BYTES
returns-then-t-ne-TABLE_BYTES c = whole_wrong _ c.if-t-ne-TABLE_BYTES.true _

pub returns : goal.returns
returns c =
    let a = c.args in
    c.parts_formed.ensures ∙ ap (λ t. well_formed t a.n) (two_parts a.t.now)
