-- `numbers::of_current` meets its contract. Assumes nothing.
use mathlib.Core.List.{[]}
use mathlib.Core.Bool.{not}
use mathlib.Core.Path.{ap, sym, ◌∙◌}
use Rattle.numbers.proofs.Rows.{current_row, here, none_left, past}
use Rattle.tables.specs.Calls.{store_of}
use Rattle.numbers.proofs.of_current.Goals as goal

pub returns-then-not-used : goal.returns-then-not-used
returns-then-not-used c =
    let a = c.args in
    current_row (store_of a.t.now a.p.now) a.set 2 (here _ 2 [] (ap not (sym c.is_used-used.ensures ∙ c.if-not-used.true)))

pub returns : goal.returns
returns c =
    let a = c.args in
    current_row (store_of a.t.now a.p.now) a.set 0 (past _ 2 0 [] (ap not (sym c.is_used-used.ensures ∙ c.if-not-used.false)) none_left)
