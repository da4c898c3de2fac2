-- `numbers::no_such_place` meets its contract. Assumes nothing.
use mathlib.Core.Bool.{not}
use mathlib.Core.Path.{ap, sym, ◌∙◌}
use borrow.Author.Tests.{le-ltb, lt-ltb}
use Rattle.numbers.proofs.Rows.{here, none_left, past}
use Rattle.numbers.proofs.no_such_place.Goals as goal

pub returns-then-not-is_used : goal.returns-then-not-is_used
returns-then-not-is_used c = here _ 2 _ (ap not (sym c.is_used.ensures ∙ c.if-not-is_used.true))

pub returns-then-file-ge16 : goal.returns-then-file-ge16
returns-then-file-ge16 c =
    let u = c.is_used.ensures in
    past _ 2 3 _ (ap not (sym u ∙ c.if-not-is_used.false)) (here _ 3 _ (ap not (le-ltb _ 16 c.if-file-ge16.true)))

pub returns : goal.returns
returns c =
    let u = c.is_used.ensures in
    past _ 2 0 _ (ap not (sym u ∙ c.if-not-is_used.false)) (past _ 3 0 _ (ap not (lt-ltb _ 16 c.if-file-ge16.false)) none_left)
