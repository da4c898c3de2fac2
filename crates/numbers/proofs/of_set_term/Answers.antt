-- `numbers::of_set_term` meets its contract. Assumes nothing.
use mathlib.Core.List.{[]}
use mathlib.Core.Bool.{not}
use mathlib.Core.Path.{ap, sym, ◌∙◌}
use Rattle.numbers.proofs.Rows.{here, none_left, past, term_row}
use Rattle.tables.specs.Calls.{store_of}
use Rattle.numbers.proofs.of_set_term.Goals as goal

pub returns-then-not-is_used : goal.returns-then-not-is_used
returns-then-not-is_used c =
    let a = c.args in
    term_row (store_of a.t.now a.p.now) a.set 2 a.date.year a.date.month a.date.day a.months (here _ 2 _ (ap not (sym c.is_used.ensures ∙ c.if-not-is_used.true)))

pub returns-then-not-date_exists : goal.returns-then-not-date_exists
returns-then-not-date_exists c =
    let a = c.args in
    term_row (store_of a.t.now a.p.now) a.set 14 a.date.year a.date.month a.date.day a.months
    (past _ 2 14 _ (ap not (sym c.is_used.ensures ∙ c.if-not-is_used.false)) (here _ 14 _ (ap not (sym c.date_exists.ensures ∙ c.if-not-date_exists.true))))

pub returns-then-not-count_fits : goal.returns-then-not-count_fits
returns-then-not-count_fits c =
    let a = c.args in
    term_row (store_of a.t.now a.p.now) a.set 15 a.date.year a.date.month a.date.day a.months
    (past _ 2 15 _ (ap not (sym c.is_used.ensures ∙ c.if-not-is_used.false))
    (past _ 14 15 _ (ap not (sym c.date_exists.ensures ∙ c.if-not-date_exists.false)) (here _ 15 [] (ap not (sym c.count_fits.ensures ∙ c.if-not-count_fits.true)))))

pub returns : goal.returns
returns c =
    let a = c.args in
    term_row (store_of a.t.now a.p.now) a.set 0 a.date.year a.date.month a.date.day a.months
    (past _ 2 0 _ (ap not (sym c.is_used.ensures ∙ c.if-not-is_used.false))
    (past _ 14 0 _ (ap not (sym c.date_exists.ensures ∙ c.if-not-date_exists.false)) (past _ 15 0 [] (ap not (sym c.count_fits.ensures ∙ c.if-not-count_fits.false)) none_left)))
