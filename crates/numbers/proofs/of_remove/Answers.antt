-- `numbers::of_remove` meets its contract. Assumes nothing.
use mathlib.Core.List.{[]}
use mathlib.Core.Bool.{not}
use mathlib.Core.Path.{ap, sym, ◌∙◌}
use native.Mathlib.Omega.{arith}
use borrow.Author.Tests.{eq-eqb, ne_eqb}
use Rattle.numbers.proofs.Rows.{here, no_child, none_left, past, remove_row, some_child, used_is, used_low}
use Rattle.tables.specs.Calls.{store_of}
use Rattle.tables.specs.Packed.{unpack}
use Rattle.numbers.proofs.of_remove.Goals as goal

pub returns-then-not-is_used : goal.returns-then-not-is_used
returns-then-not-is_used c =
    let a = c.args in
    remove_row (store_of a.t.now a.p.now) a.set 2 (here _ 2 _ (ap not (sym c.is_used.ensures ∙ c.if-not-is_used.true)))

pub first_child_of-requires : goal.first_child_of-requires
first_child_of-requires c =
    (omega (arith, c.requires.packed.len), used_low _ _ c.args.set c.is_used.ensures (c.if-not-is_used.false))

pub returns-then-first_child_of-lt8 : goal.returns-then-first_child_of-lt8
returns-then-first_child_of-lt8 c =
    let a = c.args in
    remove_row (store_of a.t.now a.p.now) a.set 11
    (past _ 2 11 _ (ap not (sym c.is_used.ensures ∙ c.if-not-is_used.false))
    (here _ 11 _ (some_child (unpack a.t.now).sets a.set (used_is _ _ a.set c.is_used.ensures (c.if-not-is_used.false))
    (omega arith))))

pub returns-then-set-eq0 : goal.returns-then-set-eq0
returns-then-set-eq0 c =
    let a = c.args in
    remove_row (store_of a.t.now a.p.now) a.set 12
    (past _ 2 12 _ (ap not (sym c.is_used.ensures ∙ c.if-not-is_used.false))
    (past _ 11 12 _ (no_child (unpack a.t.now).sets a.set (omega arith))
    (here _ 12 [] (eq-eqb a.set 0 c.if-set-eq0.true))))

pub returns : goal.returns
returns c =
    let a = c.args in
    remove_row (store_of a.t.now a.p.now) a.set 0
    (past _ 2 0 _ (ap not (sym c.is_used.ensures ∙ c.if-not-is_used.false))
    (past _ 11 0 _ (no_child (unpack a.t.now).sets a.set (omega arith))
    (past _ 12 0 [] (ne_eqb a.set 0 c.if-set-eq0.false) none_left)))
