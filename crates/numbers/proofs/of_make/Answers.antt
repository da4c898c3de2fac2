-- `numbers::of_make` meets its contract. Assumes nothing.
use mathlib.Core.List.{[]}
use mathlib.Core.Bool.{◌&&◌, not}
use mathlib.Core.Path.{ap, sym, ◌∙◌}
use native.Mathlib.Omega.{arith}
use borrow.Author.Tests.{le-leb, le-ltb, lt-leb, lt-ltb}
use Rattle.numbers.proofs.Rows.{first_applies, here, make_row, neither_applies, none_left, past, used_is, used_low, used_not}
use Rattle.base.specs.Logic.{or_right}
use lib.Dec.{leb, ltb}
use Rattle.tables.specs.Calls.{store_of}
use Rattle.tables.specs.Packed.{unpack}
use Rattle.numbers.proofs.of_make.Goals as goal

pub returns-then-not-is_used : goal.returns-then-not-is_used
returns-then-not-is_used c =
    let a = c.args in
    make_row (store_of a.t.now a.p.now) a.parent 2 a.set a.writeable
    (here _ 2 _ (first_applies _ _ (ap not (sym c.is_used.ensures ∙ c.if-not-is_used.true))))

pub returns-then-set-ge8 : goal.returns-then-set-ge8
returns-then-set-ge8 c =
    let a = c.args in
    make_row (store_of a.t.now a.p.now) a.parent 2 a.set a.writeable
    (here _ 2 _ (or_right (not (ltb a.parent 8 && ((unpack a.t.now).sets a.parent).used)) _ (ap not (le-ltb a.set 8 c.if-set-ge8.true))))

pub returns-then-is_used : goal.returns-then-is_used
returns-then-is_used c =
    let a = c.args in
    make_row (store_of a.t.now a.p.now) a.parent 9 a.set a.writeable
    (past _ 2 9 _ (neither_applies _ _ (ap not (sym c.is_used.ensures ∙ c.if-not-is_used.false)) (ap not (lt-ltb _ 8 c.if-set-ge8.false)))
    (here _ 9 _ (used_is _ _ a.set c.is_used-2.ensures c.if-is_used.true)))

pub level_of-requires : goal.level_of-requires
level_of-requires c =
    (omega (arith, c.requires.packed.len), used_low _ _ c.args.parent c.is_used.ensures (c.if-not-is_used.false))

pub returns-then-level_of-ge5 : goal.returns-then-level_of-ge5
returns-then-level_of-ge5 c =
    let a = c.args in
    make_row (store_of a.t.now a.p.now) a.parent 10 a.set a.writeable
    (past _ 2 10 _ (neither_applies _ _ (ap not (sym c.is_used.ensures ∙ c.if-not-is_used.false)) (ap not (lt-ltb _ 8 c.if-set-ge8.false)))
    (past _ 9 10 _ (used_not _ _ a.set c.is_used-2.ensures c.if-is_used.false c.if-set-ge8.false)
    (here _ 10 [] (ap (leb 5) (sym c.level_of.ensures.0) ∙ le-leb 5 c.level_of.result c.if-level_of-ge5.true))))

pub returns : goal.returns
returns c =
    let a = c.args in
    make_row (store_of a.t.now a.p.now) a.parent 0 a.set a.writeable
    (past _ 2 0 _ (neither_applies _ _ (ap not (sym c.is_used.ensures ∙ c.if-not-is_used.false)) (ap not (lt-ltb _ 8 c.if-set-ge8.false)))
    (past _ 9 0 _ (used_not _ _ a.set c.is_used-2.ensures c.if-is_used.false c.if-set-ge8.false)
    (past _ 10 0 [] (ap (leb 5) (sym c.level_of.ensures.0) ∙ lt-leb 5 c.level_of.result c.if-level_of-ge5.false) none_left)))
