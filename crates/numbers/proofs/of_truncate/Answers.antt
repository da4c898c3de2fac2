-- `numbers::of_truncate` meets its contract. Assumes nothing.
use mathlib.Core.List.{[], ◌∷◌}
use borrow.Author.Tests.{le-ltb, lt-ltb}
use mathlib.Core.Path.{refl, ◌∙◌}
use Rattle.rules.specs.Numbers.{View, file_absent, file_marked, read_only}
use Rattle.tables.specs.Calls.{store_of}
use Rattle.numbers.specs.Shared.{view_in}
use Rattle.numbers.proofs.Rows.{in_place, not_over, over_end, over_need, truncate_first, truncate_then}
use Rattle.numbers.proofs.Told.{above_0, passed_on}
use Rattle.numbers.proofs.of_truncate.Goals as goal

pub returns-in_err-not_changeable : goal.returns-in_err-not_changeable
returns-in_err-not_changeable c =
    let a = c.args in
    passed_on _ _ c.from_residual.ensures.1 ∙ truncate_first (store_of a.t.now a.p.now) a.set a.file _ c.in_err-not_changeable.ensures a.size (above_0 _)

pub returns-then-size-gt32768 : goal.returns-then-size-gt32768
returns-then-size-gt32768 c =
    let a = c.args in
    let st = store_of a.t.now a.p.now in
    truncate_then st a.set a.file _ c.in_ok-not_changeable.ensures a.size refl 7
    (over_end st a.size _ (lt-ltb 32768 a.size c.if-size-gt32768.true))

pub truncate_need-own-requires : goal.truncate_need-own-requires
truncate_need-own-requires c =
    let a = c.args in
    let v : View = view_in a.t.now in
    let q = in_place v a.set a.file _ (read_only v a.set ∷ file_absent v a.set a.file ∷ file_marked v a.set a.file ∷ [])
    c.in_ok-not_changeable.ensures refl in
    (c.requires.packed.len, q.1, q.0, c.if-size-gt32768.false)

pub returns-then-not-has_free : goal.returns-then-not-has_free
returns-then-not-has_free c =
    let a = c.args in
    let st = store_of a.t.now a.p.now in
    truncate_then st a.set a.file _ c.in_ok-not_changeable.ensures a.size refl 8
    (over_need st a.size _ (le-ltb 32768 a.size c.if-size-gt32768.false) _ _ c.has_free.ensures c.truncate_need-own.ensures c.if-not-has_free.true)

pub returns : goal.returns
returns c =
    let a = c.args in
    let st = store_of a.t.now a.p.now in
    truncate_then st a.set a.file _ c.in_ok-not_changeable.ensures a.size refl 0
    (not_over st a.size _ (le-ltb 32768 a.size c.if-size-gt32768.false) _ _ c.has_free.ensures c.truncate_need-own.ensures c.if-not-has_free.false)
