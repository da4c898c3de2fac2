-- `numbers::of_write` meets its contract. Assumes nothing.
use mathlib.Core.List.{[], ◌∷◌}
use mathlib.Core.Path.{refl, sym, ◌∙◌}
use Prim.Native.Nat.{◌+◌}
use lib.ListN.{length}
use borrow.Author.Tests.{ltb-false}
use Rattle.rules.specs.Numbers.{View, file_absent, file_marked, read_only}
use Rattle.tables.specs.Calls.{store_of}
use Rattle.numbers.specs.Shared.{view_in}
use Rattle.numbers.proofs.Rows.{in_place, not_over, over_end, over_need, write_first, write_then}
use Rattle.numbers.proofs.Told.{above_0, passed_on}
use Rattle.numbers.proofs.of_write.Goals as goal

pub returns-in_err-not_changeable : goal.returns-in_err-not_changeable
returns-in_err-not_changeable c =
    let a = c.args in
    λ g. passed_on _ _ c.from_residual.ensures.1 ∙ write_first (store_of a.t.now a.p.now) a.set a.file _ c.in_err-not_changeable.ensures a.offset a.«data».now (above_0 _) g

pub returns-then-end_over : goal.returns-then-end_over
returns-then-end_over c =
    let a = c.args in
    let st = store_of a.t.now a.p.now in
    write_then st a.set a.file _ c.in_ok-not_changeable.ensures a.offset a.«data».now refl 7
    (over_end st (a.offset + length a.«data».now) _ (sym c.end_over.ensures ∙ c.if-end_over.true))

pub write_need-need-requires : goal.write_need-need-requires
write_need-need-requires c =
    let a = c.args in
    let v : View = view_in a.t.now in
    let q = in_place v a.set a.file _ (read_only v a.set ∷ file_absent v a.set a.file ∷ file_marked v a.set a.file ∷ [])
    c.in_ok-not_changeable.ensures refl in
    (c.requires.packed.len, q.1, q.0, ltb-false 32768 (a.offset + length a.«data».now) (sym c.end_over.ensures ∙ c.if-end_over.false))

pub returns-then-not-has_free : goal.returns-then-not-has_free
returns-then-not-has_free c =
    let a = c.args in
    let st = store_of a.t.now a.p.now in
    write_then st a.set a.file _ c.in_ok-not_changeable.ensures a.offset a.«data».now refl 8
    (over_need st (a.offset + length a.«data».now) _ (sym c.end_over.ensures ∙ c.if-end_over.false) _ _
    c.has_free.ensures c.write_need-need.ensures c.if-not-has_free.true)

pub returns : goal.returns
returns c =
    let a = c.args in
    let st = store_of a.t.now a.p.now in
    write_then st a.set a.file _ c.in_ok-not_changeable.ensures a.offset a.«data».now refl 0
    (not_over st (a.offset + length a.«data».now) _ (sym c.end_over.ensures ∙ c.if-end_over.false) _ _
    c.has_free.ensures c.write_need-need.ensures c.if-not-has_free.false)
