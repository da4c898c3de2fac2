-- `numbers::of_look` meets its contract. Assumes nothing.
use mathlib.Core.List.{[]}
use mathlib.Core.Path.{refl, ◌∙◌}
use Rattle.tables.specs.Calls.{store_of}
use Rattle.numbers.specs.Shared.{view_in}
use Rattle.numbers.proofs.Rows.{in_place, look_first, look_then}
use Rattle.numbers.proofs.Told.{above_0, passed_on}
use Rattle.numbers.proofs.of_look.Goals as goal

pub returns-in_err-no_such_place : goal.returns-in_err-no_such_place
returns-in_err-no_such_place c =
    let a = c.args in
    let q = look_first (store_of a.t.now a.p.now) a.set a.file _ c.in_err-no_such_place.ensures (above_0 _) in
    let e = passed_on _ _ c.from_residual.ensures.1 in
    (λ off buffer. e ∙ q.0 off buffer, e ∙ q.1)

pub not_readable-requires : goal.not_readable-requires
not_readable-requires c =
    let a = c.args in
    let q = in_place (view_in a.t.now) a.set a.file _ [] c.in_ok-no_such_place.ensures refl in
    (c.requires.packed.len, q.1, q.0)

pub returns : goal.returns
returns c =
    let a = c.args in
    look_then (store_of a.t.now a.p.now) a.set a.file _ c.in_ok-no_such_place.ensures refl _ c.not_readable.ensures
