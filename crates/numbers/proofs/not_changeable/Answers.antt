-- `numbers::not_changeable` meets its contract. Assumes nothing.
use mathlib.Core.List.{[], ◌∷◌}
use mathlib.Core.Path.{refl, ◌∙◌}
use Rattle.rules.specs.Numbers.{View, read_only}
use Rattle.tables.specs.Calls.{store_of}
use Rattle.numbers.specs.Shared.{view_in}
use Rattle.numbers.proofs.Rows.{not_changeable_first, not_changeable_then, in_place}
use Rattle.numbers.proofs.Told.{above_0, passed_on}
use Rattle.numbers.proofs.not_changeable.Goals as goal

pub returns-in_err-read_only_place : goal.returns-in_err-read_only_place
returns-in_err-read_only_place c =
    let a = c.args in
    passed_on _ _ c.from_residual.ensures.1 ∙ not_changeable_first (store_of a.t.now []) a.set a.file _ c.in_err-read_only_place.ensures (above_0 _)

pub not_readable-requires : goal.not_readable-requires
not_readable-requires c =
    let a = c.args in
    let v : View = view_in a.t.now in
    let q = in_place v a.set a.file _ (read_only v a.set ∷ []) c.in_ok-read_only_place.ensures refl in
    (c.requires, q.1, q.0)

pub returns : goal.returns
returns c =
    let a = c.args in
    not_changeable_then (store_of a.t.now []) a.set a.file _ c.in_ok-read_only_place.ensures refl _ c.not_readable.ensures
