-- `numbers::of_delete` meets its contract. Assumes nothing.
use mathlib.Core.List.{[], ◌∷◌}
use mathlib.Core.Path.{ap, refl, sym, ◌∙◌}
use Rattle.rules.specs.Numbers.{View, read_only}
use Rattle.rules.specs.State.{is_absent}
use Rattle.tables.specs.Calls.{store_of}
use Rattle.numbers.specs.Shared.{view_in}
use Rattle.numbers.proofs.Rows.{delete_first, delete_then, here, in_place, none_left, past}
use Rattle.numbers.proofs.Told.{above_0, passed_on}
use Rattle.numbers.proofs.of_delete.Goals as goal

pub returns-in_err-read_only_place : goal.returns-in_err-read_only_place
returns-in_err-read_only_place c =
    let a = c.args in
    passed_on _ _ c.from_residual.ensures.1 ∙ delete_first (store_of a.t.now a.p.now) a.set a.file _ c.in_err-read_only_place.ensures (above_0 _)

pub state_at-requires : goal.state_at-requires
state_at-requires c =
    let a = c.args in
    let v : View = view_in a.t.now in
    let q = in_place v a.set a.file _ (read_only v a.set ∷ []) c.in_ok-read_only_place.ensures refl in
    (c.requires.packed.len, q.1, q.0)

pub returns-then-is_absent : goal.returns-then-is_absent
returns-then-is_absent c =
    let a = c.args in
    delete_then (store_of a.t.now a.p.now) a.set a.file _ c.in_ok-read_only_place.ensures refl 5
    (here _ 5 [] (ap is_absent (sym c.state_at.ensures) ∙ sym c.is_absent.ensures ∙ c.if-is_absent.true))

pub returns : goal.returns
returns c =
    let a = c.args in
    delete_then (store_of a.t.now a.p.now) a.set a.file _ c.in_ok-read_only_place.ensures refl 0
    (past _ 5 0 [] (ap is_absent (sym c.state_at.ensures) ∙ sym c.is_absent.ensures ∙ c.if-is_absent.false) none_left)
