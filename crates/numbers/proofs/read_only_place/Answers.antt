-- `numbers::read_only_place` meets its contract. Assumes nothing.
use mathlib.Core.List.{[]}
use mathlib.Core.Bool.{not}
use mathlib.Core.Path.{ap, refl, sym, ◌∙◌}
use native.Mathlib.Omega.{arith}
use Rattle.rules.specs.State.{SetRecord}
use Rattle.tables.specs.Calls.{store_of}
use Rattle.numbers.specs.Shared.{view_in}
use Rattle.numbers.proofs.Rows.{read_only_place_first, read_only_place_then, here, in_place, none_left, past}
use Rattle.numbers.proofs.Told.{above_0, passed_on}
use Rattle.numbers.proofs.read_only_place.Goals as goal

pub returns-in_err-no_such_place : goal.returns-in_err-no_such_place
returns-in_err-no_such_place c =
    let a = c.args in
    passed_on _ _ c.from_residual.ensures.1 ∙ read_only_place_first (store_of a.t.now []) a.set a.file _ c.in_err-no_such_place.ensures (above_0 _)

pub set_at-r-requires : goal.set_at-r-requires
set_at-r-requires c =
    let a = c.args in
    (omega (arith, c.requires), (in_place (view_in a.t.now) a.set a.file _ [] c.in_ok-no_such_place.ensures refl).0)

pub returns-then-not-r : goal.returns-then-not-r
returns-then-not-r c =
    let a = c.args in
    read_only_place_then (store_of a.t.now []) a.set a.file _ c.in_ok-no_such_place.ensures refl 4
    (here _ 4 [] (ap (λ (x : SetRecord). not x.writeable) (sym c.set_at-r.ensures.0) ∙ c.if-not-r.true))

pub returns : goal.returns
returns c =
    let a = c.args in
    read_only_place_then (store_of a.t.now []) a.set a.file _ c.in_ok-no_such_place.ensures refl 0
    (past _ 4 0 [] (ap (λ (x : SetRecord). not x.writeable) (sym c.set_at-r.ensures.0) ∙ c.if-not-r.false) none_left)
