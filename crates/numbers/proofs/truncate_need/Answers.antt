-- `numbers::truncate_need` meets its contract. Assumes nothing.
use mathlib.Core.Path.{◌≡◌, ap, sym, ◌∙◌}
use Prim.Native.Nat.{◌/◌, ◌<◌, ◌≤◌}
use native.Mathlib.Omega.{arith}
use mathlib.Core.Bool.{not}
use Rattle.base.specs.Logic.{digit}
use Rattle.rules.specs.Reading.{resolve, size_by_reading}
use Rattle.rules.specs.State.{Tree, is_stored, tree_of}
use Rattle.tables.specs.Packed.{unpack}
use Rattle.numbers.proofs.Needs.{need_above, need_hole, need_multiple, need_one}
use Rattle.numbers.proofs.truncate_need.Goals as goal
use Rattle.numbers.proofs.truncate_need.Goals.{After-is_stored}

pub returns-then-size_of-n : goal.returns-then-size_of-n
returns-then-size_of-n c =
    let a = c.args in
    let tree : Tree = tree_of (unpack a.t.now).sets in
    let l : size_by_reading tree ((unpack a.t.now).files a.f) a.s ≤ a.n = omega arith in
    need_above tree ((unpack a.t.now).files a.f) a.s a.n l

pub returns-then-n-eq0 : goal.returns-then-n-eq0
returns-then-n-eq0 c =
    let a = c.args in
    need_multiple (tree_of (unpack a.t.now).sets) ((unpack a.t.now).files a.f) a.s a.n c.if-n-eq0.true

-- what the page of n resolves to: is it stored?
resolved : (c : After-is_stored) → let a = c.args in
    is_stored (resolve (tree_of (unpack a.t.now).sets) ((unpack a.t.now).files a.f) a.s (a.n / 512)) ≡ c.is_stored.result
resolved c =
    let a = c.args in
    sym (c.is_stored.ensures ∙ ap is_stored c.resolve_in-r.ensures.0
    ∙ ap (λ q. is_stored (resolve (tree_of (unpack a.t.now).sets) ((unpack a.t.now).files a.f) a.s q)) c.new-page.ensures)

pub returns-then-not-is_stored : goal.returns-then-not-is_stored
returns-then-not-is_stored c =
    let a = c.args in
    need_hole (tree_of (unpack a.t.now).sets) ((unpack a.t.now).files a.f) a.s a.n c.if-n-eq0.false
    (resolved (goal.at.returns-then-not-is_stored c).After-is_stored ∙ c.if-not-is_stored.true)

pub returns : goal.returns
returns c =
    let a = c.args in
    let tree : Tree = tree_of (unpack a.t.now).sets in
    let files = (unpack a.t.now).files a.f in
    let l : a.n < size_by_reading tree files a.s = omega (arith, c.size_of.ensures.0) in
    c.missing.ensures.0 ∙ ap (λ x. digit (not (is_stored x))) c.entry_at.ensures ∙ ap (λ q. digit (not (is_stored ((files a.s).map q)))) c.new-page.ensures
    ∙ need_one tree files a.s a.n l c.if-n-eq0.false (resolved (goal.at.returns c).After-is_stored ∙ c.if-not-is_stored.false)
