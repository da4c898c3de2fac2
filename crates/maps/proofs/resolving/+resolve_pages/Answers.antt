-- `maps::resolving::resolve_pages` meets its contract: it calls itself on the parent set, and the level falls. Assumes nothing.
use mathlib.Core.Logic.{inl, inr}
use mathlib.Core.Path.{refl}
use native.Mathlib.Omega.{arith}
use Rattle.maps.proofs.ManyPages.{all_mapped, few_looks, resolved_above, resolved_here, resolved_low}
use Rattle.maps.proofs.resolving.+resolve_pages.Goals as goal

pub keep_mapped-requires : goal.keep_mapped-requires
keep_mapped-requires t c =
    let u = c.unmapped_in-rest in
    let p = c.requires in
    (p.0, p.1, all_mapped _ _ u.result _ u.ensures refl)

pub returns-then-rest-eq0 : goal.returns-then-rest-eq0
returns-then-rest-eq0 t c =
    let u = c.unmapped_in-rest in
    elim c.then-rest-eq0.either [
      | inl e ↦ resolved_here _ _ _ _ _ u.result _ _ _ u.ensures refl c.keep_mapped.ensures _ c.page_count-looks.ensures.0 c.all_holes.ensures e
      | inr w ↦ resolved_low _ _ _ _ _ u.result _ _ _ u.ensures refl c.keep_mapped.ensures _ c.page_count-looks.ensures.0 c.all_holes.ensures w.1
    ]

pub resolve_pages-up-requires : goal.resolve_pages-up-requires
resolve_pages-up-requires t c =
    let p = c.requires in
    (omega arith, (p.0, p.1, omega arith))

pub keep_mapped-requires-2 : goal.keep_mapped-requires-2
keep_mapped-requires-2 t c =
    let u = c.unmapped_in-rest in
    let p = c.requires in
    (p.0, p.1, all_mapped _ _ u.result _ u.ensures refl)

pub overflow_add-result : goal.overflow_add-result
overflow_add-result t c =
    let z = few_looks _ _ _ _ _ _ c.resolve_pages-up.ensures in
    omega arith

pub returns : goal.returns
returns t c =
    resolved_above _ _ _ _ _ c.unmapped_in-rest.result _ _ _ c.unmapped_in-rest.ensures refl c.keep_mapped-2.ensures _ c.page_count-looks.ensures.0 c.parent_in.result c.resolve_pages-up.result
    c.if-level-eq0.false c.parent_in.ensures.0 refl c.resolve_pages-up.ensures
