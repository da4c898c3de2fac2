-- `maps::reading::resolve_in` meets its contract. Assumes nothing.
use mathlib.Core.Path.{ap, refl, sym, ◌∙◌}
use Rattle.rules.specs.State.{is_unmapped}
use Rattle.tables.specs.Meaning.{entry_meant}
use Rattle.tables.specs.Packed.{unpack}
use Rattle.maps.proofs.Steps.{looks_here, looks_level, resolve_here, resolve_level}
use Rattle.maps.proofs.reading.resolve_in.Goals as goal

pub returns-then-not-is_unmapped : goal.returns-then-not-is_unmapped
returns-then-not-is_unmapped c =
    let a = c.args in
    let tb = unpack a.t.now in
    let n = (tb.sets a.s).level in
    let h = sym c.if-not-is_unmapped.ensures in (
      resolve_here tb a.f a.page.0 a.s n (entry_meant c.entry_at-e.result) c.entry_at-e.ensures h ∙ resolve_level _ _ _ _ n refl,
      sym (looks_here tb a.f a.page.0 a.s n (ap is_unmapped (sym c.entry_at-e.ensures) ∙ h)) ∙ looks_level _ _ _ _ n refl,
    )

pub returns : goal.returns
returns c =
    let r = c.resolve.ensures in
    let l = c.level_of-n.ensures.0 in
    (r.0 ∙ resolve_level _ _ _ _ _ l, r.1 ∙ looks_level _ _ _ _ _ l)
