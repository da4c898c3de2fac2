-- `maps::reading::resolve` meets its contract: it calls itself on the parent set, and the level falls. Assumes nothing.
use mathlib.Core.Bool.{false}
use mathlib.Core.Logic.{inl, inr}
use mathlib.Core.Path.{ap, sym, ◌∙◌, ◌≡◌}
use Prim.Native.Nat.{ℕ, ◌+◌, ◌-◌}
use native.Mathlib.Omega.{arith}
use Rattle.rules.specs.State.{is_unmapped}
use Rattle.tables.specs.Meaning.{entry_meant}
use Rattle.tables.specs.declared.entries.Entry.{Entry}
use Rattle.tables.specs.Packed.{unpack}
use Rattle.maps.specs.Upward.{looks_from, resolve_from}
use Rattle.maps.proofs.Steps.{looks_above, looks_here, looks_in_8, looks_low, resolve_above, resolve_here, resolve_low}
use Rattle.maps.proofs.reading.+resolve.Goals as goal

pub returns-then-level-eq0 : goal.returns-then-level-eq0
unfolding entry_meant
returns-then-level-eq0 t c =
    let a = c.args in
    let tb = unpack a.t.now in (
      sym (resolve_low tb a.f a.page.0 a.s a.level c.if-level-eq0.true (sym c.entry_in-e.ensures ∙ ap entry_meant c.in-Unmapped.is)),
      sym (looks_low tb a.f a.page.0 a.s a.level c.if-level-eq0.true),
    )

pub resolve-up-requires : goal.resolve-up-requires
resolve-up-requires t c =
    let p = c.requires in
    (omega arith, (p.0, p.1, p.2, omega arith))

pub overflow_add-result : goal.overflow_add-result
overflow_add-result t c =
    let z = looks_in_8 _ _ _ _ _ _ c.resolve-up.ensures.1 (omega arith) in
    omega arith

pub returns-else-level-eq0 : goal.returns-else-level-eq0
unfolding entry_meant
returns-else-level-eq0 t c =
    let a = c.args in
    let tb = unpack a.t.now in
    let h = sym c.entry_in-e.ensures ∙ ap entry_meant c.in-Unmapped.is in
    let up = c.parent_in.ensures.0 in (
      c.resolve-up.ensures.0 ∙ ap (λ (x : ℕ). resolve_from tb a.f a.page.0 x (a.level - 1)) up
          ∙ sym (resolve_above tb a.f a.page.0 a.s a.level c.if-level-eq0.false h),
      ap (λ (x : ℕ). x + 1) (c.resolve-up.ensures.1 ∙ ap (λ (x : ℕ). looks_from tb a.f a.page.0 x (a.level - 1)) up)
          ∙ sym (looks_above tb a.f a.page.0 a.s a.level c.if-level-eq0.false h),
    )

pub returns-in-Hole : goal.returns-in-Hole
unfolding entry_meant
returns-in-Hole t c =
    let a = c.args in
    let tb = unpack a.t.now in
    let k : is_unmapped (entry_meant c.entry_in-e.result) ≡ false = elim c.in-Hole.is [
      | inl e ↦ ap (λ (x : Entry). is_unmapped (entry_meant x)) e
      | inr w ↦ ap (λ (x : Entry). is_unmapped (entry_meant x)) w.1
    ] in (
      resolve_here tb a.f a.page.0 a.s a.level (entry_meant c.entry_in-e.result) c.entry_in-e.ensures k,
      sym (looks_here tb a.f a.page.0 a.s a.level (ap is_unmapped (sym c.entry_in-e.ensures) ∙ k)),
    )
