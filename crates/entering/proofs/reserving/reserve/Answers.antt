-- `entering::reserving::reserve` meets its contract. Assumes nothing.
use mathlib.Core.Path.{ap, sym, ◌∙◌}
use native.Mathlib.Omega.{arith}
use Rattle.rules.specs.State.{is_stored}
use Rattle.tables.specs.Meaning.{entry_meant}
use Rattle.entering.proofs.Named.{either_none}
use Rattle.entering.proofs.Pending.{reserved_new, reserved_own, some_free}
use Rattle.entering.proofs.reserving.reserve.Goals as goal

pub take_own-requires : goal.take_own-requires
take_own-requires c =
    let h = c.requires.5 (ap is_stored (sym c.entry_at-e.ensures) ∙ either_none c.entry_at-e.result c.in-Unmapped.is) in
    (c.requires.0, c.requires.1.header, some_free c.args.t.now c.requires.1 h, h, omega (arith, c.requires.1.room, c.requires.1.alive))

pub returns-in-Unmapped : goal.returns-in-Unmapped
returns-in-Unmapped c =
    let a = c.args in
    reserved_new a.f a.s a.page.0 _ (entry_meant c.entry_at-e.result) c.requires.1 c.requires.5 c.entry_at-e.ensures
    (either_none c.entry_at-e.result c.in-Unmapped.is) c.take_own.ensures

pub returns-in-Stored : goal.returns-in-Stored
unfolding entry_meant
returns-in-Stored c =
    let a = c.args in
    reserved_own a.f a.s a.page.0 _ c.requires.0 c.requires.1 (sym c.entry_at-e.ensures ∙ ap entry_meant c.in-Stored.is)
