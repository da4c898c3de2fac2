-- `entering::enter` meets its contract. Assumes nothing.
use mathlib.Core.Path.{ap, refl, sym, ◌∙◌}
use Rattle.rules.specs.Storage.{overlay}
use Rattle.tables.specs.Meaning.{entry_meant}
use Rattle.entering.proofs.Named.{none_named}
use Rattle.entering.proofs.Pending.{enter_none, enter_some}
use Rattle.entering.proofs.enter.Goals as goal

pub enter_block-requires : goal.enter_block-requires
unfolding entry_meant
enter_block-requires c =
    (c.requires.0, c.requires.2, c.requires.3, c.requires.1 _ (sym c.held.ensures ∙ ap entry_meant c.in-Stored.is), c.requires.4)

pub returns-in-Stored : goal.returns-in-Stored
unfolding entry_meant
returns-in-Stored c h eh =
    let a = c.args in
    enter_some h a.s a.page.0 (overlay a.off a.«data».now) _ _
    (eh ∙ sym c.held.ensures ∙ ap entry_meant c.in-Stored.is) refl c.enter_block.ensures

pub returns-in_default : goal.returns-in_default
returns-in_default c h eh =
    let a = c.args in
    enter_none h a.s a.page.0 (overlay a.off a.«data».now) (entry_meant c.held.result) c.requires.0 (c.held.ensures ∙ sym eh) (none_named c.held.result c.in_default.not-Stored)
