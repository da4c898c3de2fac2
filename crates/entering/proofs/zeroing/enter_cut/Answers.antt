-- `entering::zeroing::enter_cut` meets its contract. Assumes nothing.
use mathlib.Core.Path.{ap, sym, ◌∙◌}
use Rattle.rules.specs.Storage.{zero_from}
use Rattle.tables.specs.Meaning.{entry_meant}
use Rattle.copying.proofs.Given.{resolve_below}
use Rattle.entering.proofs.Named.{none_named}
use Rattle.entering.proofs.Pending.{enter_none, enter_some}
use Rattle.entering.proofs.zeroing.enter_cut.Goals as goal

pub cut_block-requires : goal.cut_block-requires
unfolding entry_meant
cut_block-requires c =
    let a = c.args in (
      c.requires.0,
      c.requires.2,
      c.requires.3,
      c.requires.1 _ (sym c.held.ensures ∙ ap entry_meant c.in-Stored.is),
      resolve_below c.requires.0 a.s a.page.0 c.resolve_in-r.ensures.0,
      c.requires.4,
    )

pub returns-in-Stored : goal.returns-in-Stored
unfolding entry_meant
returns-in-Stored c h eh =
    let a = c.args in
    enter_some h a.s a.page.0 (λ q. zero_from a.n) _ (entry_meant c.resolve_in-r.result.entry)
    (eh ∙ sym c.held.ensures ∙ ap entry_meant c.in-Stored.is) c.resolve_in-r.ensures.0 c.cut_block.ensures

pub returns-in_default : goal.returns-in_default
returns-in_default c h eh =
    let a = c.args in
    enter_none h a.s a.page.0 (λ q. zero_from a.n) (entry_meant c.held.result) c.requires.0 (c.held.ensures ∙ sym eh) (none_named c.held.result c.in_default.not-Stored)
