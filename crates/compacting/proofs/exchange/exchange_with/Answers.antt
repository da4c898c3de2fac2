-- `compacting::exchange::exchange_with` meets its contract. Assumes nothing.
use mathlib.Core.Bool.{true≢false}
use mathlib.Core.Path.{ap, sym, ◌∙◌}
use Rattle.compaction.proofs.Places.{name_of}
use Rattle.compacting.proofs.NotStored.{not_stored}
use Rattle.compacting.proofs.Turning.{swap_as}
use Rattle.rules.specs.State.{is_stored}
use Rattle.tables.specs.Meaning.{entry_meant}
use Rattle.compacting.proofs.exchange.exchange_with.Goals as goal

pub exchange-requires : goal.exchange-requires
unfolding entry_meant
exchange-requires c =
    let p = c.requires in
    let e = ap entry_meant c.in-Stored.is in
    (p.0, p.1, p.2, p.3, p.4 ∙ sym p.5 ∙ e, p.6, λ q. p.7 (ap name_of (sym p.5 ∙ e) ∙ q))

pub returns-in-Unmapped : goal.returns-in-Unmapped
returns-in-Unmapped c = absurd (true≢false (sym (ap is_stored c.requires.5) ∙ not_stored _ c.in-Unmapped.is))

pub returns-in-Stored : goal.returns-in-Stored
unfolding entry_meant
returns-in-Stored c =
    swap_as _ c.args.k c.args.b.0 _ _ _ _ (ap name_of (sym (ap entry_meant c.in-Stored.is) ∙ c.requires.5)) c.exchange.ensures
