-- `compacting::compact::place_entry` meets its contract. Assumes nothing.
use mathlib.Core.Path.{ap, sym, ◌∙◌}
use native.Mathlib.Omega.{arith}
use Rattle.base.specs.Logic.{digit}
use Rattle.compacting.proofs.NotStored.{not_stored}
use Rattle.compacting.proofs.Tracking.{tracked_next}
use Rattle.compacting.proofs.Turning.{gather_below, gather_more, gather_owner, gather_skip, gathered_as}
use Rattle.rules.specs.State.{is_stored}
use Rattle.tables.specs.Meaning.{entry_meant}
use Rattle.compacting.proofs.compact.place_entry.Goals as goal

pub place_block-requires : goal.place_block-requires
unfolding entry_meant
place_block-requires c =
    let p = c.requires in
    let here = sym p.3 ∙ ap entry_meant c.in-Stored.is in
    (p.0, p.2, here, gather_below _ _ p.0 c.args.n c.args.k p.1 _ p.2 here, gather_owner _ _ p.0 c.args.n c.args.k p.1, p.4, p.5)

pub returns-in-Unmapped : goal.returns-in-Unmapped
returns-in-Unmapped c =
    let q = not_stored _ c.in-Unmapped.is in
    let z = ap digit q in
    (gathered_as _ _ _ _ _ c.args.k _ (gather_skip _ _ c.requires.0 c.args.n c.args.k c.requires.1 _ c.requires.3 q) (omega (arith, z)), tracked_next _ _ _ _ c.requires.5)

pub returns-in-Stored : goal.returns-in-Stored
unfolding entry_meant
returns-in-Stored c =
    let p = c.requires in
    let here = sym p.3 ∙ ap entry_meant c.in-Stored.is in
    let z = ap (λ x. digit (is_stored (entry_meant x))) c.in-Stored.is in (
      gathered_as _ _ _ _ _ _ _ (gather_more _ _ p.0 c.args.n c.args.k p.1 _ p.2 here _ _ c.place_block.auto.p c.place_block.ensures.0) (omega (arith, z)),
      c.place_block.ensures.1,
    )
