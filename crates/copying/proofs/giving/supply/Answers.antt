-- `copying::giving::supply` meets its contract. Assumes nothing.
use mathlib.Core.Path.{ap}
use Rattle.tables.specs.Meaning.{entry_meant}
use Rattle.copying.proofs.Given.{supply_as, supply_hole, supply_none}
use Rattle.copying.proofs.giving.supply.Goals as goal

pub put_entry-requires : goal.put_entry-requires
unfolding entry_meant
put_entry-requires c =
    let p = c.requires in
    (p.0.packed, p.0.file, p.1, p.2, tt)

pub give_block-requires : goal.give_block-requires
unfolding entry_meant
give_block-requires c =
    let p = c.requires in
    (p.0, p.1, p.2, p.3 _ (ap entry_meant c.in-Stored.is), p.4)

pub returns-in-Unmapped : goal.returns-in-Unmapped
unfolding entry_meant
returns-in-Unmapped c =
    let a = c.args in
    supply_as a.must a.c a.page.0 _ _ (ap entry_meant c.in-Unmapped.is) (supply_none a.must a.c a.page.0 c.requires.0)

pub returns-in-Hole : goal.returns-in-Hole
unfolding entry_meant
returns-in-Hole c =
    let a = c.args in
    supply_as a.must a.c a.page.0 _ _ (ap entry_meant c.in-Hole.is) (supply_hole a.must a.c a.page.0 c.requires.0 c.put_entry.ensures)

pub returns-in-Stored : goal.returns-in-Stored
unfolding entry_meant
returns-in-Stored c =
    let a = c.args in
    supply_as a.must a.c a.page.0 _ _ (ap entry_meant c.in-Stored.is) c.give_block.ensures
