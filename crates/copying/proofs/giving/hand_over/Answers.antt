-- `copying::giving::hand_over` meets its contract. Assumes nothing.
use Rattle.tables.specs.Meaning.{entry_meant}
use Rattle.copying.proofs.Handed.{entry_fits, moved}
use Rattle.copying.proofs.giving.hand_over.Goals as goal

pub put_entry-requires : goal.put_entry-requires
put_entry-requires c =
    let p = c.requires in
    (p.0, p.1, (p.4 c.in-Some.c c.in-Some.is).0, p.3, entry_fits (entry_meant c.args.e) p.5)

pub put_entry-requires-in-Some : goal.put_entry-requires-in-Some
unfolding entry_meant
put_entry-requires-in-Some c =
    let p = c.requires in
    (c.put_entry.ensures.packed, p.1, p.2, p.3, tt)

pub returns-in-Some : goal.returns-in-Some
unfolding entry_meant
returns-in-Some c =
    let a = c.args in
    moved a.f a.s a.page.0 c.in-Some.c a.heir (entry_meant a.e) c.in-Some.is (c.requires.4 c.in-Some.c c.in-Some.is).1 c.put_entry.ensures c.put_entry-in-Some.ensures
