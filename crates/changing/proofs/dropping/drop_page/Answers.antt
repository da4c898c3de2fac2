-- `changing::dropping::drop_page` meets its contract. Assumes nothing.
use borrow.Author.Rules.{rules}
use Rattle.rules.specs.State.{tree_of}
use Rattle.tables.specs.Meaning.{entry_meant}
use Rattle.tables.specs.Packed.{unpack}
use Rattle.changing.proofs.OnTables.{dropped, dropped_in, entry_in}
use Rattle.changing.proofs.dropping.drop_page.Goals as goal

pub free_entry-requires : goal.free_entry-requires
free_entry-requires c =
    let a = c.args in
    (c.requires.0, entry_in a.f a.s a.page.0 (unpack a.t.now) _ c.requires.1 c.entry_at-e.ensures)

pub put_entry-requires : goal.put_entry-requires
unfolding entry_meant
put_entry-requires c = search rules

pub returns : goal.returns
unfolding entry_meant
returns c =
    let a = c.args in (
      dropped a.f a.s a.page.0 (entry_meant c.entry_at-e.result) c.entry_at-e.ensures c.free_entry.ensures c.put_entry.ensures (tree_of (unpack a.t.now).sets),
      dropped_in a.f a.s a.page.0 (entry_meant c.entry_at-e.result) c.entry_at-e.ensures c.free_entry.ensures c.put_entry.ensures c.requires.1,
    )
