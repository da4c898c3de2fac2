-- `copying::giving::copy_to` meets its contract. Assumes nothing.
use borrow.Author.Rules.{rules}
use Rattle.tables.specs.Meaning.{entry_meant}
use Rattle.copying.proofs.Kept.{copied}
use Rattle.copying.proofs.giving.copy_to.Goals as goal

pub put_entry-requires : goal.put_entry-requires
unfolding entry_meant
put_entry-requires c = search rules

pub returns : goal.returns
unfolding entry_meant
returns c =
    let a = c.args in
    copied _ _ a.f a.c a.page.0 a.b.0 c.take_block-d.result.0 a.k c.requires.0 c.requires.4 c.take_block-d.ensures c.copy_page.ensures
    c.copy_page.auto.pages c.put_entry.ensures
