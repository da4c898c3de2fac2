-- `panel::table::writable_of` meets its contract. Assumes nothing.
use borrow.Author.Rules.{rules}
use Rattle.tables.specs.Panel.{writable_bits}
use Rattle.panel.proofs.table.writable_of.Goals as goal

pub returns : goal.returns
unfolding writable_bits
returns c = search rules
