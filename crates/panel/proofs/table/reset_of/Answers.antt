-- `panel::table::reset_of` meets its contract. Assumes nothing.
use borrow.Author.Rules.{rules}
use Rattle.tables.specs.Panel.{reset_values}
use Rattle.panel.proofs.table.reset_of.Goals as goal

pub returns : goal.returns
unfolding reset_values
returns c = search rules
