-- `panel::noting::cause_of` meets its contract. Assumes nothing.
use borrow.Author.Rules.{rules}
use Rattle.tables.specs.Panel.{cause_of}
use Rattle.panel.proofs.noting.cause_of.Goals as goal

pub returns : goal.returns
unfolding cause_of
returns c = search rules
