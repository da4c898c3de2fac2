-- `dates::month_length` meets its contract. Assumes nothing.
use borrow.Author.Rules.{rules}
use Rattle.rules.specs.Terms.{month_length}
use Rattle.dates.proofs.month_length.Goals as goal

pub returns : goal.returns
unfolding month_length
returns c = search rules
