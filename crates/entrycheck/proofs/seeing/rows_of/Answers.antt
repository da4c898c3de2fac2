-- `entrycheck::seeing::rows_of` meets its contract. Assumes nothing.
use borrow.Author.Rules.{rules}
use Rattle.entrycheck.specs.Moving.{rows}
use Rattle.entrycheck.proofs.seeing.rows_of.Goals as goal

pub returns : goal.returns
unfolding rows
returns c = search rules
