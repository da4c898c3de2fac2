-- `converting::default_term` meets its contract. Assumes nothing.
use Rattle.converting.proofs.Fronts.{term_unused, term_used}
use Rattle.converting.proofs.default_term.Goals as goal

pub returns-then-w-eq1 : goal.returns-then-w-eq1
returns-then-w-eq1 c = term_used _ c.requires c.if-w-eq1.true

pub returns : goal.returns
returns c = term_unused _ c.requires c.if-w-eq1.false
