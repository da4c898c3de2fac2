-- `dates::day_or_last` meets its contract. Assumes nothing.
use native.Mathlib.Omega.{arith}
use Rattle.rules.proofs.Terms.Dates.{start_within}
use Rattle.rules.specs.Terms.{day_or_last}
use Rattle.dates.proofs.day_or_last.Goals as goal

pub returns : goal.returns
unfolding day_or_last
returns c = (omega arith, omega (arith, start_within c.args.n (omega arith)))
