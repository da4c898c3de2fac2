-- `dates::end_in` meets its contract. Assumes nothing.
use native.Mathlib.Omega.{arith}
use Rattle.rules.proofs.Terms.Dates.{day_past}
use Rattle.dates.proofs.end_in.Goals as goal

pub returns-then-n-ge1200 : goal.returns-then-n-ge1200
returns-then-n-ge1200 c = let a = c.args in (omega (arith, day_past a.n a.day (omega arith)), omega arith)
