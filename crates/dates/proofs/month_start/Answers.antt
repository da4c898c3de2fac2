-- `dates::month_start` meets its contract. Assumes nothing.
use mathlib.Core.Path.{refl}
use Prim.Native.Nat.{◌%◌}
use native.Mathlib.Omega.{arith}
use borrow.Author.Tests.{le-ltb, lt-ltb}
use Rattle.rules.proofs.Terms.Dates.{closed, start_closed}
use Rattle.dates.proofs.month_start.Goals as goal

pub returns-then-m-lt2 : goal.returns-then-m-lt2
unfolding closed
returns-then-m-lt2 c =
    let n = c.args.n in
    (rw (start_closed n (omega arith), lt-ltb (n % 12) 2 c.if-m-lt2.true) refl, omega arith)

pub returns : goal.returns
unfolding closed
returns c =
    let n = c.args.n in
    (rw (start_closed n (omega arith), le-ltb (n % 12) 2 c.if-m-lt2.false) refl, omega arith)
