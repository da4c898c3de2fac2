-- `tables::header::put_next` meets its contract. Assumes nothing.
use mathlib.Core.Path.{ap}
use Prim.Native.Nat.{◌%◌, ◌*◌, ◌+◌, ◌/◌}
use lib.ListN.{set}
use borrow.Author.Rules.{rules}
use Rattle.tables.proofs.Written.{next_written}
use Rattle.tables.proofs.header.put_next.Goals as goal

pub returns : goal.returns
returns c =
    let a = c.args in
    next_written a.t.now _ a.n c.requires (λ i. search rules)
    (ap (λ x. set (set (set a.t.now 1 (x / 8 * 8 + a.n / 512)) 2 (a.n / 2 % 256)) 3 (a.n % 2 * 128)) c.from.ensures)
