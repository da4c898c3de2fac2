-- `tables::header::next_start` meets its contract. Assumes nothing.
use native.Mathlib.Omega.{arith}
use Rattle.tables.proofs.Codes.{next_read}
use Rattle.tables.proofs.header.next_start.Goals as goal

pub returns : goal.returns
returns c =
    let q = next_read c.args.t.now (λ i. (c.type_inv.t i).fits) in
    (omega arith, omega arith)
