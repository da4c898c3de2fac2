-- `tables::header::block_count` meets its contract. Assumes nothing.
use native.Mathlib.Omega.{arith}
use Rattle.tables.proofs.Codes.{blocks_read}
use Rattle.tables.proofs.header.block_count.Goals as goal

pub returns : goal.returns
returns c =
    let q = blocks_read c.args.t.now (λ i. (c.type_inv.t i).fits) in
    (omega arith, omega arith)
