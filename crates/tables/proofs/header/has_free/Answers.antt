-- `tables::header::has_free` meets its contract. Assumes nothing.
use mathlib.Core.Path.{◌∙◌}
use Prim.Native.Nat.{◌*◌, ◌+◌, ◌-◌, ◌/◌}
use native.Mathlib.Omega.{arith}
use Rattle.tables.proofs.FreeBlocks.{enough_free}
use Rattle.tables.proofs.header.has_free.Goals as goal

pub returns : goal.returns
returns c =
    let b = c.block_count-b in
    let w = (b.result + 63) / 64 in
    c.has_clear.ensures ∙ enough_free c.args.t.now (64 * w) (w * 64 - b.result) c.args.need
    (omega (arith, b.ensures.0)) (omega (arith, b.ensures.0, c.requires.1)) c.requires.2
