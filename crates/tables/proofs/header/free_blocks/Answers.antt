-- `tables::header::free_blocks` meets its contract. Assumes nothing.
use Prim.Native.Nat.{◌*◌, ◌+◌, ◌/◌}
use native.Mathlib.Omega.{arith}
use Rattle.tables.proofs.FreeBlocks.{free_count}
use Rattle.tables.proofs.header.free_blocks.Goals as goal

pub overflow_sub-result : goal.overflow_sub-result
overflow_sub-result c =
    omega (arith, c.block_count-b.ensures.0, free_count c.args.t.now (64 * ((c.block_count-b.result + 63) / 64)) (omega (arith, c.block_count-b.ensures.0)) (omega (arith, c.block_count-b.ensures.0, c.requires.1)) c.requires.2)

pub returns : goal.returns
returns c =
    omega (arith, c.requires.1, c.block_count-b.ensures.0, free_count c.args.t.now (64 * ((c.block_count-b.result + 63) / 64)) (omega (arith, c.block_count-b.ensures.0)) (omega (arith, c.block_count-b.ensures.0, c.requires.1)) c.requires.2)
