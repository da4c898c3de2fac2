-- `tables::entries::take_block` meets its contract. Assumes nothing.
use mathlib.Core.Option.{some}
use mathlib.Core.Path.{◌≡◌}
use Prim.Native.Nat.{◌+◌}
use native.Mathlib.Nat.{mod-lt}
use native.Mathlib.Omega.{arith}
use Rattle.base.specs.Search.{first_free}
use Rattle.tables.proofs.FreeBlocks.{bit_taken, block_taken, first_below, first_lt, found_first, found_some}
use Rattle.tables.specs.Packed.{unpack}
use Rattle.tables.proofs.entries.take_block.Goals as goal
use Rattle.tables.proofs.entries.take_block.Goals.{In-Some}

-- some block is free, so that one is found
pub returns-in_default : goal.returns-in_default
returns-in_default c =
    let p = c.requires in
    absurd (found_some _ _ _ _ p.1 c.block_count-limit.ensures.0 c.next_start-start.ensures.0 c.first_free.ensures p.2 c.in_default.is)

-- it is the first free block
first : (c : In-Some) → let t = c.args.t.now in first_free (unpack t).blocks (unpack t).bits (unpack t).next ≡ some c.in-Some.b
first c =
    found_first _ _ _ _ c.requires.1 c.block_count-limit.ensures.0 c.next_start-start.ensures.0 c.first_free.ensures _ c.in-Some.is

pub set_bit-requires : goal.set_bit-requires
set_bit-requires c =
    let p = c.requires in
    omega (arith, first_lt _ _ p.0 p.1 (first (goal.at.set_bit-requires c).In-Some), p.0.len)

pub after-requires : goal.after-requires
after-requires c =
    let p = c.requires in
    let n = c.block_count-limit in
    (omega (arith, n.ensures.0, first_below _ _ p.0 p.1 (first (goal.at.after-requires c).In-Some)), omega (arith, n.ensures.0, p.1.most))

pub put_next-requires : goal.put_next-requires
put_next-requires c =
    let p = c.requires in
    let n = c.block_count-limit in (
      (bit_taken _ _ p.0 p.1 (first (goal.at.put_next-requires c).In-Some) _ c.set_bit.ensures).packed,
      omega (arith, c.after.ensures, mod-lt (c.in-Some.b + 1) {m = n.result} (omega (arith, n.ensures.0, p.1.at_least)), n.ensures.0, p.1.most),
    )

-- its number fits
pub overflow_cast-result : goal.overflow_cast-result
overflow_cast-result c =
    let p = c.requires in
    omega (arith, first_lt _ _ p.0 p.1 (first (goal.at.overflow_cast-result c).In-Some))

pub returns : goal.returns
returns c =
    let p = c.requires in
    block_taken _ _ p.0 p.1 (first (goal.at.returns c).In-Some) _ _ _ _ c.block_count-limit.ensures.0 c.after.ensures c.set_bit.ensures c.put_next.ensures
