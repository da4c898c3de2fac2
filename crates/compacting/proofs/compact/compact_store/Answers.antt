-- `compacting::compact::compact_store` meets its contract. Assumes nothing.
use native.Mathlib.Omega.{arith}
use Rattle.compacting.proofs.Turning.{gathered_compacted, gathered_least, gathered_most}
use Rattle.compacting.proofs.compact.compact_store.Goals as goal

pub block_count-limit-requires : goal.block_count-limit-requires
block_count-limit-requires c = omega (arith, c.place_all-k.ensures.lent.packed.len)

pub reduced-requires : goal.reduced-requires
reduced-requires c =
    let g = c.place_all-k.ensures in
    let e = c.block_count-limit.ensures.0 in
    let a = gathered_most _ _ _ _ _ g in
    let b = gathered_least _ _ _ _ _ g in
    let m = g.lent.most in
    (omega (arith, a, e), omega (arith, b, e), omega (arith, m, e))

pub put_next-requires : goal.put_next-requires
put_next-requires c = (c.place_all-k.ensures.lent.packed, c.reduced.ensures.1)

pub returns : goal.returns
returns c =
    gathered_compacted _ _ _ _ _ c.place_all-k.ensures _ _ c.block_count-limit.result c.block_count-limit.ensures.0 c.reduced.ensures.0 c.put_next.ensures
