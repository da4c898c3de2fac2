-- `compacting::exchange::move_to` meets its contract. Assumes nothing.
use native.Mathlib.Omega.{arith}
use Rattle.compacting.proofs.Turning.{below_fits, moved_bytes, named_fits}
use Rattle.tables.specs.Meaning.{entry_meant}
use Rattle.compacting.proofs.exchange.move_to.Goals as goal

pub take_at-c-requires : goal.take_at-c-requires
take_at-c-requires c = let p = c.requires in (p.0.packed, (below_fits _ _ _ p.0 p.3).1)

pub copy_page-requires : goal.copy_page-requires
copy_page-requires c =
    let p = c.requires in
    let f = (below_fits _ _ _ p.0 p.3).0 in
    let e = c.take_at-c.ensures.0 in
    ((named_fits _ _ _ _ p.0 p.2).0, omega (arith, f, e))

pub put_in-requires : goal.put_in-requires
unfolding entry_meant
put_in-requires c =
    let p = c.requires in
    let f = (below_fits _ _ _ p.0 p.3).1 in
    let e = c.take_at-c.ensures.0 in
    (c.take_at-c.ensures.1.packed, p.1, omega (arith, f, e))

pub release_block-requires : goal.release_block-requires
release_block-requires c = let p = c.requires in (c.put_in.ensures.packed, (named_fits _ _ _ _ p.0 p.2).1)

pub returns : goal.returns
unfolding entry_meant
returns c =
    let p = c.requires in
    moved_bytes _ _ _ _ _ _ c.args.n c.args.k c.args.b.0 _ p.0 p.2 p.4 c.take_at-c.ensures c.copy_page.ensures c.put_in.ensures c.release_block.ensures
