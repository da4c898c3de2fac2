-- `compacting::exchange::exchange` meets its contract. Assumes nothing.
use native.Mathlib.Omega.{arith}
use Rattle.compacting.proofs.Turning.{both_bytes, named_fits}
use Rattle.tables.specs.Meaning.{entry_meant}
use Rattle.compacting.proofs.exchange.exchange.Goals as goal

pub swap_pages-requires : goal.swap_pages-requires
swap_pages-requires c =
    (c.requires.6, (named_fits _ _ _ _ c.requires.0 c.requires.4).0, (named_fits _ _ _ _ c.requires.0 c.requires.3).0, c.requires.5)

pub put_in-requires : goal.put_in-requires
unfolding entry_meant
put_in-requires c =
    let f = (named_fits _ _ _ _ c.requires.0 c.requires.4).1 in
    (c.requires.0.packed, c.requires.1, omega (arith, f))

pub put_in-requires-2 : goal.put_in-requires-2
unfolding entry_meant
put_in-requires-2 c =
    let f = (named_fits _ _ _ _ c.requires.0 c.requires.3).1 in
    (c.put_in.ensures.packed, c.requires.2, omega (arith, f))

pub returns : goal.returns
unfolding entry_meant
returns c =
    both_bytes _ _ _ _ _ c.args.n c.args.o c.args.c.0 c.args.b.0 c.requires.0 c.requires.3 c.requires.4 c.swap_pages.ensures c.put_in.ensures c.put_in-2.ensures
