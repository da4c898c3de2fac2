-- `changing::dropping::drop_pages` meets its contract. The loop's invariant: dropping the m pages is what is done and then dropping those from q on. Assumes nothing.
use mathlib.Core.Path.{◌≡◌}
use Prim.Native.Nat.{◌+◌, ◌-◌}
use native.Mathlib.Omega.{arith}
use Rattle.tables.specs.Packed.{unpack}
use Rattle.copying.proofs.Chains.{up_pages}
use Rattle.changing.proofs.OnTables.{dropping, dropping_done, dropping_start, dropping_turn}
use Rattle.changing.proofs.dropping.drop_pages.Goals as goal

pub loop-q-init : goal.loop-q-init
loop-q-init c =
    let a = c.args in
    let e : a.first + a.m - a.first ≡ a.m = omega arith in
    rw e (dropping_start (up_pages (dropping a.s) (unpack a.t.now).sets a.first a.m) c.requires.0 c.requires.1)

pub drop_page-requires : goal.drop_page-requires
drop_page-requires c =
    let i = c.loop-q.invariant in
    (i.packed, i.blocks_in, c.requires.2, c.requires.3, omega (arith, c.new.ensures))

pub loop-q-preserved : goal.loop-q-preserved
loop-q-preserved c =
    let a = c.args in
    dropping_turn a.s c.loop-q.q (a.first + a.m - c.loop-q.q) (a.first + a.m - (c.loop-q.q + 1)) _ c.loop-q.invariant (omega arith) c.new.ensures c.drop_page.ensures.0 c.drop_page.ensures.1

pub returns : goal.returns
returns c =
    let a = c.args in
    dropping_done a.s c.loop-q.q (a.first + a.m - c.loop-q.q) c.loop-q.invariant (omega arith)
