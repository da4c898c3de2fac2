-- `copying::giving::give_chain` meets its contract. The loop's invariant: giving the page along the chain is what is done and then giving it to the chain from c on. Assumes nothing.
use mathlib.Core.Path.{◌≡◌}
use Prim.Native.Nat.{◌+◌, ◌-◌}
use native.Mathlib.Omega.{arith}
use Rattle.tables.specs.Meaning.{entry_meant}
use Rattle.tables.specs.Packed.{unpack}
use Rattle.copying.specs.Work.{give_chain}
use Rattle.copying.proofs.Steps.{going_done, going_start}
use Rattle.copying.proofs.Chains.{chain_end, chain_out, chain_turn}
use Rattle.copying.proofs.Given.{below_same, giving_as}
use Rattle.copying.proofs.giving.give_chain.Goals as goal

pub loop-init : goal.loop-init
loop-init c =
    let a = c.args in
    let e : a.most - 0 ≡ a.most = omega arith in
    rw e (going_start (give_chain (unpack a.t.now).sets a.must (entry_meant a.e) a.page.0 a.most a.first) c.requires.0)

pub returns-then-c-ge8 : goal.returns-then-c-ge8
returns-then-c-ge8 c =
    let a = c.args in
    going_done c.loop.invariant (chain_end (giving_as a.must (entry_meant a.e) a.page.0) (unpack a.t.now).sets (a.most - c.loop.counter) c.loop.c c.if-c-ge8.true)

pub give-w-requires : goal.give-w-requires
give-w-requires c =
    let g = c.loop.invariant in
    (g.ready, c.requires.1, below_same g c.requires.2, omega arith)

pub loop-preserved : goal.loop-preserved
loop-preserved c =
    let a = c.args in
    chain_turn (giving_as a.must (entry_meant a.e) a.page.0) (a.most - c.loop.counter) (a.most - (c.loop.counter + 1)) c.loop.c c.next_sibling_of-c.result c.loop.invariant (omega arith) (omega arith)
    c.give-w.ensures c.next_sibling_of-c.ensures.0

pub returns : goal.returns
returns c =
    let a = c.args in
    going_done c.loop.invariant (chain_out (giving_as a.must (entry_meant a.e) a.page.0) (unpack a.t.now).sets (a.most - c.loop.counter) c.loop.c (omega arith))
