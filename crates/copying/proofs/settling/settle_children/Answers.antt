-- `copying::settling::settle_children` meets its contract. The loop's invariant: settling the children is what is done and then settling the chain from c on. Assumes nothing.
use Prim.Native.Nat.{◌+◌, ◌-◌}
use native.Mathlib.Omega.{arith}
use Rattle.tables.specs.Packed.{unpack}
use Rattle.copying.proofs.Steps.{going_done}
use Rattle.copying.proofs.Chains.{chain_end, chain_out, chain_start, settling, settling_turn}
use Rattle.copying.proofs.settling.settle_children.Goals as goal

pub loop-init : goal.loop-init
loop-init c = record {
  packed = c.requires.0;
  going = λ p k re. chain_start settling c.args.s c.first_child_of-c.result c.requires.3 c.first_child_of-c.ensures.0 re;
}

pub returns-then-c-ge8 : goal.returns-then-c-ge8
returns-then-c-ge8 c =
    let i = c.loop.invariant in
    (i.packed, λ p k re. going_done (i.going p k re) (chain_end settling (unpack c.args.t.now).sets (8 - c.loop.counter) c.loop.c c.if-c-ge8.true))

pub loop-preserved : goal.loop-preserved
loop-preserved c = record {
  packed = c.settle_set.ensures.packed;
  going =
      settling_turn c.args.f (8 - c.loop.counter) (8 - (c.loop.counter + 1)) c.loop.c c.next_sibling_of-c.result c.loop.invariant.going (omega arith) (omega arith) c.settle_set.ensures
      c.next_sibling_of-c.ensures.0;
}

pub returns : goal.returns
returns c =
    let i = c.loop.invariant in
    (i.packed, λ p k re. going_done (i.going p k re) (chain_out settling (unpack c.args.t.now).sets (8 - c.loop.counter) c.loop.c (omega arith)))
