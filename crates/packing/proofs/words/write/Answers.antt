-- `packing::words::write` meets its contract. The loop's invariant: the first i bytes are put. Assumes nothing.
use Rattle.std.proofs.Common.{◌≡◌, arith}
use Rattle.packing.proofs.words.Parts.{put_first, put_turn, put_all}
use Rattle.packing.proofs.words.write.Goals as goal

pub loop-i-init : goal.loop-i-init
loop-i-init g c = put_first _ _ _

pub loop-i-preserved : goal.loop-i-preserved
loop-i-preserved g c = put_turn g.row.N c.loop-i.i _ _ _ _ c.loop-i-test.true (omega arith) c.loop-i.invariant

pub returns : goal.returns
returns g c =
    let e : c.loop-i.i ≡ g.row.N = omega arith in
    put_all g.row.N _ _ _ _ (omega arith) (rw e at c.loop-i.invariant)
