-- `packing::bitmap::count_set` meets its contract. The loop's invariant: n counts the set bits of the first i words. Assumes nothing.
use Rattle.std.proofs.Common.{◌≡◌, arith}
use lib.Count.{ones-le}
use Rattle.base.specs.Count.{count}
use Rattle.packing.proofs.bitmap.Turns.{counted}
use Rattle.packing.proofs.bitmap.count_set.Goals as goal

pub loop-i-init : goal.loop-i-init
unfolding count
loop-i-init c = omega arith

pub overflow_add-n : goal.overflow_add-n
overflow_add-n c = omega (arith, ones-le 64 c.low.result (omega arith))

pub loop-i-preserved : goal.loop-i-preserved
loop-i-preserved c = (
  omega (arith, ones-le 64 c.low.result (omega arith)),
  counted _ _ c.loop-i.i _ _ (λ i. (c.type_inv.t i).fits) c.low.ensures.0 c.loop-i.invariant.1,
)

pub returns : goal.returns
returns c =
    let e : c.loop-i.i ≡ c.args.words = omega arith in
    rw e at c.loop-i.invariant.1
