-- `packing::bitmap::has_clear` meets its contract. The loop's invariant: of the bits of the first j words n are clear. Assumes nothing.
use Rattle.std.proofs.Common.{◌≡◌, ◌+◌, ◌*◌, arith, refl}
use Rattle.base.specs.Count.{count}
use Rattle.packing.specs.Bitmap.{bit_at}
use Rattle.packing.proofs.bitmap.Turns.{clear_all, clear_enough, counted, zeros_ones}
use Rattle.packing.proofs.bitmap.has_clear.Goals as goal
use Rattle.packing.proofs.bitmap.has_clear.Goals.{After-count_zeros}

pub loop-j-init : goal.loop-j-init
unfolding count
loop-j-init c = refl

-- a word more
more : (c : After-count_zeros) → let l = c.loop-j in l.n + c.count_zeros.result + count (64 * (l.j + 1)) (bit_at c.args.t.now c.args.at) ≡ 64 * (l.j + 1)
more c =
    let a = c.args in
    let l = c.loop-j in
    omega (arith, zeros_ones 64 c.low.result (omega arith), counted a.t.now a.at l.j _ c.low.result (λ i. (c.type_inv.t i).fits) c.low.ensures.0 refl)

pub returns-then-need-n : goal.returns-then-need-n
returns-then-need-n c =
    clear_enough _ (c.loop-j.j + 1) _ _ (more (goal.at.returns-then-need-n c).After-count_zeros) _ (omega arith) c.if-need-n.true

pub loop-j-preserved : goal.loop-j-preserved
loop-j-preserved c = more (goal.at.loop-j-preserved c).After-count_zeros

pub returns : goal.returns
returns c = clear_all _ c.loop-j.j _ _ c.loop-j.invariant _ (omega arith)
