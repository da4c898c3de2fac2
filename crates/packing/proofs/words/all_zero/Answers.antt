-- `packing::words::all_zero` meets its contract. The loop's invariant: x is zero exactly where the bytes so far are. Assumes nothing.
use Rattle.std.proofs.Common.{◌≡◌, ◌<◌, ◌+◌, ◌-◌, ℕ, arith, get_or-take, get_or-drop, length-take, length-drop}
use Rattle.packing.specs.Zeros.{zero_more, zero_none}
use Rattle.packing.proofs.words.all_zero.Goals as goal

pub loop-y-init : goal.loop-y-init
loop-y-init c = zero_none _ _

pub loop-y-preserved : goal.loop-y-preserved
loop-y-preserved c =
    let h : c.loop-y.y-index < c.args.at + c.args.n - c.args.at = omega (arith, c.loop-y-test.true, length-take {A = ℕ}) in
    simp (get_or-take, get_or-drop) (zero_more _ _ _ c.loop-y.x c.loop-y.invariant)

pub returns : goal.returns
returns c =
    let e : c.loop-y.y-index ≡ c.args.n = omega (arith, length-take {A = ℕ}, length-drop {A = ℕ}) in
    rw e at c.loop-y.invariant
