-- `writing::group_end` meets its contract. Assumes nothing.
use mathlib.Core.Path.{◌≡◌}
use Prim.Native.Nat.{max}
use native.Mathlib.Omega.{arith}
use Rattle.writing.proofs.group_end.Goals as goal

pub returns : goal.returns
returns c =
    let e : max 1 c.args.group ≡ c.args.group = omega (arith, c.requires.0) in
    omega (arith, c.group_first.ensures, e, c.min.ensures)
