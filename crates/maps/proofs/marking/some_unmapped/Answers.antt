-- `maps::marking::some_unmapped` meets its contract. The loop's invariant: some page is unmapped exactly if one of the first 4 * n is.
use mathlib.Core.Path.{sym, ◌∙◌}
use Prim.Native.Nat.{◌*◌}
use native.Mathlib.Omega.{arith}
use Rattle.maps.proofs.FourEntries.{four_down, four_here, some_none}
use Rattle.maps.proofs.marking.some_unmapped.Goals as goal

pub returns-then-among : goal.returns-then-among
returns-then-among c =
    let p = c.requires in
    sym (c.loop-n.invariant
    ∙ four_here _ _ _ p.1 p.2 c.loop-n.n _ (λ i. (c.type_inv.t i).fits) (omega arith) (omega arith) c.read.ensures.0 (sym c.if-among.ensures))

pub loop-n-preserved : goal.loop-n-preserved
loop-n-preserved c =
    let p = c.requires in
    c.loop-n.invariant
    ∙ four_down _ _ _ p.1 p.2 c.loop-n.n _ (λ i. (c.type_inv.t i).fits) (omega arith) (omega arith) c.read.ensures.0 (sym c.if-among.ensures)

pub returns : goal.returns
returns c = sym (c.loop-n.invariant ∙ some_none _ (4 * c.loop-n.n) (omega arith))
