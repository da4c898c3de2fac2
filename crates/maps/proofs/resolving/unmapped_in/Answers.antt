-- `maps::resolving::unmapped_in` meets its contract. Assumes nothing.
use native.Mathlib.Omega.{arith}
use lib.Bits.{and_le_l}
use Rattle.maps.proofs.ManyPages.{unmapped_all, unmapped_some}
use Rattle.maps.proofs.OutOfRange.{map_out}
use Rattle.maps.proofs.resolving.unmapped_in.Goals as goal

pub returns-then-s-ge8 : goal.returns-then-s-ge8
returns-then-s-ge8 c = unmapped_all _ _ (omega arith) (λ p. map_out c.args.t.now c.args.s c.if-s-ge8.true c.args.f p)

pub returns : goal.returns
returns c =
    let u = c.unmapped_pages in
    unmapped_some c.args.m u.result _ u.ensures (let z = and_le_l c.args.m u.result in omega arith)
