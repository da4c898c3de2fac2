-- `maps::resolving::keep_mapped` meets its contract. Assumes nothing.
use native.Mathlib.Omega.{arith}
use Rattle.maps.proofs.ManyPages.{kept_none}
use Rattle.maps.proofs.OutOfRange.{map_out}
use Rattle.maps.proofs.resolving.keep_mapped.Goals as goal

pub returns-then-s-ge8 : goal.returns-then-s-ge8
returns-then-s-ge8 c = kept_none _ _ _ (omega arith) (λ p. map_out c.args.t.now c.args.s c.if-s-ge8.true c.args.f p) c.requires.2
