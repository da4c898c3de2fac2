-- `setcheck::header::pages_fit` meets its contract. Assumes nothing.
use mathlib.Core.Path.{ap}
use Prim.Native.Nat.{◌*◌}
use lib.Dec.{eqb}
use Rattle.setcheck.proofs.header.pages_fit.Goals as goal

pub returns : goal.returns
returns c = ap (λ b. eqb c.args.n (b * 512)) c.block_count.ensures.0
