-- `tables::sets::set_at` meets its contract. Assumes nothing.
use native.Mathlib.Omega.{arith}
use Rattle.tables.proofs.Codes.{set_read}
use Rattle.tables.proofs.sets.set_at.Goals as goal

pub returns : goal.returns
returns c = (
  set_read _ _ _ _ c.requires.1 c.read-w.ensures c.read-term.ensures.0,
  record {
    level_fits = omega arith;
    parent_fits = omega arith;
    child_fits = omega arith;
    sibling_fits = omega arith;
    first_fits = omega arith;
    end_fits = omega arith;
  },
)
