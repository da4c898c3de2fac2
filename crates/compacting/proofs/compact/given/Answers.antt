-- `compacting::compact::given` meets its contract. Assumes nothing.
use mathlib.Core.Path.{ap}
use native.Mathlib.Omega.{arith}
use Rattle.base.specs.Logic.{digit}
use Rattle.compacting.proofs.NotStored.{not_stored}
use Rattle.rules.specs.State.{is_stored}
use Rattle.tables.specs.Meaning.{entry_meant}
use Rattle.compacting.proofs.compact.given.Goals as goal

pub returns-in-Unmapped : goal.returns-in-Unmapped
returns-in-Unmapped c = let z = ap digit (not_stored _ c.in-Unmapped.is) in omega (arith, z)

pub returns-in-Stored : goal.returns-in-Stored
unfolding entry_meant
returns-in-Stored c = let z = ap (λ x. digit (is_stored (entry_meant x))) c.in-Stored.is in omega (arith, z)
