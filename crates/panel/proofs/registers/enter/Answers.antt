-- `panel::registers::enter` meets its contract. Assumes nothing.
use mathlib.Core.Path.{ap}
use lib.ListN.{set}
use Rattle.panel.proofs.registers.enter.Goals as goal

pub returns : goal.returns
returns c = let a = c.args in ap (set a.r.now a.offset) c.written.ensures
