-- `compacting::exchange::swap_pages` meets its contract. The loop's invariant: the bytes before byte i have changed places. Assumes nothing.
use mathlib.Core.Path.{◌≡◌}
use Rattle.compacting.specs.Exchange.{traded}
use Rattle.compacting.proofs.exchange.swap_pages.Given as goal

abbrev pub invariant-loop-i : goal.invariant-loop-i
invariant-loop-i l = l.pages ≡ traded l.initial.pages l.x l.y l.i
