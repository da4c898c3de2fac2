-- `setchanges::create::put_holes` meets its contract. The loop's invariant: the first p entries are holes. Assumes nothing.
use Rattle.tables.specs.Views.{Turns}
use Rattle.setchanges.proofs.Holes.{holes_to}
use Rattle.setchanges.proofs.create.put_holes.Given as goal

abbrev pub invariant-loop-p : goal.invariant-loop-p
invariant-loop-p l = Turns l.initial.t l.t (holes_to l.f l.s l.p)
