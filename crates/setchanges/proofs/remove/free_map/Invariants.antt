-- `setchanges::remove::free_map` meets its contract. The loop's invariant: the blocks of the first p entries are free. Assumes nothing.
use Rattle.tables.specs.Views.{Turns}
use Rattle.setchanges.proofs.Freeing.{freed_to}
use Rattle.setchanges.proofs.remove.free_map.Given as goal

abbrev pub invariant-loop-p : goal.invariant-loop-p
invariant-loop-p l = Turns l.initial.t l.t (freed_to l.f l.s l.p)
