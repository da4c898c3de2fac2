-- `setchanges::remove::clear_files` meets its contract. The loop's invariant: the first f files are erased, their blocks free. Assumes nothing.
use Rattle.tables.specs.Views.{Turns}
use Rattle.setchanges.proofs.Clearing.{cleared_to}
use Rattle.setchanges.proofs.remove.clear_files.Given as goal

abbrev pub invariant-loop-f : goal.invariant-loop-f
invariant-loop-f l = Turns l.initial.t l.t (cleared_to l.c l.f)
