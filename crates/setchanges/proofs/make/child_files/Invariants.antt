-- `setchanges::make::child_files` meets its contract. The loop's invariant: the first f files are done. Assumes nothing.
use Rattle.tables.specs.Views.{Turns}
use Rattle.setchanges.proofs.ChildFiles.{child_files_to}
use Rattle.setchanges.proofs.make.child_files.Given as goal

abbrev pub invariant-loop-f : goal.invariant-loop-f
invariant-loop-f l = Turns l.initial.t l.t (child_files_to l.s l.c l.f)
