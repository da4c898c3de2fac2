-- `converting::clearing::clear_marked` meets its contract. The loop's invariant: the first i files are done. Assumes nothing.
use Rattle.converting.proofs.ClearedFiles.{Clearing}
use Rattle.converting.proofs.clearing.clear_marked.Given as goal

abbrev pub invariant-loop-i : goal.invariant-loop-i
invariant-loop-i l = Clearing l.initial.t l.t l.i
