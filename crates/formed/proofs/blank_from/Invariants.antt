-- `formed::blank_from` meets its contract. The loop's invariant: the file records of the sets from set n on, before set s, are zero. Assumes nothing.
use Rattle.formed.proofs.Blank.{ZeroTo}
use Rattle.formed.proofs.blank_from.Given as goal

abbrev pub invariant-loop-s : goal.invariant-loop-s
invariant-loop-s l = ZeroTo l.files l.n l.s
