-- `formed::files::records_formed` meets its contract. The loop's invariant: the files of the numbers below f have passed. Assumes nothing.
use mathlib.Core.Bool.{true}
use mathlib.Core.List.{◌++◌}
use mathlib.Core.Path.{◌≡◌}
use Rattle.base.specs.Count.{all}
use Rattle.formed.specs.Files.{number_formed}
use Rattle.formed.proofs.files.records_formed.Given as goal

abbrev pub invariant-loop-f : goal.invariant-loop-f
invariant-loop-f l = all l.f (number_formed (l.front ++ l.files) l.older) ≡ true
