-- `formed::linked::files_linked` meets its contract. The loop's invariant: the files of the sets whose digits are not left have been looked at. Assumes nothing.
use mathlib.Core.List.{◌++◌}
use Rattle.formed.proofs.LinkedRules.{Linking}
use Rattle.formed.proofs.linked.files_linked.Given as goal

abbrev pub invariant-loop-left : goal.invariant-loop-left
invariant-loop-left l = Linking (l.front ++ l.files) l.f l.lives l.resolved l.left

abbrev pub decreases-loop-left : goal.decreases-loop-left
decreases-loop-left l = l.left
