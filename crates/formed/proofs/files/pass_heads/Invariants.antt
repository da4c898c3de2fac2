-- `formed::files::pass_heads` meets its contract. The loop's invariant: the heads of the sets before set s have passed. Assumes nothing.
use mathlib.Core.List.{◌++◌}
use Rattle.formed.proofs.HeadRules.{HeadsTo}
use Rattle.formed.proofs.files.pass_heads.Given as goal

abbrev pub invariant-loop-s : goal.invariant-loop-s
invariant-loop-s l = HeadsTo l.older (l.front ++ l.files) l.f l.ends l.lives l.s
