-- `compacting::compact::reduced` meets its contract. Assumes nothing.
use mathlib.Core.Path.{ap, sym, ◌∙◌}
use Prim.Native.Nat.{◌%◌}
use native.Mathlib.Nat.{mod-eq_of_lt, mod_self}
use native.Mathlib.Omega.{arith}
use Rattle.compacting.proofs.compact.reduced.Goals as goal

pub returns-then-k-limit : goal.returns-then-k-limit
returns-then-k-limit c = let l = c.args.limit in (sym (ap (λ x. x % l) c.if-k-limit.true ∙ mod_self l), omega arith)

pub returns : goal.returns
returns c = (sym (mod-eq_of_lt (omega arith)), omega arith)
