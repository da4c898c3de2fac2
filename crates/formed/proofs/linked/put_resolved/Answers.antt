-- `formed::linked::put_resolved` meets its contract. Assumes nothing.
use mathlib.Core.Path.{refl, ◌∙◌}
use borrow.Author.Tests.{le-leb}
use Rattle.formed.proofs.LinkedRules.{ends_all, ends_shift}
use Rattle.formed.proofs.linked.put_resolved.Goals as goal

pub returns-then-k-ge64 : goal.returns-then-k-ge64
returns-then-k-ge64 c = (le-leb _ _ c.if-k-ge64.true ∙ ends_all _ _ c.if-k-ge64.true, refl)

pub returns-else-k-ge64 : goal.returns-else-k-ge64
returns-else-k-ge64 c = (ends_shift _ _ c.if-k-ge64.false, refl)
