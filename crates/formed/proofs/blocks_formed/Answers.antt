-- `formed::blocks_formed` meets its contract. Assumes nothing.
use mathlib.Core.Path.{ap, ◌∙◌}
use borrow.Author.Rules.{rules}
use Rattle.entrycheck.proofs.Lists.{all_are, filled}
use Rattle.formed.proofs.Whole.{blocks_wrong}
use Rattle.tables.proofs.Parts.{two_parts}
use Rattle.tables.specs.Packed.{block_rules}
use Rattle.formed.proofs.blocks_formed.Goals as goal

pub returns-then-t-ne-TABLE_BYTES : goal.returns-then-t-ne-TABLE_BYTES
returns-then-t-ne-TABLE_BYTES c = blocks_wrong _ c.if-t-ne-TABLE_BYTES.true

pub first_part-requires : goal.first_part-requires
unfolding filled
first_part-requires c = (search rules, search rules, all_are 128 _, all_are 128 _)

pub returns : goal.returns
returns c = c.is_some.ensures ∙ c.first_part.ensures.decided ∙ ap block_rules (two_parts c.args.t.now)
