-- `packing::bitmap::first_free` meets its contract. Assumes nothing.
use Rattle.std.proofs.Common.{rules, sym, ◌∙◌}
use Rattle.packing.proofs.bitmap.Turns.{at_once, searched}
use Rattle.packing.proofs.bitmap.first_free.Goals as goal

pub returns-then-not-bit_at : goal.returns-then-not-bit_at
returns-then-not-bit_at c = at_once _ _ _ c.requires.0 (sym c.bit_at.ensures ∙ c.if-not-bit_at.true)

pub returns : goal.returns
returns c = searched _ _ _ c.requires.0 c.find_in.result c.or_else.result c.find_in.ensures (search rules)
