-- `tables::entries::put_entry` meets its contract. Assumes nothing.
use mathlib.Core.Path.{◌∙◌}
use Rattle.tables.proofs.Written.{entry_written}
use Rattle.tables.proofs.entries.put_entry.Goals as goal

pub returns : goal.returns
returns c =
    entry_written _ _ _ _ _ _ _ c.requires (c.from.ensures ∙ c.encode-w.ensures) c.write.ensures
