-- `setchanges::remove::free_entry` meets its contract. Assumes nothing.
use mathlib.Core.Logic.{inl, inr}
use mathlib.Core.Path.{ap}
use Rattle.tables.specs.Meaning.{entry_meant}
use Rattle.setchanges.proofs.Freeing.{free_unmapped, free_hole, free_stored, free_below}
use Rattle.setchanges.proofs.remove.free_entry.Goals as goal

pub release_block-requires : goal.release_block-requires
unfolding entry_meant
release_block-requires c =
    (c.requires.0, free_below _ _ (ap entry_meant c.in-Stored.is) c.requires.1)

pub returns-in-Unmapped : goal.returns-in-Unmapped
unfolding entry_meant
returns-in-Unmapped c =
    elim c.in-Unmapped.is [
      | inl e ↦ free_unmapped _ _ (ap entry_meant e) c.requires.0
      | inr e ↦ free_hole _ _ (ap entry_meant e) c.requires.0
    ]

pub returns-in-Stored : goal.returns-in-Stored
unfolding entry_meant
returns-in-Stored c =
    free_stored _ _ _ _ (ap entry_meant c.in-Stored.is) c.release_block.ensures
