-- `looking::read_part` meets its contract. Assumes nothing.
use mathlib.Core.Logic.{inl, inr}
use mathlib.Core.Path.{ap, sym, ◌∙◌}
use Prim.Native.Nat.{◌%◌}
use native.Mathlib.Omega.{arith}
use Rattle.tables.specs.Meaning.{entry_meant}
use Rattle.looking.proofs.Parts.{part_of}
use Rattle.looking.proofs.read_part.Goals as goal

pub read_page-requires : goal.read_page-requires
unfolding entry_meant
read_page-requires c = (c.requires.0 _ (sym c.in-Stored.ensures), omega arith, omega arith)

pub returns-in-Unmapped : goal.returns-in-Unmapped
unfolding entry_meant
returns-in-Unmapped c =
    let a = c.args in
    elim c.in-Unmapped.is [
      | inl e ↦ c.zero_bytes.ensures ∙ part_of a.p.now (a.from % 512) a.n a.buffer.now a.at _ _ (sym (ap entry_meant e) ∙ c.entry.ensures)
      | inr e ↦ c.zero_bytes.ensures ∙ part_of a.p.now (a.from % 512) a.n a.buffer.now a.at _ _ (sym (ap entry_meant e) ∙ c.entry.ensures)
    ]

pub returns-in-Stored : goal.returns-in-Stored
unfolding entry_meant
returns-in-Stored c =
    let a = c.args in
    c.read_page.ensures ∙ part_of a.p.now (a.from % 512) a.n a.buffer.now a.at _ _ c.in-Stored.ensures
