-- `entering::prepare` meets its contract. Assumes nothing.
use mathlib.Core.Path.{ap, sym, ◌∙◌}
use Rattle.base.specs.Update.{upd}
use Rattle.tables.specs.Meaning.{entry_meant}
use Rattle.tables.specs.Calls.{pages_of}
use Rattle.tables.specs.declared.entries.Entry.{Entry}
use Rattle.entering.specs.Pending.{bytes_of}
use Rattle.entering.proofs.Named.{either_zero}
use Rattle.entering.proofs.prepare.Goals as goal

pub copy_page-requires : goal.copy_page-requires
unfolding entry_meant
copy_page-requires c =
    (c.requires.1 _ (ap entry_meant c.in-Stored.is), c.requires.0)

pub returns-in-Unmapped : goal.returns-in-Unmapped
returns-in-Unmapped c =
    let a = c.args in
    c.zero_page.ensures ∙ sym (ap (upd (pages_of a.p.now) a.b.0) (either_zero (pages_of a.p.now) a.e c.in-Unmapped.is))

pub returns-in-Stored : goal.returns-in-Stored
unfolding entry_meant bytes_of
returns-in-Stored c =
    let a = c.args in
    c.copy_page.ensures ∙ sym (ap (λ (x : Entry). upd (pages_of a.p.now) a.b.0 (bytes_of (pages_of a.p.now) (entry_meant x))) c.in-Stored.is)
