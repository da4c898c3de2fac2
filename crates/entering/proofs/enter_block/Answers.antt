-- `entering::enter_block` meets its contract. Assumes nothing.
use mathlib.Core.Path.{◌∙◌}
use native.Mathlib.Omega.{arith}
use Rattle.rules.specs.Reading.{resolve}
use Rattle.rules.specs.State.{tree_of}
use Rattle.rules.specs.Storage.{overlay}
use Rattle.tables.specs.Meaning.{entry_meant}
use Rattle.tables.specs.Packed.{unpack}
use Rattle.tables.specs.Calls.{pages_of}
use Rattle.entering.proofs.Pending.{carried_laid, enters}
use Rattle.entering.proofs.enter_block.Goals as goal

pub put_entry-requires : goal.put_entry-requires
unfolding entry_meant
put_entry-requires c =
    let re = c.requires.0 in
    (re.packed, re.file, c.requires.1, c.requires.2, omega (arith, c.requires.3, re.sound.header.most))

pub returns : goal.returns
unfolding entry_meant
returns c =
    let a = c.args in
    let tree = tree_of (unpack a.t.now).sets in
    let e = resolve tree ((unpack a.t.now).files a.f) a.s a.page.0 in
    enters a.s a.page.0 a.b.0 e (overlay a.off a.«data».now a.page.0) c.put_entry.ensures
    (carried_laid (pages_of a.p.now) _ _ a.b.0 a.page.0 a.off a.«data».now e c.carry.ensures c.lay_bytes.ensures)
    (c.lay_bytes.auto.pages ∙ c.carry.auto.p) c.requires.0 c.requires.3 tree
