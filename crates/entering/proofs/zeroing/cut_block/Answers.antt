-- `entering::zeroing::cut_block` meets its contract. Assumes nothing.
use mathlib.Core.Path.{◌∙◌}
use native.Mathlib.Omega.{arith}
use borrow.Author.Rules.{rules}
use Rattle.rules.specs.State.{tree_of}
use Rattle.rules.specs.Storage.{zero_from}
use Rattle.tables.specs.Meaning.{entry_meant}
use Rattle.tables.specs.Packed.{unpack}
use Rattle.tables.specs.Calls.{pages_of}
use Rattle.entering.specs.Pending.{bytes_of}
use Rattle.entering.proofs.Pending.{enters, laid}
use Rattle.entering.proofs.zeroing.cut_block.Goals as goal

pub prepare-requires : goal.prepare-requires
prepare-requires c =
    (omega (arith, c.requires.0.size, c.requires.3), λ x h. omega (arith, c.requires.0.size, c.requires.4 x h))

pub put_entry-requires : goal.put_entry-requires
unfolding entry_meant
put_entry-requires c = search rules

pub returns : goal.returns
unfolding entry_meant
returns c =
    let a = c.args in
    enters a.s a.page.0 a.b.0 (entry_meant a.e) (zero_from a.n) c.put_entry.ensures
    (laid (pages_of a.p.now) _ _ a.b.0 (bytes_of (pages_of a.p.now) (entry_meant a.e)) (zero_from a.n) c.prepare.ensures c.zero_tail.ensures)
    (c.zero_tail.auto.pages ∙ c.prepare.auto.p) c.requires.0 c.requires.3 (tree_of (unpack a.t.now).sets)
