-- `changing::dropping::resize` meets its contract. Assumes nothing.
use Rattle.rules.specs.State.{tree_of}
use Rattle.tables.specs.Meaning.{state_meant}
use Rattle.tables.specs.Packed.{unpack}
use Rattle.changing.proofs.OnTables.{resized}
use Rattle.changing.proofs.dropping.resize.Goals as goal

pub returns : goal.returns
unfolding state_meant
returns c =
    let a = c.args in
    resized a.f a.s a.n c.put_head.ensures (tree_of (unpack a.t.now).sets)
