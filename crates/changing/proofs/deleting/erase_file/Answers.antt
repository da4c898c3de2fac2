-- `changing::deleting::erase_file` meets its contract. Assumes nothing.
use Rattle.rules.specs.State.{tree_of}
use Rattle.tables.specs.Packed.{unpack}
use Rattle.changing.proofs.Whole.{erased}
use Rattle.changing.proofs.deleting.erase_file.Goals as goal

pub returns : goal.returns
returns c =
    let a = c.args in
    erased a.f a.s c.free_map.ensures c.erase_record.ensures (tree_of (unpack a.t.now).sets)
