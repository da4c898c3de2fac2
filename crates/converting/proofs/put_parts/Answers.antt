-- `converting::put_parts` meets its contract. Assumes nothing.
use Rattle.converting.proofs.Fronts.{parts_written}
use Rattle.converting.proofs.put_parts.Goals as goal

pub returns : goal.returns
returns c =
    let p = c.requires in
    parts_written c.args.front.now c.args.files.now p.1 p.2 c.args.tables.now _ _ p.0 c.copy_bytes.ensures c.copy_bytes-2.ensures
