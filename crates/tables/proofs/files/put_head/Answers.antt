-- `tables::files::put_head` meets its contract. Assumes nothing.
use Rattle.tables.proofs.Written.{head_written}
use Rattle.tables.proofs.files.put_head.Goals as goal

pub returns : goal.returns
returns c =
    head_written _ _ _ _ _ _ _ c.requires c.from-k.ensures.0 c.write.ensures
