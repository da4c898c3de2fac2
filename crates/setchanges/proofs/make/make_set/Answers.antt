-- `setchanges::make::make_set` meets its contract. Assumes nothing.
use Rattle.setchanges.proofs.ChildFiles.{appended_files, make_turns}
use Rattle.setchanges.proofs.make.make_set.Goals as goal

pub child_files-requires : goal.child_files-requires
child_files-requires c =
    (c.append_set.ensures.packed, c.requires.1, c.requires.2, appended_files c.args.s c.args.c c.args.writeable c.append_set.ensures c.requires.5)

pub returns : goal.returns
returns c =
    make_turns _ _ _ c.append_set.ensures c.child_files.ensures
