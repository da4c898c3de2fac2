-- `changing::deleting::delete_live` meets its contract. Assumes nothing.
use native.Mathlib.Omega.{arith}
use Rattle.copying.proofs.Steps.{step_used}
use Rattle.changing.proofs.Whole.{deleted, ready_in, told}
use Rattle.changing.proofs.deleting.delete_live.Goals as goal

pub give_all-a-requires : goal.give_all-a-requires
give_all-a-requires c =
    let y = c.settle_children.ensures.1 c.args.p.now c.args.k c.requires.0 in
    (y.ready, c.requires.1, omega arith, step_used c.args.s y c.requires.2)

pub erase_file-requires : goal.erase_file-requires
erase_file-requires c =
    (c.give_all-a.ensures.ready.packed, ready_in c.give_all-a.ensures.ready, c.give_all-a.ensures.ready.file, c.requires.1)

pub returns : goal.returns
returns c =
    let a = c.args in
    told c.give_all-a.result c.from.ensures (deleted a.s c.requires.0 c.settle_children.ensures.1 c.give_all-a.ensures c.erase_file.ensures)
