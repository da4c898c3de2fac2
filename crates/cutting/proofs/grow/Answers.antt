-- `cutting::grow` meets its contract. Assumes nothing.
use Rattle.cutting.proofs.Cutting.{grown}
use Rattle.changing.proofs.Whole.{settled_used}
use Rattle.cutting.proofs.grow.Goals as goal

pub settle_children-requires : goal.settle_children-requires
settle_children-requires c =
    (c.settle_set.ensures.packed, c.requires.1, c.requires.2, settled_used c.args.f c.args.s c.settle_set.ensures c.requires.3)

pub returns : goal.returns
returns c =
    let a = c.args in
    grown a.s a.n c.settle_set.ensures c.settle_children.ensures.1 c.resize.ensures
