-- `cutting::cut_away` meets its contract. Assumes nothing.
use Rattle.cutting.proofs.Cutting.{cut_away}
use Rattle.changing.proofs.Whole.{both_ready, both_used, ready_in, settled_used, told}
use Rattle.cutting.proofs.cut_away.Goals as goal

pub settle_children-requires : goal.settle_children-requires
settle_children-requires c =
    (c.settle_set.ensures.packed, c.requires.0.file, c.requires.1, settled_used c.args.f c.args.s c.settle_set.ensures c.requires.2)

pub give_all-b-requires : goal.give_all-b-requires
give_all-b-requires c =
    let a = c.args in (
      both_ready a.s c.requires.0 c.settle_set.ensures c.settle_children.ensures.1,
      c.requires.1,
      c.requires.3,
      both_used a.s c.requires.0 c.settle_set.ensures c.settle_children.ensures.1 c.requires.2,
    )

pub drop_pages-requires : goal.drop_pages-requires
drop_pages-requires c =
    let re = c.give_all-b.ensures.ready in
    (re.packed, ready_in re, re.file, c.requires.1, c.requires.3)

pub returns : goal.returns
returns c =
    let a = c.args in
    told c.give_all-b.result c.from.ensures (cut_away a.s a.first a.m a.d a.n c.requires.0 c.settle_set.ensures c.settle_children.ensures.1 c.give_all-b.ensures c.drop_pages.ensures c.resize.ensures)
