-- `copying::giving::give_block` meets its contract. Assumes nothing.
use Rattle.copying.proofs.Given.{supply_copy, supply_leave, supply_mark}
use Rattle.copying.proofs.Marks.{all_blocks, marked_countable, marked_step}
use Rattle.copying.proofs.giving.give_block.Goals as goal

pub returns-then-not-must : goal.returns-then-not-must
returns-then-not-must c =
    let a = c.args in
    supply_leave a.c a.page.0 a.b.0 c.requires.0 a.must c.if-not-must.true c.if-k-eq0.true

pub mark_down-n-requires : goal.mark_down-n-requires
mark_down-n-requires c =
    let p = c.requires in
    (p.0.packed, p.0.file, p.1, all_blocks p.0)

pub free_blocks-requires : goal.free_blocks-requires
free_blocks-requires c =
    marked_countable c.args.c c.requires.0 c.mark_down-n.ensures.0

pub returns-then-k-eq0 : goal.returns-then-k-eq0
returns-then-k-eq0 c =
    let a = c.args in
    supply_mark a.c a.page.0 a.b.0 c.requires.0 a.must c.if-not-must.false c.if-k-eq0.true
    (marked_step a.c c.requires.0 c.mark_down-n.ensures.0 c.mark_down-n.result c.free_blocks.result c.requires.1 c.requires.4 c.mark_down-n.ensures.1 c.free_blocks.ensures)

pub returns : goal.returns
returns c =
    let a = c.args in
    supply_copy a.c a.page.0 a.b.0 c.requires.0 a.must c.if-k-eq0.false c.copy_to.ensures
