-- `entrycheck::seeing::see_row` meets its contract. Assumes nothing.
use mathlib.Core.Path.{refl}
use Rattle.entrycheck.proofs.RowSteps.{room_of, row_no, row_none, row_yes}
use Rattle.entrycheck.proofs.seeing.see_row.Goals as goal

pub returns-then-not-in_row : goal.returns-then-not-in_row
returns-then-not-in_row c = row_none _ _ _ _ c.args.seen.now _ _ c.told-seen

pub see_four-requires : goal.see_four-requires
see_four-requires c =
    let b = c.block_of in
    (b.ensures.1, room_of _ _ b.result (c.if-not-in_row.ensures refl) b.ensures.0)

pub returns-then-not-see_four : goal.returns-then-not-see_four
returns-then-not-see_four c =
    row_no _ _ _ _ _ _ _ c.requires.1 c.requires.2 (c.if-not-in_row.ensures refl) _ c.block_of.ensures.0 c.if-not-see_four.ensures

pub returns : goal.returns
returns c =
    row_yes _ _ _ _ _ _ _ c.requires.1 c.requires.2 (c.if-not-in_row.ensures refl) _ c.block_of.ensures.0 c.if-not-see_four.ensures
