-- `entrycheck::seeing::see_entries` meets its contract. Assumes nothing.
use Rattle.entrycheck.proofs.MapEntries.{reads_block, reads_page, reads_rows, reads_three, reads_whole}
use Rattle.entrycheck.proofs.seeing.see_entries.Goals as goal

pub returns-then-k-ne0 : goal.returns-then-k-ne0
returns-then-k-ne0 c =
    let m = c.kind_masks-k in
    reads_three _ _ (λ i. (c.type_inv.t i).fits) _ _ c.told-seen _ _ m.ensures.0 m.ensures.1 c.if-k-ne0.true

pub returns-then-not-blocks_plain : goal.returns-then-not-blocks_plain
returns-then-not-blocks_plain c =
    let m = c.kind_masks-k in
    reads_block _ _ (λ i. (c.type_inv.t i).fits) _ _ c.told-seen _ _ m.ensures.0 m.ensures.1 c.if-k-ne0.false c.requires.1
    c.if-not-blocks_plain.ensures

pub returns-in_err-left : goal.returns-in_err-left
returns-in_err-left c =
    let m = c.kind_masks-k in
    rw c.from_residual.ensures
    (reads_rows _ _ (λ i. (c.type_inv.t i).fits) _ _ c.told-seen _ _ m.ensures.0 m.ensures.1 c.if-k-ne0.false c.if-not-blocks_plain.ensures _ c.in_err-left.ensures)

pub returns-then-not-see_pages : goal.returns-then-not-see_pages
returns-then-not-see_pages c =
    let m = c.kind_masks-k in
    reads_page _ _ (λ i. (c.type_inv.t i).fits) _ _ c.told-seen _ _ m.ensures.0 m.ensures.1 c.if-k-ne0.false c.if-not-blocks_plain.ensures
    _ _ c.in_ok-left.ensures _ c.if-not-see_pages.ensures

pub returns : goal.returns
returns c =
    let m = c.kind_masks-k in
    reads_whole _ _ (λ i. (c.type_inv.t i).fits) _ _ c.told-seen _ _ m.ensures.0 m.ensures.1 c.if-k-ne0.false c.if-not-blocks_plain.ensures
    _ _ c.in_ok-left.ensures _ c.if-not-see_pages.ensures
