-- `formed::first_part` meets its contract. Assumes nothing.
use Rattle.formed.proofs.Whole.{blocks_most, first_entries, first_header, first_refused}
use Rattle.formed.proofs.first_part.Goals as goal

pub returns-then-not-header_formed : goal.returns-then-not-header_formed
returns-then-not-header_formed c =
    let p = c.requires in
    first_header _ _ _ _ p.0 p.1 c.if-not-header_formed.ensures

pub entries_formed-requires : goal.entries_formed-requires
entries_formed-requires c =
    let p = c.requires in
    (p.0, p.1, p.2, p.3, c.blank_from-n.ensures.0, blocks_most c.args.front.now c.if-not-header_formed.ensures)

pub returns-then-not-entries_formed : goal.returns-then-not-entries_formed
returns-then-not-entries_formed c =
    let p = c.requires in
    first_refused _ _ _ _ p.0 p.1 c.if-not-header_formed.ensures c.if-not-entries_formed.ensures

pub returns : goal.returns
returns c =
    let p = c.requires in
    first_entries _ _ _ _ p.0 p.1 c.if-not-header_formed.ensures _ c.blank_from-n.ensures c.if-not-entries_formed.ensures
