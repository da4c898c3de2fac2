-- `tables::sets::put_term` meets its contract. Assumes nothing.
use Rattle.tables.proofs.Written.{term_written}
use Rattle.tables.proofs.sets.put_term.Goals as goal

pub returns : goal.returns
returns c =
    let h = c.requires in
    term_written _ _ _ _ _ (h.0, h.1, (h.2, h.3)) c.term_word-w.ensures.0 c.write.ensures
