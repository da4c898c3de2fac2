-- `tables::sets::put_set` meets its contract. Assumes nothing.
use Rattle.tables.proofs.Written.{set_written}
use Rattle.tables.proofs.sets.put_set.Goals as goal

pub returns : goal.returns
returns c =
    set_written _ _ _ _ _ _ _ c.requires c.word_of-w.ensures.0 c.term_word-term.ensures.0 c.write.ensures c.write-2.ensures
