-- `entrycheck::records::entries_formed` meets its contract. The loop's invariant: the records before record i have passed. Assumes nothing.
use Rattle.entrycheck.proofs.RecordsPassed.{RecordsPassed}
use Rattle.entrycheck.proofs.records.entries_formed.Given as goal

abbrev pub invariant-loop-i : goal.invariant-loop-i
invariant-loop-i l = RecordsPassed l.limit l.files l.seen l.masks.stored l.masks.unmapped l.i
