-- `setcheck::records::records_alone` meets its contract. Assumes nothing.
use Rattle.setcheck.proofs.Zeros.{ZerosTo}
use Rattle.setcheck.proofs.records.records_alone.Given as goal

abbrev pub invariant-loop-s : goal.invariant-loop-s
invariant-loop-s l = ZerosTo l.t l.s
