-- `setcheck::records::records_alone` meets its contract. Assumes nothing.
use native.Mathlib.Omega.{arith}
use Rattle.setcheck.proofs.Zeros.{zeros_start, zeros_field, zeros_unused, zeros_next, zeros_all}
use Rattle.setcheck.proofs.records.records_alone.Goals as goal

pub loop-s-init : goal.loop-s-init
loop-s-init c = zeros_start _

pub returns-then-not-set_zero : goal.returns-then-not-set_zero
returns-then-not-set_zero c = zeros_field _ _ (omega arith) c.if-not-set_zero.ensures

pub returns-then-not-record_formed : goal.returns-then-not-record_formed
returns-then-not-record_formed c = zeros_unused _ _ (omega arith) c.if-not-record_formed.ensures

pub loop-s-preserved : goal.loop-s-preserved
loop-s-preserved c = zeros_next _ _ c.loop-s.invariant c.if-not-set_zero.ensures c.if-not-record_formed.ensures

pub returns : goal.returns
returns c = zeros_all _ _ c.loop-s.invariant (omega arith)
