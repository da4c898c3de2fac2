-- `entrycheck::records::entries_formed` meets its contract. Assumes nothing.
use native.Mathlib.Omega.{arith}
use Rattle.entrycheck.proofs.NoBits.{length_no_bits, no_bits, no_bits_seen}
use Rattle.entrycheck.proofs.RecordsPassed.{bits_refused, records_done, records_next, records_refused, records_start}
use Rattle.entrycheck.proofs.records.entries_formed.Goals as goal

pub loop-i-init : goal.loop-i-init
unfolding no_bits
loop-i-init c = records_start _ _ no_bits _ _ length_no_bits no_bits_seen c.requires.2 c.requires.3

pub pass_record-requires : goal.pass_record-requires
pass_record-requires c =
    let p = c.requires in
    let k = c.loop-i.invariant in
    (p.1, k.stored_to.rest _ (omega arith) (omega (arith, p.4.most)), k.unmapped_to.rest _ (omega arith) (omega (arith, p.4.most)), omega (arith, p.4.most), omega (arith, c.block_count-limit.ensures.0, p.5))

pub returns-then-not-pass_record : goal.returns-then-not-pass_record
returns-then-not-pass_record c =
    let p = c.requires in
    records_refused _ _ p.0 _ c.block_count-limit.ensures.0 p.5 _ _ _ _ c.loop-i.invariant (omega (arith, p.4.most)) _ _ _ c.if-not-pass_record.ensures _ _ _
    c.not_passed.ensures

pub loop-i-preserved : goal.loop-i-preserved
loop-i-preserved c = records_next _ _ _ _ _ _ c.loop-i.invariant (omega (arith, c.requires.4.most)) _ _ _ c.if-not-pass_record.ensures

pub returns-then-not-maps_equal : goal.returns-then-not-maps_equal
returns-then-not-maps_equal c =
    let p = c.requires in
    bits_refused _ _ p.0 _ c.block_count-limit.ensures.0 p.5 _ _ _ _ c.loop-i.invariant _ p.4 (omega arith) c.if-not-maps_equal.ensures _ _ _ c.not_passed-then-not-maps_equal.ensures

pub returns : goal.returns
returns c =
    let p = c.requires in
    records_done _ _ p.0 _ c.block_count-limit.ensures.0 p.5 _ _ _ _ c.loop-i.invariant _ p.4 (omega arith) c.if-not-maps_equal.ensures
