-- `entrycheck::records::pass_record` meets its contract. Assumes nothing.
use mathlib.Core.Path.{refl}
use Rattle.entrycheck.proofs.RecordsPassed.{record_blank, record_entries}
use Rattle.entrycheck.proofs.records.pass_record.Goals as goal

pub returns-then-is_blank : goal.returns-then-is_blank
returns-then-is_blank c =
    let p = c.requires in
    record_blank _ _ _ _ c.told-seen (c.if-is_blank.ensures refl) _ _ p.1 p.2

pub returns : goal.returns
returns c = record_entries _ _ _ _ _ _ _ _ c.in-Some.ensures
