-- `compacting::owners::Owners::note_record` meets its contract. Assumes nothing.
use mathlib.Core.Path.{sym, ◌∙◌}
use Prim.Native.Nat.{◌*◌}
use Rattle.compacting.proofs.Becoming.{become_none}
use Rattle.compacting.proofs.Tracking.{noted_blank, record_blank}
use Rattle.compacting.proofs.owners.Owners.note_record.Goals as goal

pub returns-then-not-may_hold : goal.returns-then-not-may_hold
returns-then-not-may_hold c =
    let m = c.may_hold in
    become_none _ _ (sym (noted_blank c.args.t.now c.args.self.now.first c.args.self.now.places (c.args.r * 64) 64 (record_blank _ c.args.r c.requires.1 (sym m.ensures ∙ c.if-not-may_hold.true))))
