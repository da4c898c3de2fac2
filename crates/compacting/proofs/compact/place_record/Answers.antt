-- `compacting::compact::place_record` meets its contract. Assumes nothing.
use mathlib.Core.Path.{sym, ◌∙◌}
use Prim.Native.Nat.{◌*◌}
use native.Mathlib.Omega.{arith}
use Rattle.compacting.proofs.Tracking.{record_blank, tracked_later}
use Rattle.compacting.proofs.Turning.{gather_blank}
use Rattle.compacting.proofs.compact.place_record.Goals as goal

pub returns-then-not-may_hold : goal.returns-then-not-may_hold
returns-then-not-may_hold c =
    let m = c.may_hold in
    let b = record_blank _ c.args.r c.requires.0.held (sym m.ensures ∙ c.if-not-may_hold.true) in
    (gather_blank _ _ c.requires.0 (c.args.r * 64) _ c.requires.1 64 b, tracked_later _ _ _ _ c.requires.4 _ (omega arith))
