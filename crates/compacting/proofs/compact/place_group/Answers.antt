-- `compacting::compact::place_group` meets its contract. Assumes nothing.
use mathlib.Core.Path.{sym, ◌∙◌}
use Prim.Native.Nat.{◌*◌, ◌+◌, ℕ}
use native.Mathlib.Omega.{arith}
use borrow.Author.Rules.{rules}
use Rattle.compacting.proofs.Four.{four_blank}
use Rattle.compacting.proofs.Tracking.{tracked_later}
use Rattle.compacting.proofs.Turning.{gather_blank}
use Rattle.compacting.proofs.compact.place_group.Goals as goal

pub returns-then-four_stored-eq0 : goal.returns-then-four_stored-eq0
returns-then-four_stored-eq0 c =
    let m = c.four_stored in
    let b = four_blank _ (λ (j : ℕ). search rules) c.args.r c.args.g c.requires.2 c.requires.3 (sym m.ensures ∙ c.if-four_stored-eq0.true) in
    (gather_blank _ _ c.requires.0 (c.args.r * 64 + c.args.g * 4) _ c.requires.1 4 b, tracked_later _ _ _ _ c.requires.5 _ (omega arith))
