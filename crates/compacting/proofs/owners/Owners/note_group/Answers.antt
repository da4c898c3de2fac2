-- `compacting::owners::Owners::note_group` meets its contract. Assumes nothing.
use mathlib.Core.Path.{sym, ◌∙◌}
use Prim.Native.Nat.{◌*◌, ◌+◌, ℕ}
use Rattle.compacting.proofs.Becoming.{become_none}
use Rattle.compacting.proofs.Four.{four_blank}
use Rattle.compacting.proofs.Tracking.{noted_blank}
use Rattle.compacting.proofs.owners.Owners.note_group.Goals as goal

pub returns-then-four_stored-eq0 : goal.returns-then-four_stored-eq0
returns-then-four_stored-eq0 c =
    let m = c.four_stored in
    become_none _ _ (sym (noted_blank c.args.t.now c.args.self.now.first c.args.self.now.places (c.args.r * 64 + c.args.g * 4) 4
    (four_blank _ (λ (j : ℕ). (c.type_inv.t j).fits) c.args.r c.args.g c.requires.1 c.requires.2 (sym m.ensures ∙ c.if-four_stored-eq0.true))))
