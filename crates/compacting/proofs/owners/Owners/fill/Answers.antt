-- `compacting::owners::Owners::fill` meets its contract. The loop's invariant: the entries of the records before record r are noted. Assumes nothing.
use mathlib.Core.List.{List}
use mathlib.Core.Path.{refl}
use Prim.Native.Nat.{ℕ, ◌*◌}
use native.Mathlib.Omega.{arith}
use Rattle.compacting.specs.Owners.{noted_from}
use Rattle.compacting.proofs.Becoming.{become_as, become_next, become_none}
use Rattle.compacting.proofs.Tracking.{fill_done, fill_next, fill_none}
use Rattle.compacting.proofs.owners.Owners.fill.Goals as goal

pub loop-r-init : goal.loop-r-init
loop-r-init c = let a = c.args in become_none _ _ (fill_none a.t.now a.self.now.first a.self.now.places a.from)

pub note_record-requires : goal.note_record-requires
note_record-requires c =
    let l = c.loop-r in
    (c.requires.0, c.requires.1, omega arith, omega (arith, l.invariant.first, c.requires.3))

pub loop-r-preserved : goal.loop-r-preserved
loop-r-preserved c =
    let a = c.args in
    let l = c.loop-r in
    let f : List ℕ → ℕ → List ℕ = λ x w. noted_from a.t.now x w (l.r * 64) 64 in
    become_next _ _ _ _ _ f l.invariant c.note_record.ensures (fill_next a.t.now a.self.now.first a.self.now.places _ _ a.from l.r (omega arith) refl refl)

pub returns : goal.returns
returns c =
    let a = c.args in
    let l = c.loop-r in
    become_as _ _ _ _ l.invariant (fill_done a.t.now a.self.now.first a.self.now.places _ a.from l.r (omega arith) refl)
