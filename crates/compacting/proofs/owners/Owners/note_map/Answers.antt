-- `compacting::owners::Owners::note_map` meets its contract. The loop's invariant: the entries before group g are noted. Assumes nothing.
use mathlib.Core.List.{List}
use mathlib.Core.Path.{◌≡◌, ap, refl, sym}
use Prim.Native.Nat.{ℕ, ◌*◌, ◌+◌}
use native.Mathlib.Omega.{arith}
use Rattle.compacting.specs.Owners.{noted_none, noted_from}
use Rattle.compacting.proofs.Becoming.{become_as, become_next, become_none}
use Rattle.compacting.proofs.Tracking.{four_next}
use Rattle.compacting.proofs.owners.Owners.note_map.Goals as goal

pub loop-g-init : goal.loop-g-init
loop-g-init c = let a = c.args in become_none _ _ (sym (noted_none a.t.now a.self.now.places a.self.now.first (a.r * 64)))

pub note_group-requires : goal.note_group-requires
note_group-requires c =
    let l = c.loop-g in
    (c.requires.0, c.requires.1, omega arith, omega (arith, l.invariant.first, c.requires.2))

pub loop-g-preserved : goal.loop-g-preserved
loop-g-preserved c =
    let a = c.args in
    let l = c.loop-g in
    let f : List ℕ → ℕ → List ℕ = λ x w. noted_from a.t.now x w (a.r * 64 + l.g * 4) 4 in
    become_next _ _ _ _ _ f l.invariant c.note_group.ensures (four_next a.t.now a.self.now.first a.self.now.places _ _ (a.r * 64) l.g refl refl)

pub returns : goal.returns
returns c =
    let a = c.args in
    let l = c.loop-g in
    let e : l.g * 4 ≡ 64 = omega arith in
    become_as _ _ _ _ l.invariant (ap (noted_from a.t.now a.self.now.places a.self.now.first (a.r * 64)) e)
