-- `copying::marking::mark_sets` meets its contract. The loop's invariant: for each test g whose answers are the digits of `mask`, those from set s on are the digits of m, and the sets before s are marked where g says so. Assumes nothing.
use mathlib.Core.Bool.{Bool}
use mathlib.Core.Path.{◌≡◌}
use Prim.Native.Nat.{ℕ, ◌-◌, ◌≤◌}
use Rattle.tables.specs.Packed.{unpack}
use Rattle.tables.specs.Views.{PackedTables}
use Rattle.maps.specs.Mask.{packs}
use Rattle.setchanges.specs.Changes.{BlocksIn}
use Rattle.copying.specs.Changes.{MarkedBy}
use Rattle.copying.proofs.marking.mark_sets.Given as goal

abbrev pub invariant-loop-s : goal.invariant-loop-s
invariant-loop-s l = record {
  few : l.n ≤ l.s;
  packed : PackedTables l.t;
  blocks_in : (x : ℕ) → BlocksIn l.f x (unpack l.t);
  by : (g : ℕ → Bool) → l.mask ≡ packs g 0 8 → (l.m ≡ packs g l.s (8 - l.s)) × MarkedBy l.initial.t l.t l.f g l.s l.n;
}
