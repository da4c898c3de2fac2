-- `maps::marking::reach_mask` meets its contract. The loop's invariant: m has the answers for the sets from s on as its digits.
use mathlib.Core.Path.{◌≡◌}
use Prim.Native.Nat.{◌<◌, ◌-◌}
use Rattle.rules.specs.Reading.{reaches}
use Rattle.rules.specs.State.{tree_of}
use Rattle.tables.specs.Packed.{unpack}
use Rattle.maps.specs.Mask.{packs}
use Rattle.maps.proofs.marking.reach_mask.Given as goal

abbrev pub invariant-loop-s : goal.invariant-loop-s
invariant-loop-s l = (l.m ≡ packs (reaches (tree_of (unpack l.t).sets) ((unpack l.t).files l.f) l.c) l.s (8 - l.s)) × (l.m < 256)
