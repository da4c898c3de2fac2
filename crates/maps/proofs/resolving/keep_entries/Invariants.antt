-- `maps::resolving::keep_entries` meets its contract. The loop's invariant: the entries of the pages that are no longer left are kept. Assumes nothing.
use Prim.Native.Nat.{◌<◌, ◌^◌}
use Rattle.tables.specs.Packed.{unpack}
use Rattle.maps.proofs.ManyPages.{KeptSoFar}
use Rattle.maps.proofs.resolving.keep_entries.Given as goal

abbrev pub invariant-loop-left : goal.invariant-loop-left
invariant-loop-left l = (l.left < 2 ^ 64) × KeptSoFar l.m ((unpack l.t).files l.f l.s).map l.initial.l l.l l.left

abbrev pub decreases-loop-left : goal.decreases-loop-left
decreases-loop-left l = l.left
