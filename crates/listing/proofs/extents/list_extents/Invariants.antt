-- `listing::extents::list_extents`: the extents of the pages passed are written. Assumes nothing.
use Prim.Native.Nat.{◌*◌, ◌+◌, ◌≤◌}
use lib.Dec.{eqb}
use Rattle.tables.specs.Packed.{unpack}
use Rattle.listing.specs.Listing.{extents}
use Rattle.listing.specs.Written.{Put}
use Rattle.listing.proofs.extents.list_extents.Given as goal

abbrev pub invariant-loop-p : goal.invariant-loop-p
invariant-loop-p l = (l.w.at ≤ l.initial.w.at + 16 * l.p) × Put l.initial.w l.w (extents (eqb l.s 0) ((unpack l.t).files l.f l.s).map l.p)
