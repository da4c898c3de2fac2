-- `setchanges::make::last_of` meets its contract. The loop's invariant: the last of what is left is the last of the chain. Assumes nothing.
use mathlib.Core.Path.{◌≡◌}
use Prim.Native.Nat.{◌-◌, ◌<◌}
use Rattle.tables.specs.Packed.{unpack}
use Rattle.setchanges.specs.Changes.{last_of}
use Rattle.setchanges.proofs.make.last_of.Given as goal

abbrev pub invariant-loop : goal.invariant-loop
invariant-loop l = (l.x < 8) × (last_of (unpack l.t).sets 7 l.first ≡ last_of (unpack l.t).sets (7 - l.counter) l.x)
