-- `setcheck::chains::chain_ends` meets its contract. Assumes nothing.
use mathlib.Core.Path.{◌≡◌}
use Prim.Native.Nat.{◌-◌}
use Rattle.rules.specs.WellFormed.{chain_ends}
use Rattle.tables.specs.Packed.{unpack}
use Rattle.setcheck.proofs.chains.chain_ends.Given as goal

abbrev pub invariant-loop : goal.invariant-loop
invariant-loop l = chain_ends (unpack l.t) 8 l.k ≡ chain_ends (unpack l.t) (8 - l.counter) l.at
