-- `setcheck::chains::chain_below` meets its contract. Assumes nothing.
use mathlib.Core.Path.{◌≡◌}
use Prim.Native.Nat.{◌-◌}
use lib.Dec.{eqb}
use Rattle.rules.specs.WellFormed.{all_in}
use Rattle.rules.specs.State.{chain}
use Rattle.tables.specs.Packed.{unpack}
use Rattle.setcheck.proofs.chains.chain_below.Given as goal

abbrev pub invariant-loop : goal.invariant-loop
invariant-loop l =
    all_in (chain (unpack l.t).sets 8 l.k) (λ c. eqb ((unpack l.t).sets c).parent l.s)
    ≡ all_in (chain (unpack l.t).sets (8 - l.counter) l.at) (λ c. eqb ((unpack l.t).sets c).parent l.s)
