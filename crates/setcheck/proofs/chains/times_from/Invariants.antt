-- `setcheck::chains::times_from` meets its contract. Assumes nothing.
use mathlib.Core.Path.{◌≡◌}
use Prim.Native.Nat.{◌≤◌, ◌+◌, ◌-◌}
use lib.Dec.{eqb}
use Rattle.rules.specs.Rules.{count_in}
use Rattle.rules.specs.State.{chain}
use Rattle.tables.specs.Packed.{unpack}
use Rattle.setcheck.proofs.chains.times_from.Given as goal

abbrev pub invariant-loop : goal.invariant-loop
invariant-loop l =
    (l.m ≤ l.counter)
    × (count_in (chain (unpack l.t).sets 8 l.k) (λ x. eqb l.c x) ≡ l.m + count_in (chain (unpack l.t).sets (8 - l.counter) l.at) (λ x. eqb l.c x))
