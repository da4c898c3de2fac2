-- `numbers::own_need` meets its contract. The loop's invariant: the pages counted and the need of those that are left are the whole need.
use Prim.Native.Nat.{◌+◌, ◌-◌, ◌≤◌}
use mathlib.Core.Path.{◌≡◌}
use Rattle.rules.specs.Rules.{from, own_need}
use Rattle.rules.specs.Storage.{real}
use Rattle.tables.specs.Packed.{unpack}
use Rattle.numbers.proofs.own_need.Given as goal

abbrev pub invariant-loop-i : goal.invariant-loop-i
invariant-loop-i l =
    (l.i ≤ (l.first + l.m)) × (l.n ≤ l.i) × (l.n + own_need real l.s (from l.i ((l.first + l.m) - l.i)) ((unpack l.t).files l.f) ≡ own_need real l.s (from l.first l.m) ((unpack l.t).files l.f))
