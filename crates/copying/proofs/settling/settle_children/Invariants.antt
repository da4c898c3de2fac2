-- `copying::settling::settle_children` meets its contract. The loop's invariant: settling the children is what is done and then settling the chain from c on. Assumes nothing.
use Prim.Native.Nat.{◌-◌}
use Rattle.tables.specs.Packed.{unpack}
use Rattle.tables.specs.Views.{PackedTables}
use Rattle.copying.specs.Work.{settle_children}
use Rattle.copying.proofs.Chains.{AloneGoing, along, settling}
use Rattle.copying.proofs.settling.settle_children.Given as goal

abbrev pub invariant-loop : goal.invariant-loop
invariant-loop l = record {
  packed : PackedTables l.t;
  going : AloneGoing l.initial.t l.t l.f (settle_children (unpack l.initial.t).sets l.s) (along settling (unpack l.initial.t).sets (8 - l.counter) l.c);
}
