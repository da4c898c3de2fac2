-- `copying::giving::give_chain` meets its contract. The loop's invariant: giving the page along the chain is what is done and then giving it to the chain from c on. Assumes nothing.
use Prim.Native.Nat.{◌-◌}
use Rattle.tables.specs.Meaning.{entry_meant}
use Rattle.tables.specs.Packed.{unpack}
use Rattle.copying.specs.Work.{Going, give_chain}
use Rattle.copying.proofs.giving.give_chain.Given as goal

abbrev pub invariant-loop : goal.invariant-loop
invariant-loop l =
    Going l.initial.t l.initial.p l.t l.p l.f l.initial.w l.w (give_chain (unpack l.initial.t).sets l.must (entry_meant l.e) l.page.0 l.most l.first) (give_chain (unpack l.initial.t).sets l.must (entry_meant l.e) l.page.0 (l.most - l.counter) l.c)
