-- `copying::giving::behind_heir` meets its contract. The loop's invariant: no set before c needs the page. Assumes nothing.
use Rattle.tables.specs.Packed.{unpack}
use Rattle.copying.proofs.Handed.{Searching}
use Rattle.copying.proofs.giving.behind_heir.Given as goal

abbrev pub invariant-loop-n : goal.invariant-loop-n
invariant-loop-n l = Searching (unpack l.t) l.f l.page.0 l.child l.n l.c
