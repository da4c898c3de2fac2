-- `changing::dropping::drop_pages` meets its contract. The loop's invariant: dropping the m pages is what is done and then dropping those from q on. Assumes nothing.
use Prim.Native.Nat.{◌+◌, ◌-◌}
use Rattle.tables.specs.Packed.{unpack}
use Rattle.copying.proofs.Chains.{up_pages}
use Rattle.changing.proofs.OnTables.{Dropping, dropping}
use Rattle.changing.proofs.dropping.drop_pages.Given as goal

abbrev pub invariant-loop-q : goal.invariant-loop-q
invariant-loop-q l = Dropping l.initial.t l.t l.f (up_pages (dropping l.s) (unpack l.initial.t).sets l.first l.m) (up_pages (dropping l.s) (unpack l.initial.t).sets l.q (l.first + l.m - l.q))
