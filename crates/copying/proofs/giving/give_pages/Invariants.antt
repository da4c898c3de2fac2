-- `copying::giving::give_pages` meets its contract. The loop's invariant: giving the m pages is what is done and then giving those from q on. Assumes nothing.
use Prim.Native.Nat.{◌+◌, ◌-◌}
use Rattle.copying.specs.Work.{giving_of}
use Rattle.copying.proofs.Handed.{PagesGoing}
use Rattle.copying.proofs.giving.give_pages.Given as goal

abbrev pub invariant-loop-q : goal.invariant-loop-q
invariant-loop-q l = PagesGoing l.initial.t l.initial.p l.t l.p l.kept l.f l.initial.w l.w (giving_of l.how) l.s l.first l.m l.q (l.first + l.m - l.q)
