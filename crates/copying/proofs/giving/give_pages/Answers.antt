-- `copying::giving::give_pages` meets its contract. The loop's invariant: giving the m pages is what is done and then giving those from q on. Assumes nothing.
use mathlib.Core.Path.{◌≡◌, ap, sym, ◌∙◌}
use Prim.Native.Nat.{◌+◌, ◌-◌}
use native.Mathlib.Omega.{arith}
use Rattle.tables.proofs.KeptEntries.{entries_at}
use Rattle.tables.specs.Packed.{unpack}
use Rattle.copying.specs.Work.{giving_of, shown}
use Rattle.copying.proofs.Steps.{going_done, going_first}
use Rattle.copying.proofs.Chains.{pages_out}
use Rattle.copying.proofs.Handed.{giving_page, pages_next, pages_start}
use Rattle.copying.proofs.giving.give_pages.Goals as goal

pub loop-q-init : goal.loop-q-init
loop-q-init c =
    let a = c.args in
    let e : a.first + a.m - a.first ≡ a.m = omega arith in
    rw e (pages_start (giving_of a.how) a.s a.first a.m c.requires.0 c.requires.4)

pub give_page-w-requires : goal.give_page-w-requires
give_page-w-requires c =
    let a = c.args in
    let g = c.loop-q.invariant in (
      g.going.ready,
      c.requires.1,
      omega (arith, c.new.ensures),
      going_first g.going a.s a.child c.requires.3,
      c.entry.ensures ∙ entries_at a.kept c.loop-q.q _ (omega arith) ∙ g.kept c.loop-q.q (omega arith) (omega arith) ∙ ap (shown _ _ _) (sym c.new.ensures),
    )

pub loop-q-preserved : goal.loop-q-preserved
loop-q-preserved c =
    let a = c.args in
    pages_next (giving_of a.how) a.s a.first a.m c.loop-q.q (a.first + a.m - c.loop-q.q) (a.first + a.m - (c.loop-q.q + 1)) _ c.loop-q.invariant (omega arith) c.new.ensures c.give_page-w.ensures

pub returns : goal.returns
returns c =
    let a = c.args in
    going_done c.loop-q.invariant.going (pages_out (giving_page (giving_of a.how) a.s) (unpack a.t.now).sets (a.first + a.m - c.loop-q.q) c.loop-q.q (omega arith))
