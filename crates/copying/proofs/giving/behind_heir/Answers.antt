-- `copying::giving::behind_heir` meets its contract. The loop's invariant: no set before c needs the page. Assumes nothing.
use mathlib.Core.Logic.{inl, inr}
use mathlib.Core.Path.{sym, ◌∙◌}
use Prim.Native.Nat.{◌-◌}
use native.Mathlib.Omega.{arith}
use Rattle.tables.specs.Packed.{unpack}
use Rattle.copying.proofs.Handed.{heir_first, heir_none, search_next, search_start}
use Rattle.copying.proofs.giving.behind_heir.Goals as goal

pub loop-n-init : goal.loop-n-init
loop-n-init c = let a = c.args in search_start (unpack a.t.now) a.f a.page.0 a.child

pub returns-then-needs : goal.returns-then-needs
returns-then-needs c =
    let a = c.args in
    heir_first (unpack a.t.now) a.f a.page.0 a.child c.loop-n.n c.loop-n.c c.loop-n.invariant c.next_sibling_of-next.result (c.loop-n.n - 1) (omega arith) (omega arith)
    c.next_sibling_of-next.ensures.0 (omega arith) (sym c.needs.ensures ∙ c.if-needs.true)

pub loop-n-preserved : goal.loop-n-preserved
loop-n-preserved c =
    let a = c.args in
    search_next (unpack a.t.now) a.f a.page.0 a.child c.loop-n.n c.loop-n.c c.loop-n.invariant c.next_sibling_of-next.result (c.loop-n.n - 1) (omega arith) (omega arith)
    c.next_sibling_of-next.ensures.0 (sym c.needs.ensures ∙ c.if-needs.false)

pub returns-then-c-ge8 : goal.returns-then-c-ge8
returns-then-c-ge8 c =
    let a = c.args in
    heir_none (unpack a.t.now) a.f a.page.0 a.child c.loop-n.n c.loop-n.c c.loop-n.invariant (inl c.if-c-ge8.true)

pub returns-after-loop-n : goal.returns-after-loop-n
returns-after-loop-n c =
    let a = c.args in
    heir_none (unpack a.t.now) a.f a.page.0 a.child c.loop-n.n c.loop-n.c c.loop-n.invariant (inr (omega arith))
