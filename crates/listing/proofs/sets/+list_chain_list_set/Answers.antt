-- `listing::sets::list_set` and `listing::sets::list_chain` meet their contracts: they call each other, and the count of unvisited sets falls. Assumes nothing.
use Prim.Native.Nat.{◌-◌}
use native.Mathlib.Omega.{arith}
use Rattle.tables.specs.Packed.{unpack}
use Rattle.listing.proofs.Visits.{chain_visited, no_set, none_left, set_visited, stayed}
use Rattle.listing.proofs.sets.+list_chain_list_set.Goals as goal

pub list_chain-returns-then-left-eq0 : goal.list_chain-returns-then-left-eq0
list_chain-returns-then-left-eq0 t c =
    let a = c.args in
    let tb = unpack a.t.now in
    (λ f h. stayed tb a.w.now a.left _ (none_left tb f a.left a.k c.if-left-eq0.true), omega arith, omega arith)

pub list_chain-returns-then-k-ge8 : goal.list_chain-returns-then-k-ge8
list_chain-returns-then-k-ge8 t c =
    let a = c.args in
    let tb = unpack a.t.now in
    (λ f h. stayed tb a.w.now a.left _ (no_set tb f a.left a.k c.if-left-eq0.false c.if-k-ge8.true), omega arith, omega arith)

pub list_chain-returns : goal.list_chain-returns
list_chain-returns t c =
    let a = c.args in (
      λ f h.
          chain_visited (unpack a.t.now) f a.left a.k c.next_sibling_of.result (omega arith) c.if-left-eq0.false c.if-k-ge8.false
          c.next_sibling_of.ensures.0 (c.list_set-rest.ensures.0 (f - 1) (omega arith)) (c.list_chain.ensures.0 (f - 1) (omega arith)),
      omega arith,
      omega arith,
    )

pub list_set-returns : goal.list_set-returns
list_set-returns t c =
    let a = c.args in (
      λ f h.
          set_visited (unpack a.t.now) f a.left a.s c.first_child_of.result (omega arith) c.first_child_of.ensures.0
          c.list_own.ensures.0 (c.list_chain.ensures.0 (f - 1) (omega arith)),
      omega arith,
      omega arith,
    )
