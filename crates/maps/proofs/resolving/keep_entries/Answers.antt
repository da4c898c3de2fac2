-- `maps::resolving::keep_entries` meets its contract. The loop's invariant: the entries of the pages that are no longer left are kept. Assumes nothing.
use mathlib.Core.Path.{ap, refl, ◌∙◌}
use Prim.Native.Nat.{◌-◌}
use native.Mathlib.Omega.{arith}
use lib.ListN.{length-set}
use Rattle.masks.proofs.LowestBit.{less, less_lt}
use Rattle.tables.proofs.KeptEntries.{entries_set}
use Rattle.tables.specs.Packed.{unpack}
use Rattle.maps.proofs.ManyPages.{kept_all, kept_more, kept_start}
use Rattle.maps.proofs.resolving.keep_entries.Goals as goal

pub loop-left-init : goal.loop-left-init
loop-left-init c = (omega arith, kept_start _ _ _ (omega arith))

pub lowest-i-requires : goal.lowest-i-requires
lowest-i-requires c = omega arith

pub overflow_sub-i : goal.overflow_sub-i
overflow_sub-i c = omega arith

pub at-requires : goal.at-requires
at-requires c =
    let p = c.requires in
    (p.0, p.1, p.2, omega (arith, c.new.ensures))

pub offset_bounds-l-i : goal.offset_bounds-l-i
offset_bounds-l-i c = omega arith

pub bounds-l-i : goal.bounds-l-i
bounds-l-i c = omega arith

pub loop-left-smaller : goal.loop-left-smaller
loop-left-smaller c = less c.loop-left.left (omega arith)

pub loop-left-preserved : goal.loop-left-preserved
loop-left-preserved c =
    let x = c.at in
    let z = c.lowest-i in
    let l = c.loop-left in
    let a = c.args in (
      less_lt l.left l.invariant.0,
      kept_more _ _ _ l.l l.left l.invariant.1 _ z.result (63 - z.result) (omega arith) l.invariant.0 z.ensures.0 refl
          (entries_set l.l (63 - z.result) x.result _ (omega (arith, l.invariant.1.len)) (x.ensures ∙ ap ((unpack a.t.now).files a.f a.s).map c.new.ensures))
          (length-set l.l (63 - z.result) x.result ∙ l.invariant.1.len),
    )

pub returns : goal.returns
returns c = let l = c.loop-left in kept_all _ _ _ _ l.left l.invariant.1 (omega arith)
