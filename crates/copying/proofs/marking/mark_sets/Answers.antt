-- `copying::marking::mark_sets` meets its contract. The loop's invariant: for each test g whose answers are the digits of `mask`, those from set s on are the digits of m, and the sets before s are marked where g says so. Assumes nothing.
use mathlib.Core.Path.{◌≡◌, subst}
use Prim.Native.Nat.{◌%◌, ℕ}
use native.Mathlib.Omega.{arith}
use lib.Dec.{eqb}
use Rattle.maps.specs.Mask.{packs_bit, packs_rest}
use Rattle.copying.specs.Changes.{MarkedBy}
use Rattle.copying.proofs.Marks.{byte_most, marked_blocks, marked_more, marked_start}
use Rattle.copying.proofs.marking.mark_sets.Goals as goal

pub loop-s-init : goal.loop-s-init
loop-s-init c = record { few = omega arith; packed = c.requires.0; blocks_in = c.requires.2; by = λ g e. (e, marked_start c.args.f g c.requires.0) }

pub mark_if-requires : goal.mark_if-requires
mark_if-requires c = (c.loop-s.invariant.packed, c.requires.1, omega arith, c.loop-s.invariant.blocks_in c.loop-s.s)

pub overflow_add-n : goal.overflow_add-n
overflow_add-n c = omega (arith, byte_most (eqb (c.loop-s.m % 2) 1))

pub loop-s-preserved : goal.loop-s-preserved
loop-s-preserved c = record {
  few = omega (arith, byte_most (eqb (c.loop-s.m % 2) 1));
  packed = c.mark_if.ensures.packed;
  blocks_in = marked_blocks c.args.f c.loop-s.s _ c.mark_if.ensures c.loop-s.invariant.blocks_in;
  by = λ g e.
      let h = c.loop-s.invariant.by g e in (
        packs_rest g c.loop-s.s c.loop-s.m (omega arith) h.0,
        marked_more _ _ (packs_bit g c.loop-s.s c.loop-s.m (omega arith) h.0) c.from-n.ensures h.1 c.mark_if.ensures,
      );
}

pub returns : goal.returns
returns c =
    λ g e.
    let q : c.loop-s.s ≡ 8 = omega arith in
    subst (λ (x : ℕ). MarkedBy c.args.t.now c.loop-s.t c.args.f g x c.loop-s.n) q (c.loop-s.invariant.by g e).1
