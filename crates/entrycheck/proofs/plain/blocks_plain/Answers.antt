-- `entrycheck::plain::blocks_plain` meets its contract. Assumes nothing.
use mathlib.Core.Path.{ap, subst, sym, ◌∙◌}
use Prim.Native.Nat.{◌<◌}
use native.Mathlib.Omega.{arith}
use lib.Bits.{bit_or, or_lt}
use borrow.Author.Tests.{ne_eqb}
use Rattle.entrycheck.proofs.PlainBlocks.{clean, clean_end, clean_more, clean_none, clean_not, unless_lt}
use Rattle.entrycheck.proofs.plain.blocks_plain.Goals as goal

pub loop-i-init : goal.loop-i-init
loop-i-init c = (omega arith, omega arith, clean_none _ (λ i. (c.type_inv.t i).fits) _)

pub loop-i-preserved : goal.loop-i-preserved
loop-i-preserved c =
    let u = c.unless_stored-plain in
    let r = c.low-e in
    let l = c.loop-i in
    let lu = subst (λ z. z < 65536) (sym u.ensures) (unless_lt r.result r.ensures.1) in (
      or_lt 16 l.any r.result l.invariant.0 r.ensures.1,
      or_lt 16 l.plain u.result l.invariant.1 lu,
      ap (λ z. clean (bit_or l.any r.result) (bit_or l.plain z)) u.ensures
          ∙ clean_more _ (λ i. (c.type_inv.t i).fits) _ l.i l.any l.plain r.result l.invariant.0 l.invariant.1 r.ensures.0 l.invariant.2,
    )

pub returns-then-any-eq0 : goal.returns-then-any-eq0
returns-then-any-eq0 c =
    let l = c.loop-i in
    clean_end _ (λ i. (c.type_inv.t i).fits) _ l.i l.any l.plain (omega arith) l.invariant.2 c.if-any-eq0.true

pub returns-else-any-eq0 : goal.returns-else-any-eq0
returns-else-any-eq0 c =
    let l = c.loop-i in
    ne_eqb _ _ c.if-any-eq0.false ∙ clean_not _ (λ i. (c.type_inv.t i).fits) _ l.i l.any l.plain (omega arith) l.invariant.2 c.if-any-eq0.false
