-- `entrycheck::seeing::in_row` meets its contract. Assumes nothing.
use mathlib.Core.Path.{ap, subst, sym, ◌∙◌}
use Prim.Native.Nat.{◌%◌, ◌*◌, ◌+◌, ◌/◌, ◌<◌}
use native.Mathlib.Omega.{arith}
use borrow.Author.Tests.{eqb-true}
use Rattle.entrycheck.proofs.InRow.{in_a_row}
use Rattle.entrycheck.proofs.seeing.in_row.Goals as goal

pub returns-then-e-le60 : goal.returns-then-e-le60
returns-then-e-le60 c =
    let w = c.low in
    let r = c.low-e in
    λ e. in_a_row _ (λ i. (c.type_inv.t i).fits) _
    (subst (λ z. z / 256 % 64 < 61) r.ensures.0 (omega (arith, c.if-e-le60.true)))
    (sym w.ensures.0 ∙ eqb-true _ _ e ∙ ap (λ z. z * 0x0001000100010001 + 0x0300020001000000) r.ensures.0)
