-- `entrycheck::maps_equal` meets its contract. Assumes nothing.
use mathlib.Core.Path.{ap, ◌∙◌, ◌≡◌}
use borrow.Author.Rules.{rules}
use native.Mathlib.Omega.{arith}
use Rattle.entrycheck.proofs.BytesEqual.{same_bytes, same_more, same_none, same_to}
use Rattle.entrycheck.proofs.maps_equal.Goals as goal

pub loop-i-init : goal.loop-i-init
loop-i-init c = (same_none _ _, λ h. absurd (omega arith))

pub loop-i-preserved : goal.loop-i-preserved
loop-i-preserved c = (same_more _ _ _ _ c.loop-i.invariant.0, λ h i. search rules)

pub returns : goal.returns
returns c =
    let e : c.loop-i.i ≡ 512 = omega arith in
    c.loop-i.invariant.0 ∙ ap (same_to _ _) e ∙ same_bytes _ _ (λ i. search rules) (c.loop-i.invariant.1 (omega arith))
