-- `converting::widen_front` meets its contract. Assumes nothing.
use mathlib.Core.Path.{◌≡◌, subst}
use Prim.Native.Nat.{ℕ}
use native.Mathlib.Omega.{arith}
use Rattle.converting.proofs.Fronts.{front_start}
use Rattle.converting.specs.Front.{FrontTo}
use Rattle.converting.proofs.widen_front.Goals as goal

pub copy_bytes-requires : goal.copy_bytes-requires
copy_bytes-requires c = let h = c.requires in (omega (arith, h.0), omega (arith, h.1))

pub loop-s-init : goal.loop-s-init
loop-s-init c =
    front_start _ _ _ (λ (j : ℕ). (c.type_inv.front j).fits) c.requires.0 c.copy_bytes.ensures

pub put_record-requires : goal.put_record-requires
put_record-requires c =
    (c.loop-s.invariant, c.requires.1, omega arith)

pub loop-s-preserved : goal.loop-s-preserved
loop-s-preserved c = c.put_record.ensures

pub returns : goal.returns
returns c = let e : c.loop-s.s ≡ 8 = omega arith in subst (FrontTo _ _) e c.loop-s.invariant
