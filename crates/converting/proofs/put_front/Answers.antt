-- `converting::put_front` meets its contract. Assumes nothing.
use Prim.Native.Nat.{ℕ}
use Rattle.converting.proofs.Fronts.{front_old, front_present, old_left}
use Rattle.converting.proofs.put_front.Goals as goal

pub returns-then-old-eq-TABLE_BYTES : goal.returns-then-old-eq-TABLE_BYTES
returns-then-old-eq-TABLE_BYTES c =
    front_present _ _ _ c.requires.0 c.copy_bytes.ensures c.if-old-eq-TABLE_BYTES.true

pub widen_front-requires : goal.widen_front-requires
widen_front-requires c =
    let p = c.requires in
    (p.0, old_left _ p.1 c.if-old-eq-TABLE_BYTES.false)

pub returns : goal.returns
returns c =
    front_old _ _ (λ (j : ℕ). (c.type_inv.old j).fits) (old_left _ c.requires.1 c.if-old-eq-TABLE_BYTES.false) c.widen_front.ensures
