-- `calls::compact::try_compact` meets its contract. Assumes nothing.
use mathlib.Core.Path.{refl}
use Prim.Native.Nat.{ℕ}
use Rattle.calls.proofs.Compacting.{compact_done_as, compact_lent, compact_spare_as, compact_unformed_as}
use Rattle.calls.proofs.compact.try_compact.Goals as goal

pub returns-in_err-checked : goal.returns-in_err-checked
returns-in_err-checked c = compact_unformed_as _ _ c.from_residual.ensures.1 _ _ _ _ c.in_err-checked.ensures

pub returns-then-spare-ne512 : goal.returns-then-spare-ne512
returns-then-spare-ne512 c =
    compact_spare_as _ _ _ _ _ refl c.in_ok-checked.ensures c.if-spare-ne512.true

pub compact_store-requires : goal.compact_store-requires
compact_store-requires c =
    (compact_lent _ _ c.in_ok-checked.ensures, c.if-spare-ne512.false)

pub returns : goal.returns
returns c =
    compact_done_as _ _ _ _ _ _ _ c.in_ok-checked.ensures c.compact_store.ensures refl c.if-spare-ne512.false
    (λ (j : ℕ). (c.type_inv.t j).fits) c.compact_store.auto.p
