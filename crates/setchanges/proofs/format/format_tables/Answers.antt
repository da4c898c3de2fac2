-- `setchanges::format::format_tables` meets its contract. Assumes nothing.
use Prim.Native.Nat.{ℕ}
use native.Mathlib.Omega.{arith}
use Rattle.setchanges.proofs.BlankTables.{zeros_packed, format_packs}
use Rattle.setchanges.proofs.format.format_tables.Goals as goal

pub put_blocks-requires : goal.put_blocks-requires
put_blocks-requires c = (zeros_packed _ c.requires.0 _ c.zero_bytes.ensures, omega arith)

pub returns : goal.returns
returns c =
    format_packs _ _ _ _ _ c.requires.0 c.zero_bytes.ensures c.put_blocks.ensures c.put_set.ensures
    (λ (i : ℕ). (c.type_inv.t i).fits)
