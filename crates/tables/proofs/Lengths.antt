-- The lengths of tables and pages that a format accepts. Assumes nothing.
use mathlib.Core.Bool.{◌&&◌, true}
use mathlib.Core.Path.{◌≡◌}
use Prim.Native.Nat.{◌%◌, ◌*◌, ◌/◌, ℕ, ◌≤◌}
use native.Mathlib.Omega.{arith}
use lib.Dec.{eqb, leb}
use borrow.Author.Tests.{eqb-true, leb-true}
use Rattle.base.specs.Logic.{and_left, and_right}
use Rattle.tables.specs.Calls.{format_lengths}
use Rattle.tables.specs.Layout.{table_bytes}

-- LAW: the right tables, and whole pages of 1 to 4,096 blocks
pub lengths_in : (n m : ℕ) → format_lengths n m ≡ true → (n ≡ table_bytes) × (m ≡ m / 512 * 512) × (1 ≤ m / 512) × (m / 512 ≤ 4096)
unfolding format_lengths
lengths_in n m h =
    let a = and_left (eqb n table_bytes && eqb (m % 512) 0 && leb 512 m) (leb m 2097152) h in
    let b = and_left (eqb n table_bytes && eqb (m % 512) 0) (leb 512 m) a in
    let p = eqb-true n table_bytes (and_left (eqb n table_bytes) (eqb (m % 512) 0) b) in
    let q = eqb-true (m % 512) 0 (and_right (eqb n table_bytes) (eqb (m % 512) 0) b) in
    let x = leb-true 512 m (and_right (eqb n table_bytes && eqb (m % 512) 0) (leb 512 m) a) in
    let y = leb-true m 2097152 (and_right (eqb n table_bytes && eqb (m % 512) 0 && leb 512 m) (leb m 2097152) h) in
    (p, omega arith, omega arith, omega arith)
