-- `compacting::places::entry_in` meets its contract. Assumes nothing.
use mathlib.Core.Path.{◌≡◌, ap, ◌∙◌}
use Prim.Native.Nat.{◌%◌, ◌*◌, ◌+◌, ◌/◌}
use native.Mathlib.Omega.{arith}
use Rattle.compaction.specs.Compact.{entry_in}
use Rattle.tables.specs.Packed.{unpack}
use Rattle.compacting.proofs.places.entry_in.Goals as goal

pub returns : goal.returns
returns c =
    let a = c.args in
    let e : a.n / 64 * 64 + a.n % 64 ≡ a.n = omega arith in
    c.entry_of.ensures ∙ ap (entry_in (unpack a.t.now).files) e
