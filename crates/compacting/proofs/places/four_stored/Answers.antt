-- `compacting::places::four_stored` meets its contract. Assumes nothing.
use mathlib.Core.Path.{◌≡◌, ap, ◌∙◌}
use Prim.Native.Nat.{◌%◌, ◌*◌, ◌+◌, ◌/◌}
use native.Mathlib.Omega.{arith}
use lib.Bits.{bit_and}
use Rattle.compacting.specs.Exchange.{four_stored}
use Rattle.packing.specs.Words.{low_word}
use Rattle.tables.specs.Layout.{file_bytes, map_at, maps_at}
use Rattle.compacting.proofs.places.four_stored.Goals as goal

pub returns : goal.returns
unfolding four_stored
returns c =
    let a = c.args in
    let e : maps_at + a.r * file_bytes + a.g * 8 ≡ map_at (a.r % 16) (a.r / 16) + a.g * 8 = omega arith in
    ap (λ w. bit_and w 0x0080008000800080) (c.low.ensures.0 ∙ ap (low_word 7 a.t.now) e)
