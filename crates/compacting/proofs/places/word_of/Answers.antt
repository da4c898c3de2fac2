-- `compacting::places::word_of` meets its contract. Assumes nothing.
use mathlib.Core.Path.{◌≡◌, ap, ◌∙◌}
use Prim.Native.Nat.{◌%◌, ◌*◌, ◌+◌, ◌/◌}
use native.Mathlib.Omega.{arith}
use Rattle.packing.specs.Words.{get_word}
use Rattle.tables.specs.Layout.{entry_at, file_bytes, maps_at}
use Rattle.compacting.proofs.places.word_of.Goals as goal

pub returns : goal.returns
returns c =
    let a = c.args in
    let e : maps_at + a.r * file_bytes + a.q * 2 ≡ entry_at (a.r % 16) (a.r / 16) a.q = omega arith in
    c.read.ensures.0 ∙ ap (get_word 1 a.t.now) e
