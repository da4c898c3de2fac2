-- `entrycheck::seeing::see_rows` meets its contract. The loop's invariant: the blocks of the pages that are no longer left are seen, and each word of q is whole. Assumes nothing.
use mathlib.Core.Bool.{true}
use Prim.Native.Nat.{◌<◌, ◌^◌}
use Rattle.masks.specs.Pages.{pages}
use Rattle.entrycheck.proofs.RowSteps.{Whole}
use Rattle.entrycheck.specs.Moving.{Moved, block_at}
use Rattle.entrycheck.proofs.seeing.see_rows.Given as goal

abbrev pub invariant-loop-q : goal.invariant-loop-q
invariant-loop-q l =
    (l.q < 2 ^ 64) × Whole l.q l.left × Moved l.limit (block_at l.t l.at) l.initial.seen l.seen (pages l.m) (pages l.left) true

abbrev pub decreases-loop-q : goal.decreases-loop-q
decreases-loop-q l = l.q
