-- `entrycheck::seeing::see_pages` meets its contract. The loop's invariant: the blocks of the pages that are no longer left are seen. Assumes nothing.
use mathlib.Core.Bool.{true}
use Prim.Native.Nat.{◌<◌, ◌^◌}
use Rattle.masks.specs.Pages.{pages}
use Rattle.entrycheck.specs.Moving.{Moved, block_at}
use Rattle.entrycheck.proofs.seeing.see_pages.Given as goal

abbrev pub invariant-loop-left : goal.invariant-loop-left
invariant-loop-left l = (l.left < 2 ^ 64) × Moved l.limit (block_at l.t l.at) l.initial.seen l.seen (pages l.m) (pages l.left) true

abbrev pub decreases-loop-left : goal.decreases-loop-left
decreases-loop-left l = l.left
