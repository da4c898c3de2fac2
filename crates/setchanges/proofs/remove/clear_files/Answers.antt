-- `setchanges::remove::clear_files` meets its contract. The loop's invariant: the first f files are erased, their blocks free. Assumes nothing.
use native.Mathlib.Omega.{arith}
use Rattle.setchanges.proofs.Clearing.{cleared_start, cleared_blocks, cleared_turn, cleared_end}
use Rattle.setchanges.proofs.remove.clear_files.Goals as goal

pub loop-f-init : goal.loop-f-init
loop-f-init c = cleared_start _ c.requires.0

pub free_map-requires : goal.free_map-requires
free_map-requires c =
    (c.loop-f.invariant.packed, omega arith, c.requires.1, cleared_blocks c.args.c c.loop-f.f (c.requires.2 c.loop-f.f (omega arith)) c.loop-f.invariant)

pub erase_record-requires : goal.erase_record-requires
erase_record-requires c =
    (c.free_map.ensures.packed, omega arith, c.requires.1)

pub loop-f-preserved : goal.loop-f-preserved
loop-f-preserved c =
    cleared_turn c.args.c c.loop-f.f c.loop-f.invariant c.free_map.ensures c.erase_record.ensures

pub returns : goal.returns
returns c = cleared_end _ c.loop-f.f (omega arith) c.loop-f.invariant
