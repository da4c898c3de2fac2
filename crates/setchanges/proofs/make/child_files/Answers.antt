-- `setchanges::make::child_files` meets its contract. The loop's invariant: the first f files are done. Assumes nothing.
use native.Mathlib.Omega.{arith}
use Rattle.setchanges.proofs.ChildFiles.{child_start, child_turn, child_end}
use Rattle.setchanges.proofs.make.child_files.Goals as goal

pub loop-f-init : goal.loop-f-init
loop-f-init c = child_start _ _ c.requires.0

pub state_at-requires : goal.state_at-requires
state_at-requires c =
    (c.loop-f.invariant.packed.len, omega arith, c.requires.1)

pub put_head-requires : goal.put_head-requires
put_head-requires c =
    (c.loop-f.invariant.packed, omega arith, c.requires.2, omega arith)

pub loop-f-preserved : goal.loop-f-preserved
loop-f-preserved c =
    child_turn c.args.s c.args.c c.loop-f.f _ _ (c.requires.3 c.loop-f.f (omega arith)) c.loop-f.invariant c.state_at.ensures c.child_state-l.ensures c.put_head.ensures

pub returns : goal.returns
returns c = child_end _ _ c.loop-f.f (omega arith) c.loop-f.invariant
