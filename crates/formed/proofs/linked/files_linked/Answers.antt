-- `formed::linked::files_linked` meets its contract. The loop's invariant: the files of the sets whose digits are not left have been looked at. Assumes nothing.
use mathlib.Core.Path.{refl}
use Prim.Native.Nat.{◌-◌}
use native.Mathlib.Nat.{lt_of_le_of_lt}
use native.Mathlib.Omega.{arith}
use lib.Bits.{and_le_r}
use Rattle.entrycheck.proofs.Lists.{all_are, filled}
use Rattle.formed.proofs.LinkedRules.{linking_done, linking_next, linking_none, linking_refused, linking_start, next_above, next_live}
use Rattle.formed.proofs.linked.files_linked.Goals as goal

pub returns-then-lives-eq0 : goal.returns-then-lives-eq0
returns-then-lives-eq0 c = linking_none _ _ _ _ _ _ _ _ c.requires c.if-lives-eq0.true

pub loop-left-init : goal.loop-left-init
unfolding filled
loop-left-init c = linking_start _ _ _ _ _ _ _ _ c.requires _ (omega arith) (all_are 8 0).0

pub link_file-requires : goal.link_file-requires
link_file-requires c =
    let z = c.lowest-s in
    let p = c.requires in (
      omega arith,
      p,
      next_live _ _ _ _ _ _ _ _ p _ c.loop-left.left c.loop-left.invariant (omega arith) z.result z.ensures.0 z.ensures.1,
      next_above _ _ _ _ _ _ _ _ p _ c.loop-left.left c.loop-left.invariant (omega arith) z.result z.ensures.0 z.ensures.1,
    )

pub returns-then-not-link_file : goal.returns-then-not-link_file
returns-then-not-link_file c =
    let z = c.lowest-s in
    let p = c.requires in
    linking_refused _ _ _ _ _ _ _ _ p _ c.loop-left.left c.loop-left.invariant (omega arith) z.result z.ensures.0 z.ensures.1 _ _ c.if-not-link_file.ensures refl

pub loop-left-smaller : goal.loop-left-smaller
loop-left-smaller c = let l = c.loop-left in lt_of_le_of_lt (and_le_r l.left (l.left - 1)) (omega arith)

pub loop-left-preserved : goal.loop-left-preserved
loop-left-preserved c =
    let z = c.lowest-s in
    let p = c.requires in
    linking_next _ _ _ _ _ _ _ _ p _ c.loop-left.left c.loop-left.invariant (omega arith) z.result z.ensures.0 z.ensures.1 _ _ c.if-not-link_file.ensures refl

pub returns : goal.returns
returns c = linking_done _ _ _ _ _ _ _ _ c.requires _ c.loop-left.left c.loop-left.invariant (omega arith)
