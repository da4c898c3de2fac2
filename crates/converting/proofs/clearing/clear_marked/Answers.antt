-- `converting::clearing::clear_marked` meets its contract. The loop's invariant: the first i files are done. Assumes nothing.
use native.Mathlib.Omega.{arith}
use Rattle.converting.proofs.ClearedFiles.{clearing_done, clearing_next, clearing_start}
use Rattle.converting.proofs.clearing.clear_marked.Goals as goal

pub loop-i-init : goal.loop-i-init
loop-i-init c = let p = c.requires in clearing_start _ p.0 p.1

pub clear_file-requires : goal.clear_file-requires
clear_file-requires c =
    let k = c.loop-i.invariant in
    (k.packed, omega arith, omega arith, k.low _ _)

pub loop-i-preserved : goal.loop-i-preserved
loop-i-preserved c =
    clearing_next _ _ _ c.loop-i.invariant (omega arith) _ c.clear_file.ensures

pub returns : goal.returns
returns c = clearing_done _ _ _ c.loop-i.invariant (omega arith)
