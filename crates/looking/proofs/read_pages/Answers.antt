-- `looking::read_pages` meets its contract. The loop's invariant: the bytes before page q are read. Assumes nothing.
use mathlib.Core.Path.{◌≡◌, ap, sym, ◌∙◌}
use Prim.Native.Nat.{◌*◌, ◌+◌, ◌-◌, ◌/◌, min}
use native.Mathlib.Omega.{arith}
use lib.ListN.{get_or}
use Rattle.pages.specs.Run.{run, run_none}
use Rattle.tables.proofs.KeptEntries.{entries_at}
use Rattle.tables.specs.Meaning.{kept_meant}
use Rattle.tables.specs.Views.{entries_of}
use Rattle.looking.specs.Read.{byte_kept}
use Rattle.looking.proofs.Parts.{block_in, read_more}
use Rattle.looking.proofs.read_pages.Goals as goal
use Rattle.looking.proofs.read_pages.Goals.{After-min-end}

pub loop-q-init : goal.loop-q-init
loop-q-init c =
    let a = c.args in
    let e : min (a.off / 512 * 512 - a.off) a.n ≡ 0 = omega arith in
    sym (ap (run a.buffer.now 0 (λ i. byte_kept a.kept a.p.now (a.off + i))) e ∙ run_none _ _ _)

-- the entry of the page that is read now
entry_is : (c : After-min-end) → kept_meant (get_or c.args.kept c.loop-q.q (record { 0 = 0 })) ≡ entries_of c.args.kept c.loop-q.q
entry_is c = entries_at c.args.kept c.loop-q.q _ (omega (arith, c.requires.0.len))

pub read_part-requires : goal.read_part-requires
read_part-requires c =
    (λ b e. block_in _ _ c.requires.0 _ b (omega arith) (sym (entry_is (goal.at.read_part-requires c).After-min-end) ∙ e), omega arith, omega arith)

pub loop-q-preserved : goal.loop-q-preserved
loop-q-preserved c =
    let a = c.args in
    read_more a.kept a.p.now a.off a.n a.buffer.now c.loop-q.buffer _ c.loop-q.q c.max-from.result c.min-end.result _ (entry_is (goal.at.loop-q-preserved c).After-min-end)
    (omega arith) (omega arith) c.max-from.ensures c.min-end.ensures c.loop-q.invariant c.read_part.ensures
