-- `setchanges::remove::free_map` meets its contract. The loop's invariant: the blocks of the first p entries are free. Assumes nothing.
use mathlib.Core.Path.{refl}
use native.Mathlib.Omega.{arith}
use Rattle.setchanges.proofs.Freeing.{freed_blank, freed_block, freed_end, freed_start, freed_turn}
use Rattle.setchanges.proofs.remove.free_map.Goals as goal

pub all_zero-requires : goal.all_zero-requires
all_zero-requires c = omega (arith, c.requires.0.len)

pub returns-then-all_zero : goal.returns-then-all_zero
returns-then-all_zero c =
    let p = c.requires in
    freed_blank _ _ _ _ p.0 p.1 p.2 c.all_zero.ensures c.if-all_zero.true

pub loop-p-init : goal.loop-p-init
loop-p-init c = freed_start _ _ c.requires.0

pub entry_at-e-requires : goal.entry_at-e-requires
entry_at-e-requires c =
    let e = c.new.ensures in
    (c.loop-p.invariant.packed.len, c.requires.1, c.requires.2, omega arith)

pub free_entry-requires : goal.free_entry-requires
free_entry-requires c =
    (c.loop-p.invariant.packed, freed_block c.args.f c.args.s c.loop-p.p _ _ c.requires.3 c.loop-p.invariant c.new.ensures c.entry_at-e.ensures)

pub loop-p-preserved : goal.loop-p-preserved
loop-p-preserved c =
    let a = c.args in
    freed_turn a.f a.s c.loop-p.p _ _ c.loop-p.invariant c.new.ensures c.entry_at-e.ensures c.free_entry.ensures

pub returns : goal.returns
returns c = freed_end _ _ c.loop-p.p (omega arith) c.loop-p.invariant

pub shape_of-t-then-all_zero : goal.shape_of-t-then-all_zero
shape_of-t-then-all_zero c = refl
