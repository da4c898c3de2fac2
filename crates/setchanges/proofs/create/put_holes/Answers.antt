-- `setchanges::create::put_holes` meets its contract. The loop's invariant: the first p entries are holes. Assumes nothing.
use mathlib.Core.Path.{refl}
use native.Mathlib.Omega.{arith}
use Rattle.tables.specs.Meaning.{entry_meant}
use Rattle.setchanges.proofs.Holes.{holes_start, holes_turn, holes_end}
use Rattle.setchanges.proofs.create.put_holes.Goals as goal

pub loop-p-init : goal.loop-p-init
loop-p-init c = holes_start _ _ c.requires.0

pub put_entry-requires : goal.put_entry-requires
unfolding entry_meant
put_entry-requires c =
    let e = c.new.ensures in
    (c.loop-p.invariant.packed, c.requires.1, c.requires.2, omega arith, tt)

pub loop-p-preserved : goal.loop-p-preserved
unfolding entry_meant
loop-p-preserved c =
    let a = c.args in
    holes_turn a.f a.s c.loop-p.p c.new.result.0 _ c.new.ensures refl c.loop-p.invariant c.put_entry.ensures

pub returns : goal.returns
returns c = holes_end _ _ c.loop-p.p (omega arith) c.loop-p.invariant
