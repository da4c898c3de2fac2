-- `copying::marking::mark_down` meets its contract. Assumes nothing.
use Rattle.tables.specs.Packed.{unpack}
use Rattle.copying.specs.Changes.{reached}
use Rattle.copying.proofs.Marks.{marked_all}
use Rattle.copying.proofs.marking.mark_down.Goals as goal

pub returns : goal.returns
returns c =
    let a = c.args in
    marked_all c.requires.2 (c.mark_sets.ensures (reached (unpack a.t.now) a.f a.c) c.reach_mask-m.ensures.0)
