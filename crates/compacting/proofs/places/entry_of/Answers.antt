-- `compacting::places::entry_of` meets its contract. Assumes nothing.
use mathlib.Core.Path.{ap, ◌∙◌}
use Prim.Native.Nat.{◌%◌, ◌/◌}
use Rattle.compacting.proofs.Tracking.{entry_of}
use Rattle.tables.specs.Packed.{unpack}
use Rattle.compacting.proofs.places.entry_of.Goals as goal

pub returns : goal.returns
returns c =
    let files = (unpack c.args.t.now).files in
    c.entry_at.ensures ∙ ap (files (c.args.r % 16) (c.args.r / 16)).map c.new.ensures ∙ entry_of files c.args.r c.args.q c.requires.2
