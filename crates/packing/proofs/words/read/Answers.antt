-- `packing::words::read` meets its contract: the eight bytes are 8 - N bytes 0 and then those of the word.
use Rattle.std.proofs.Common.{◌∙◌, ◌<◌, ◌^◌, sym, subst}
use Rattle.packing.proofs.words.Widened.{be_law}
use Rattle.packing.proofs.words.read.Goals as goal

pub returns : goal.returns
returns g c =
    let l = be_law g.row.N c.args.t.now c.copy_from_slice.new.self c.args.at c.requires.2 c.copy_from_slice.ensures.after c.requires.0 c.requires.1 (λ i. (c.type_inv.t i).fits) in
    (c.from_be_bytes.ensures ∙ l.0, subst (λ x. x < 256 ^ g.row.N) (sym c.from_be_bytes.ensures) l.1)
