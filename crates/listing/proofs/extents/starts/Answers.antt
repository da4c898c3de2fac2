-- `listing::extents::starts` meets its contract. Assumes nothing.
use mathlib.Core.Bool.{not}
use mathlib.Core.Path.{ap, ap₂, subst, sym, ◌∙◌}
use Rattle.tables.specs.OneReading.{block_fits}
use Rattle.tables.specs.Packed.{unpack}
use Rattle.listing.specs.Listing.{continues}
use Rattle.listing.proofs.Runs.{begins_at}
use Rattle.tables.proofs.PackUnpack.{unpack_fits}
use Rattle.listing.proofs.extents.starts.Goals as goal

pub goes_on-requires : goal.goes_on-requires
goes_on-requires c =
    let a = c.args in
    subst block_fits (sym c.entry_at-before.ensures) ((unpack_fits a.t.now (λ i. (c.type_inv.t i).fits)).block_fits_law a.f a.s _)

pub returns : goal.returns
returns c =
    let a = c.args in
    let m = ((unpack a.t.now).files a.f a.s).map in
    ap not (c.goes_on.ensures ∙ ap₂ continues (c.entry_at-before.ensures ∙ ap m c.new.ensures) (c.entry_at-e.ensures ∙ ap m c.new-2.ensures)) ∙ sym (begins_at m a.p c.if-p-eq0.false)
