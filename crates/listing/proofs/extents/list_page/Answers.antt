-- `listing::extents::list_page` meets its contract. Assumes nothing.
use mathlib.Core.Bool.{false, true}
use mathlib.Core.Path.{ap, subst, sym, ◌∙◌, ◌≡◌}
use native.Mathlib.Omega.{arith}
use borrow.Author.Rules.{rules}
use lib.Dec.{eqb}
use Rattle.tables.specs.OneReading.{block_fits}
use Rattle.tables.specs.Packed.{unpack}
use Rattle.listing.specs.Listing.{begins, ext_line}
use Rattle.listing.proofs.LineTexts.{page_none, page_some}
use Rattle.listing.proofs.Writing.{put_as, put_none}
use Rattle.tables.proofs.PackUnpack.{unpack_fits}
use Rattle.listing.proofs.extents.list_page.Goals as goal

pub returns-then-not-starts : goal.returns-then-not-starts
returns-then-not-starts c =
    let a = c.args in
    let m = ((unpack a.t.now).files a.f a.s).map in
    let h : begins m a.p ≡ false = search rules in
    (put_as (page_none (eqb a.s 0) m a.p h) (put_none a.w.now), omega arith)

pub put_ext-requires : goal.put_ext-requires
put_ext-requires c =
    let a = c.args in (
      omega arith,
      omega arith,
      subst block_fits (sym c.entry_at-e.ensures) ((unpack_fits a.t.now (λ i. (c.type_inv.t i).fits)).block_fits_law a.f a.s c.new.result.0),
    )

pub returns : goal.returns
returns c =
    let a = c.args in
    let m = ((unpack a.t.now).files a.f a.s).map in
    let h : begins m a.p ≡ true = search rules in
    (put_as (ap (ext_line (eqb a.s 0) a.p) (c.entry_at-e.ensures ∙ ap m c.new.ensures) ∙ page_some (eqb a.s 0) m a.p h) c.put_ext.ensures.0, omega arith)
