-- `listing::extents::list_extents` meets its contract. Assumes nothing.
use mathlib.Core.Path.{ap, ◌≡◌}
use native.Mathlib.Omega.{arith}
use lib.Dec.{eqb}
use Rattle.tables.specs.Meaning.{entry_meant}
use Rattle.tables.specs.Packed.{unpack}
use Rattle.listing.specs.Listing.{ext_end, ext_line, extents}
use Rattle.listing.proofs.LineTexts.{extents_more, extents_none}
use Rattle.listing.proofs.Writing.{put_as, put_none, put_then}
use Rattle.listing.proofs.extents.list_extents.Goals as goal

pub loop-p-init : goal.loop-p-init
loop-p-init c = (omega arith, put_as (extents_none _ _) (put_none _))

pub loop-p-preserved : goal.loop-p-preserved
loop-p-preserved c = (omega arith, put_as (extents_more _ _ _) (put_then c.loop-p.invariant.1 c.list_page.ensures.0))

pub put_ext-requires : goal.put_ext-requires
unfolding entry_meant
put_ext-requires c = (omega arith, omega arith, tt)

pub returns : goal.returns
unfolding entry_meant ext_end ext_line
returns c =
    let a = c.args in
    let e : c.loop-p.p ≡ 64 = omega arith in
    (put_then (put_as (ap (extents (eqb a.s 0) ((unpack a.t.now).files a.f a.s).map) e) c.loop-p.invariant.1) c.put_ext.ensures.0, omega arith)
