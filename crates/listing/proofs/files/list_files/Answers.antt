-- `listing::files::list_files` meets its contract. Assumes nothing.
use mathlib.Core.Path.{ap, ◌≡◌}
use native.Mathlib.Omega.{arith}
use Rattle.tables.specs.Packed.{unpack}
use Rattle.listing.specs.Listing.{file_texts}
use Rattle.listing.proofs.LineTexts.{files_more, files_none}
use Rattle.listing.proofs.Writing.{put_as, put_none, put_then}
use Rattle.listing.proofs.files.list_files.Goals as goal

pub loop-f-init : goal.loop-f-init
loop-f-init c = (omega arith, put_as (files_none _ _) (put_none _))

pub loop-f-preserved : goal.loop-f-preserved
loop-f-preserved c = (omega arith, put_as (files_more _ _ _) (put_then c.loop-f.invariant.1 c.list_file.ensures.0))

pub returns : goal.returns
returns c =
    let e : c.loop-f.f ≡ 16 = omega arith in
    (put_as (ap (file_texts (unpack c.args.t.now) c.args.s) e) c.loop-f.invariant.1, omega arith)
