-- `listing::files::list_own` meets its contract. Assumes nothing.
use mathlib.Core.Path.{ap}
use native.Mathlib.Omega.{arith}
use Rattle.listing.specs.Listing.{set_line, set_text}
use Rattle.listing.proofs.Writing.{put_as, put_then}
use Rattle.listing.proofs.files.list_own.Goals as goal

pub returns : goal.returns
unfolding set_text
returns c =
    (put_then (put_as (ap (set_line c.args.s) c.set_at.ensures.0) c.put_set.ensures.0) c.list_files.ensures.0, omega arith)
