-- `listing::files::list_live` meets its contract. Assumes nothing.
use mathlib.Core.List.{◌++◌}
use mathlib.Core.Path.{ap}
use Prim.Native.Nat.{ℕ}
use native.Mathlib.Omega.{arith}
use lib.Dec.{eqb}
use Rattle.tables.specs.Meaning.{state_meant}
use Rattle.tables.specs.Packed.{unpack}
use Rattle.listing.specs.Listing.{ext_end, extents, file_line}
use Rattle.listing.proofs.Writing.{put_as, put_then}
use Rattle.listing.proofs.files.list_live.Goals as goal

pub returns : goal.returns
returns c =
    let a = c.args in (
      put_as (ap (λ (n : ℕ). file_line a.s a.f (state_meant a.l) n ++ (extents (eqb a.s 0) ((unpack a.t.now).files a.f a.s).map 64 ++ ext_end)) c.size_of-n.ensures.0)
          (put_then c.put_file.ensures.0 c.list_extents.ensures.0),
      omega arith,
    )
