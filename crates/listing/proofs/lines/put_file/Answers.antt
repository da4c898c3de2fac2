-- `listing::lines::put_file` meets its contract. Assumes nothing.
use mathlib.Core.List.{[], ◌∷◌}
use mathlib.Core.Path.{ap}
use Prim.Native.Nat.{ℕ}
use native.Mathlib.Omega.{arith}
use Rattle.listing.specs.Listing.{file_line}
use Rattle.listing.specs.Text.{decimal, line, name_file}
use Rattle.listing.proofs.Writing.{put_as, put_then}
use Rattle.listing.proofs.lines.put_file.Goals as goal

pub returns : goal.returns
unfolding file_line
returns c =
    let a = c.args in (
      put_as (ap (λ (n : ℕ). line name_file (decimal a.s ∷ decimal a.f ∷ decimal n ∷ decimal a.size ∷ [])) c.from.ensures.0)
          (put_then c.put_bytes.ensures c.put_four.ensures.0),
      omega (arith, c.put_bytes.ensures.wrote.past, c.put_four.ensures.2 (omega arith) (omega arith) (omega arith) (omega arith)),
    )
