-- `listing::lines::put_set` meets its contract. Assumes nothing.
use mathlib.Core.List.{[], ◌∷◌}
use mathlib.Core.Path.{ap, ◌∙◌}
use Prim.Native.Nat.{ℕ}
use native.Mathlib.Omega.{arith}
use Rattle.listing.specs.Listing.{set_line}
use Rattle.listing.specs.Text.{decimal, line, name_set}
use Rattle.listing.proofs.LineTexts.{below_two, one_or_zero}
use Rattle.listing.proofs.Writing.{put_as, put_then}
use Rattle.listing.proofs.lines.put_set.Goals as goal

pub returns : goal.returns
unfolding set_line
returns c =
    let a = c.args in (
      put_as (ap (λ (n : ℕ). line name_set (decimal a.s ∷ decimal a.r.level ∷ decimal a.r.parent ∷ decimal n ∷ [])) (c.from.ensures ∙ one_or_zero a.r.writeable))
          (put_then c.put_bytes.ensures c.put_four.ensures.0),
      omega (arith, c.put_bytes.ensures.wrote.past, c.put_four.ensures.2 (omega arith) (omega arith) (omega arith) (omega (arith, c.from.ensures, below_two a.r.writeable))),
    )
