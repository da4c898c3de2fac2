-- `listing::lines::put_four` meets its contract. Assumes nothing.
use native.Mathlib.Omega.{arith}
use Rattle.listing.specs.Text.{decimal}
use Rattle.listing.proofs.LineTexts.{four_end}
use Rattle.listing.proofs.Writing.{put_as, put_then}
use Rattle.listing.proofs.lines.put_four.Goals as goal

pub returns : goal.returns
returns c =
    let a = c.args in (
      put_as (four_end (decimal a.a) (decimal a.b) (decimal a.c) (decimal a.d)) (put_then c.put_two.ensures.0 (put_then c.put_two-2.ensures.0 c.put.ensures)),
      omega (arith, c.put.ensures.wrote.past),
      λ h k l m. omega (arith, c.put.ensures.wrote.past, c.put_two.ensures.2 h k, c.put_two-2.ensures.2 l m),
    )
