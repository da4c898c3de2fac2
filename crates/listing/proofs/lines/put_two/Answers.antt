-- `listing::lines::put_two` meets its contract. Assumes nothing.
use native.Mathlib.Omega.{arith}
use Rattle.listing.specs.Text.{decimal}
use Rattle.listing.proofs.LineTexts.{two_words}
use Rattle.listing.proofs.Writing.{put_as, put_then}
use Rattle.listing.proofs.lines.put_two.Goals as goal

pub returns : goal.returns
returns c =
    let a = c.args in (
      put_as (two_words (decimal a.a) (decimal a.b)) (put_then c.put_word.ensures.0 c.put_word-2.ensures.0),
      omega arith,
      λ h k. omega (arith, c.put_word.ensures.2 h, c.put_word-2.ensures.2 k),
    )
