-- `listing::text::Writer::put_word` meets its contract. Assumes nothing.
use native.Mathlib.Omega.{arith}
use Rattle.listing.proofs.Decimals.{decimal_five}
use Rattle.listing.proofs.Writing.{put_then}
use Rattle.listing.proofs.text.Writer.put_word.Goals as goal

pub returns : goal.returns
returns c =
    let w = put_then c.put.ensures c.put_decimal.ensures.0 in
    (w, omega (arith, c.put.ensures.wrote.past), λ h. omega (arith, w.wrote.past, decimal_five c.args.n h))
