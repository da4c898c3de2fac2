-- `listing::lines::put_end` meets its contract. Assumes nothing.
use mathlib.Core.Path.{sym, ◌∙◌}
use native.Mathlib.Omega.{arith}
use borrow.Author.Rules.{rules}
use Rattle.listing.specs.Listing.{end_line}
use Rattle.listing.specs.Text.{decimal}
use Rattle.listing.proofs.LineTexts.{one_word}
use Rattle.listing.proofs.Writing.{put_as, put_then, put_wrote}
use Rattle.listing.proofs.lines.put_end.Goals as goal

pub returns : goal.returns
unfolding end_line
returns c =
    let p = put_then c.put_bytes.ensures (put_as (one_word (decimal c.args.count)) (put_then c.put_word.ensures.0 c.put.ensures)) in
    let same = sym (p.same ∙ c.new-w.ensures.0) in
    (put_wrote c.new-w.ensures.1 c.new-w.ensures.2 p (search rules), omega (arith, c.put_bytes.ensures.wrote.past, c.put.ensures.wrote.past))
