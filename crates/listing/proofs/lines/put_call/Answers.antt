-- `listing::lines::put_call` meets its contract. Assumes nothing.
use mathlib.Core.Path.{sym, ◌∙◌}
use native.Mathlib.Omega.{arith}
use borrow.Author.Rules.{rules}
use Rattle.listing.specs.Listing.{call_line}
use Rattle.listing.specs.Text.{decimal}
use Rattle.listing.proofs.LineTexts.{six_end}
use Rattle.listing.proofs.Writing.{put_as, put_then, put_wrote}
use Rattle.listing.proofs.lines.put_call.Goals as goal

pub returns : goal.returns
unfolding call_line
returns c =
    let a = c.args in
    let p = put_then c.put_bytes.ensures (put_as
    (six_end (decimal a.count) (decimal a.op) (decimal a.number) (decimal a.first) (decimal a.second) (decimal a.third))
    (put_then c.put_two.ensures.0 c.put_four.ensures.0)) in
    let same = sym (p.same ∙ c.new-w.ensures.0) in
    (put_wrote c.new-w.ensures.1 c.new-w.ensures.2 p (search rules), omega (arith, c.put_bytes.ensures.wrote.past))
