-- `listing::lines::put_ext` meets its contract. Assumes nothing.
use native.Mathlib.Omega.{arith}
use Rattle.tables.specs.Meaning.{entry_meant}
use Rattle.listing.specs.Listing.{block_word, ext_line}
use Rattle.listing.specs.Text.{decimal}
use Rattle.listing.proofs.LineTexts.{two_end}
use Rattle.listing.proofs.Writing.{put_as, put_then}
use Rattle.listing.proofs.lines.put_ext.Goals as goal

pub put_block-requires : goal.put_block-requires
put_block-requires c =
    (omega (arith, c.put_bytes.ensures.wrote.past, c.put_word.ensures.2 (omega arith)), c.requires.2)

pub returns : goal.returns
unfolding ext_line
returns c =
    let a = c.args in (
      put_then c.put_bytes.ensures (put_as (two_end (decimal a.p) (block_word a.root (entry_meant a.e))) (put_then c.put_word.ensures.0 (put_then c.put_block.ensures.0 c.put.ensures))),
      omega (arith, c.put_bytes.ensures.wrote.past, c.put.ensures.wrote.past, c.put_word.ensures.2 (omega arith)),
    )
