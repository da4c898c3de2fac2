-- `listing::text::Writer::put_bytes` meets its contract. Assumes nothing.
use mathlib.Core.Path.{sym}
use native.Mathlib.Omega.{arith}
use Rattle.std.proofs.lemmas.List.{take_more}
use Rattle.listing.proofs.Writing.{put_as, put_then}
use Rattle.listing.proofs.text.Writer.put_bytes.Goals as goal

pub loop-b-preserved : goal.loop-b-preserved
loop-b-preserved c = put_as (sym (take_more c.args.text.now c.loop-b.b-index 0 (omega arith))) (put_then c.loop-b.invariant c.put.ensures)
