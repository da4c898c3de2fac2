-- `listing::text::Writer::put_bytes`: the bytes passed are written. Assumes nothing.
use lib.ListN.{take}
use Rattle.listing.specs.Written.{Put}
use Rattle.listing.proofs.text.Writer.put_bytes.Given as goal

abbrev pub invariant-loop-b : goal.invariant-loop-b
invariant-loop-b l = Put l.initial.self l.self (take l.b-index l.text)
