-- `masks::page_count` meets its contract. Assumes nothing.
use native.Mathlib.Omega.{arith}
use lib.Count.{ones-le}
use Rattle.masks.proofs.MaskPages.{ones_pages}
use Rattle.masks.proofs.page_count.Goals as goal

pub returns : goal.returns
returns c = (ones_pages c.args.m (omega arith), ones-le 64 c.args.m (omega arith))
