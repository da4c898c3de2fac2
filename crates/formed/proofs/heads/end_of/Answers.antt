-- `formed::heads::end_of` meets its contract. Assumes nothing.
use Rattle.formed.proofs.PlaceDigits.{end_other, end_own}
use Rattle.formed.proofs.heads.end_of.Goals as goal

pub returns-then-w-ne1 : goal.returns-then-w-ne1
returns-then-w-ne1 c = end_other c.args.w c.if-w-ne1.true

pub returns : goal.returns
returns c = end_own c.args.w c.if-w-ne1.false
