-- `formed::heads::head_of` meets its contract. Assumes nothing.
use Rattle.formed.proofs.FileHead.{head_low}
use Rattle.formed.proofs.heads.head_of.Goals as goal

pub returns : goal.returns
returns c = head_low c.args.v
