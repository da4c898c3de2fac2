-- `copying::marking::mark_if` meets its contract. Assumes nothing.
use Rattle.copying.proofs.Marks.{mark_not, mark_yes}
use Rattle.copying.proofs.marking.mark_if.Goals as goal

pub returns-then-marked : goal.returns-then-marked
returns-then-marked c =
    mark_yes c.args.f c.args.s c.args.marked c.if-marked.true c.mark_record.ensures

pub returns-else-marked : goal.returns-else-marked
returns-else-marked c =
    mark_not c.args.f c.args.s c.args.marked c.if-marked.false c.requires.0
