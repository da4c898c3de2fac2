-- `dates::is_leap` meets its contract. Assumes nothing.
use Rattle.rules.proofs.Terms.Dates.{leap_fourth}
use Rattle.dates.proofs.is_leap.Goals as goal

pub returns : goal.returns
returns c = leap_fourth c.args.year c.requires.0 c.requires.1
