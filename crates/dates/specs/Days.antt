-- What the code's struct of days means: a term.
use Rattle.rules.specs.State.{Term}
use Rattle.dates.specs.declared.Days.{Days}

abbrev pub term_meant : Days → Term
term_meant r = record { first_day = r.first_day; end_day = r.end_day }
