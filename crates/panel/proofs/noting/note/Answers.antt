-- `panel::noting::note` meets its contract. Assumes nothing.
use lib.ListN.{length-set}
use borrow.Author.Rules.{rules}
use Rattle.calls.specs.Outcomes.{answer_meant}
use Rattle.panel.proofs.RegisterCases.{noted}
use Rattle.panel.proofs.noting.note.Goals as goal

pub bounds-r-8 : goal.bounds-r-8
bounds-r-8 c = simp length-set (search rules)

pub bounds-r-9 : goal.bounds-r-9
bounds-r-9 c = simp length-set (search rules)

pub returns : goal.returns
returns c =
    noted (answer_meant c.args.a) _ _ _ _ _ _ _ c.requires.1 c.cause_of.ensures c.add_cause.ensures c.shown.ensures c.shown-2.ensures c.shown-3.ensures c.shown-4.ensures
