-- `panel::command::command` meets its contract. Assumes nothing.
use mathlib.Core.Path.{ap}
use borrow.Author.Rules.{rules}
use Rattle.calls.specs.Outcomes.{answer_meant}
use Rattle.panel.proofs.CommandCases.{number_fits, ran_call, ran_nothing}
use Rattle.panel.proofs.command.command.Goals as goal

pub returns-in_default : goal.returns-in_default
returns-in_default c =
    ran_nothing _ _ c.args.r.now _ _ _ (ap answer_meant c.accepted.ensures) c.in_default.ensures c.add_cause.ensures

pub note-requires : goal.note-requires
note-requires c = (search rules, number_fits _ _ _ _ _ _ c.run-a.ensures)

pub returns : goal.returns
returns c =
    ran_call _ _ _ _ _ _ _ _ _ _ _ _ _ (ap answer_meant c.accepted-2.ensures) c.in-Some.ensures.0 c.from-set.ensures c.from-file.ensures c.from-other.ensures (c.in-Some.ensures.1 _ _ _)
    c.run-a.ensures c.note.ensures
