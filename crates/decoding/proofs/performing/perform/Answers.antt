-- `decoding::performing::perform` meets its contract. Assumes nothing.
use mathlib.Core.Path.{ap, subst, sym, ◌∙◌}
use Rattle.tables.specs.Calls.{call_on}
use Rattle.decoding.specs.Decoding.{call_fits, call_meant}
use Rattle.decoding.proofs.performing.perform.Goals as goal

pub write_copies-requires : goal.write_copies-requires
write_copies-requires c =
    subst call_fits c.in-Write.is c.requires

pub returns-in-Create : goal.returns-in-Create
returns-in-Create c =
    let a = c.args in
    c.create.ensures ∙ ap (λ x. call_on (call_meant x) a.t.now a.p.now) (sym c.in-Create.is)

pub returns-in-Write : goal.returns-in-Write
returns-in-Write c =
    let a = c.args in
    c.write_copies.ensures ∙ ap (λ x. call_on (call_meant x) a.t.now a.p.now) (sym c.in-Write.is)

pub returns-in-Truncate : goal.returns-in-Truncate
returns-in-Truncate c =
    let a = c.args in
    c.truncate.ensures ∙ ap (λ x. call_on (call_meant x) a.t.now a.p.now) (sym c.in-Truncate.is)

pub returns-in-Delete : goal.returns-in-Delete
returns-in-Delete c =
    let a = c.args in
    c.delete.ensures ∙ ap (λ x. call_on (call_meant x) a.t.now a.p.now) (sym c.in-Delete.is)

pub returns-in-Make : goal.returns-in-Make
returns-in-Make c =
    let a = c.args in
    c.make.ensures ∙ ap (λ x. call_on (call_meant x) a.t.now a.p.now) (sym c.in-Make.is)

pub returns-in-Remove : goal.returns-in-Remove
returns-in-Remove c =
    let a = c.args in
    c.remove.ensures ∙ ap (λ x. call_on (call_meant x) a.t.now a.p.now) (sym c.in-Remove.is)
