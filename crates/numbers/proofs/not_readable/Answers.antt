-- `numbers::not_readable` meets its contract. Assumes nothing.
use mathlib.Core.Path.{ap, sym, ◌∙◌}
use Rattle.numbers.proofs.Rows.{here, none_left, past}
use Rattle.rules.specs.State.{is_absent, is_marked}
use Rattle.numbers.proofs.not_readable.Goals as goal

pub returns-then-is_absent : goal.returns-then-is_absent
returns-then-is_absent c =
    here _ 5 _ (ap is_absent (sym c.state_at-l.ensures) ∙ sym c.is_absent.ensures ∙ c.if-is_absent.true)

pub returns-then-is_marked : goal.returns-then-is_marked
returns-then-is_marked c =
    let l = sym c.state_at-l.ensures in
    past _ 5 6 _ (ap is_absent l ∙ sym c.is_absent.ensures ∙ c.if-is_absent.false)
    (here _ 6 _ (ap is_marked l ∙ sym c.is_marked.ensures ∙ c.if-is_marked.true))

pub returns : goal.returns
returns c =
    let l = sym c.state_at-l.ensures in
    past _ 5 0 _ (ap is_absent l ∙ sym c.is_absent.ensures ∙ c.if-is_absent.false)
    (past _ 6 0 _ (ap is_marked l ∙ sym c.is_marked.ensures ∙ c.if-is_marked.false) none_left)
