-- `panel::read` meets its contract. Assumes nothing.
use mathlib.Core.List.{[]}
use mathlib.Core.Path.{ap, ◌∙◌}
use Rattle.calls.specs.Answered.{counted}
use Rattle.panel.specs.Outcomes.{panel_outcome}
use Rattle.panel.proofs.RegisterCases.{refused_call, sixteen, value_told}
use Rattle.tables.specs.Panel.{panel_read_on}
use Rattle.panel.proofs.read.Goals as goal

pub returns-then-no_register : goal.returns-then-no_register
unfolding panel_read_on
returns-then-no_register c = refused_call _ _ _ _ _ _ _ c.refused.ensures c.no_register.ensures c.if-no_register.true

pub value_read-v-requires : goal.value_read-v-requires
value_read-v-requires c = sixteen _ _ _ c.no_register.ensures c.if-no_register.false

pub returns : goal.returns
returns c = ap (λ a. panel_outcome a c.args.r.now [] []) (c.accepted.ensures ∙ ap counted c.one.ensures) ∙ value_told _ _ _ _ c.no_register.ensures c.if-no_register.false c.value_read-v.ensures
