-- `panel::line` meets its contract. Assumes nothing.
use native.Mathlib.Omega.{arith}
use mathlib.Core.List.{[]}
use mathlib.Core.Path.{ap, ◌∙◌}
use Rattle.calls.specs.Answered.{counted}
use Rattle.panel.specs.Outcomes.{panel_outcome}
use Rattle.panel.proofs.RegisterCases.{line_told, refused_call, sixteen}
use Rattle.tables.specs.Panel.{panel_line_on}
use Rattle.panel.proofs.line.Goals as goal

pub returns-then-no_register : goal.returns-then-no_register
unfolding panel_line_on
returns-then-no_register c = refused_call _ _ _ _ _ _ _ c.refused.ensures c.no_register.ensures c.if-no_register.true

pub bounds-r-2 : goal.bounds-r-2
bounds-r-2 c = omega (arith, (sixteen _ _ _ c.no_register.ensures c.if-no_register.false).0)

pub bounds-r-3 : goal.bounds-r-3
bounds-r-3 c = omega (arith, (sixteen _ _ _ c.no_register.ensures c.if-no_register.false).0)

pub returns : goal.returns
returns c = ap (λ a. panel_outcome a c.args.r.now [] []) (c.accepted.ensures ∙ ap counted c.one.ensures) ∙ line_told _ _ _ c.no_register.ensures c.if-no_register.false c.line_of-v.ensures
