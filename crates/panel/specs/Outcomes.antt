-- For the contracts of the panel's calls: what a call of the code leaves, as an outcome of these calls on bytes.
use Rattle.std.specs.Prelude.{List, ℕ}
use Rattle.calls.specs.Outcomes.{answer_meant}
use Rattle.calls.specs.declared.answer.Answer as declared
use Rattle.tables.specs.Panel.{PanelOutcome, panel_left}

-- the outcome: an answer, and the registers, the tables and the pages afterwards
abbrev pub panel_outcome : declared.Answer → List ℕ → List ℕ → List ℕ → PanelOutcome
panel_outcome a r t p = panel_left (answer_meant a) r t p
