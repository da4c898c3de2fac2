-- For the contracts of the calls: what a call of the code leaves, as an outcome of document 01's calls on bytes.
use Rattle.std.specs.Prelude.{List, ℕ}
use Rattle.rules.specs.Numbers.{Answer}
use Rattle.tables.specs.Calls.{Outcome}
use Rattle.calls.specs.declared.answer.Answer as declared

-- the answer that a struct of the code means
abbrev pub answer_meant : declared.Answer → Answer
answer_meant r = record { number = r.number; first = r.first; second = r.second; third = r.third }

-- the outcome: an answer, and the tables, the pages and the buffer afterwards
abbrev pub outcome : declared.Answer → List ℕ → List ℕ → List ℕ → Outcome
outcome r t p buffer = record { answer = answer_meant r; tables = t; pages = p; buffer = buffer }
