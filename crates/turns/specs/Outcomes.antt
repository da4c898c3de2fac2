-- For the contract of the code: what a turn leaves, its line in a lent buffer.
use Rattle.std.specs.Prelude.{Bool, List, false, length, true, ℕ}
use Rattle.std.specs.declared.ops.ControlFlow.{ControlFlow}
use Rattle.std.specs.declared.ops.ControlFlow.TheVariants.{Break, Continue}
use Rattle.history.specs.Image.{Image}
use Rattle.listing.specs.Text.{into_buffer}
use Rattle.turns.specs.Session.{Turn, turn_on}

-- how long the line is, whether reading goes on, tables and pages, the buffer
pub record TurnOutcome : Type 0 where
  pub size : ℕ
  pub goes_on : Bool
  pub store : Image
  pub buffer : List ℕ

-- a turn whose line goes into a buffer, as much of it as fits
unfoldable pub turn_into : Turn Image → List ℕ → TurnOutcome
turn_into r out = record { size = length r.line; goes_on = r.goes_on; store = r.store; buffer = into_buffer r.line out }

-- what the code tells: how long the line is; reading goes on after `Continue`, and ends after `Break`
abbrev pub size_told : ControlFlow ℕ ℕ → ℕ
size_told (Continue size) = size
size_told (Break size) = size

abbrev pub told_on : ControlFlow ℕ ℕ → Bool
told_on (Continue size) = true
told_on (Break size) = false

-- the outcome: what the code tells, and the tables, the pages and the buffer afterwards
abbrev pub turn_outcome : ControlFlow ℕ ℕ → List ℕ → List ℕ → List ℕ → TurnOutcome
turn_outcome r t p out = record { size = size_told r; goes_on = told_on r; store = record { tables = t; pages = p }; buffer = out }

-- A TURN ON BYTES, of any contents and lengths: the bytes read for the n-th call, tables t, pages p, a lent buffer
abbrev pub line_on : List ℕ → ℕ → List ℕ → List ℕ → List ℕ → TurnOutcome
line_on bytes n t p out = turn_into (turn_on bytes n (record { tables = t; pages = p })) out
