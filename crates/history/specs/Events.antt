-- WHAT MAY STAND IN A LIST: events. An event is lent tables, pages and registers and leaves tables, pages and registers; in doing so it runs one of the ten calls, or none.
-- "A call added later on these tables joins the list; for plain store and tally it is just the listed calls that it runs, if any." One that ran several would stand
-- in the list as that many events, one after another. How one is added: docs/ARCHITECTURE.md, "How to add a call".
use Rattle.std.specs.Prelude.{◌++◌, List, ◌∷◌, [], ℕ}
use Rattle.std.proofs.Math.Option.{Option, none, some}
use Rattle.compaction.specs.Call.{Free, compact_on}
use Rattle.history.specs.Image.{Held, Image, after, gave, held_left, image_left, with_image, with_registers}
use Rattle.rules.specs.Agreement.{Given}
use Rattle.rules.specs.Numbers.{Call}
use Rattle.tables.specs.Calls.{call_on}
use Rattle.tables.specs.Checks.{check_blocks_on, check_on}
use Rattle.tables.specs.Convert.{convert_on}
use Rattle.tables.specs.Panel.{call_run, panel_line_on, panel_read_on, panel_reset_on, panel_write_on}
use Rattle.tables.specs.Terms.{current_on, set_term_on}

pub data Event : Type 0 where
  -- one of the ten; each write by a group size of its own
  listed : Call → Event
  -- document 02, Ask 4: the first part of the check, which is lent no pages, and the whole check
  check_blocks : Event
  check : Event
  -- document 02, Ask 6: the calls of the front panel. A read has its offset, a write its offset and its value
  panel_reset : Event
  panel_read : ℕ → Event
  panel_write : ℕ → ℕ → Event
  panel_line : Event
  -- document 02, Ask 8: the term of a set is set, from year, month, day and count of months; whether a set is current on a day; any tables are converted into any
  -- second buffer, with the pages that are held, and no store changes
  set_term : ℕ → ℕ → ℕ → ℕ → ℕ → Event
  current : ℕ → ℕ → Event
  convert : List ℕ → List ℕ → Event
  -- document 02, Ask 9: a compaction has its spare page, and what free pages and spare page hold afterwards, which may be anything
  compact : List ℕ → Free → Event

-- an event on tables, pages and registers
abbrev pub event_on : Event → Held → Held
event_on (listed c) h = with_image (after c h.image) h
event_on check_blocks h = with_image (record { tables = (check_blocks_on h.image.tables).tables; pages = h.image.pages }) h
event_on check h = with_image (image_left (check_on h.image.tables h.image.pages)) h
event_on panel_reset h = with_registers (panel_reset_on h.registers).registers h
event_on (panel_read offset) h = with_registers (panel_read_on offset h.registers).registers h
event_on (panel_write offset value) h = held_left (panel_write_on call_on offset value h.registers h.image.tables h.image.pages)
event_on panel_line h = with_registers (panel_line_on h.registers).registers h
event_on (set_term s y m d k) h = with_image (image_left (set_term_on s y m d k h.image.tables h.image.pages)) h
event_on (current s day) h = with_image (image_left (current_on s day h.image.tables h.image.pages)) h
event_on (convert old second) h = with_image (record { tables = h.image.tables; pages = (convert_on old h.image.pages second).pages }) h
event_on (compact spare free) h = with_image (image_left (compact_on spare free h.image.tables h.image.pages)) h

-- the call of the ten that it runs there, if any: "Sequences through the panel count as the calls they run."
abbrev pub runs : Event → Held → Option Call
runs (listed c) h = some c
runs check_blocks h = none
runs check h = none
runs panel_reset h = none
runs (panel_read offset) h = none
runs (panel_write offset value) h = call_run offset value h.registers
runs panel_line h = none
runs (set_term s y m d k) h = none
runs (current s day) h = none
runs (convert old second) h = none
runs (compact spare free) h = none

-- a list of one or none
abbrev pub list_of : {A : Type 0} → Option A → List A
list_of none = []
list_of (some x) = x ∷ []

-- what that call gives on the tables and pages before the event; the event's own answer is left to its contract
abbrev pub gave_by : Option Call → Image → Option Given
gave_by none m = none
gave_by (some c) m = some (gave c m)

-- after a list of events; the calls that they ran; what these gave
unfoldable pub events_on : List Event → Held → Held
events_on [] h = h
events_on (e ∷ es) h = events_on es (event_on e h)

unfoldable pub runs_all : List Event → Held → List Call
runs_all [] h = []
runs_all (e ∷ es) h = list_of (runs e h) ++ runs_all es (event_on e h)

unfoldable pub gave_all : List Event → Held → List Given
gave_all [] h = []
gave_all (e ∷ es) h = list_of (gave_by (runs e h) h.image) ++ gave_all es (event_on e h)

-- a list of the ten alone
unfoldable pub listed_all : List Call → List Event
listed_all [] = []
listed_all (c ∷ cs) = listed c ∷ listed_all cs
