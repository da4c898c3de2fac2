-- THE FRONT PANEL IN LISTS OF EVENTS. Document 02, Ask 6: what its registers show from reset on, and that its accesses count as the calls that they run.
use Rattle.std.specs.Prelude.{◌&&◌, Bool, cond, false, not, true, ◌||◌, ◌++◌, List, ◌∷◌, [], ◌≡◌, ◌%◌, ◌*◌, ◌+◌, ◌<◌, ℕ, ◌≤◌, eqb, ltb, get_or, length}
use Rattle.std.proofs.Math.Option.{Option, none, some}
use Rattle.base.specs.Logic.{digit}
use Rattle.base.specs.Update.{upd}
use Rattle.history.specs.Events.{Event, check, check_blocks, compact, convert, current, event_on, events_on, gave_all, list_of, listed, listed_all, panel_line, panel_read, panel_reset, panel_write, runs, runs_all, set_term}
use Rattle.history.specs.Image.{Held, Image, gave}
use Rattle.packing.specs.Bitmap.{is_one}
use Rattle.packing.specs.Bits.{bit}
use Rattle.rules.specs.Numbers.{Answer, Call, no_counts}
use Rattle.tables.specs.Panel.{cause_offset, command_offset, first_offset, mask_offset, number_offset, other_offset, register_count, second_offset, shown, third_offset}

-- ---- what was done to the panel since a reset, in document 02's words

pub record Since : Type 0 where
  -- what "the last command run" gave: its number and "that command's three counts"; 0 and zeros where none ran
  pub last : Answer
  -- bits 0, 1 and 2 of the cause: whether each was added and not cleared since
  pub accepted : Bool
  pub refused : Bool
  pub marked : Bool
  -- the value last written to each other offset; 0 where none was
  pub values : ℕ → ℕ

-- "All registers reset to 0."
abbrev pub just_reset : Since
just_reset = record { last = no_counts; accepted = false; refused = false; marked = false; values = λ k. 0 }

-- a command ran and gave a: it "adds to the cause bit 0 when accepted, bit 1 when refused, bit 2 when its third count is not 0"
abbrev pub ran_command : Answer → Since → Since
ran_command a x = record {
  last = a;
  accepted = x.accepted || eqb a.number 0;
  refused = x.refused || not (eqb a.number 0);
  marked = x.marked || not (eqb a.third 0);
  values = x.values;
}

-- "any other value runs nothing, sets cause bit 1 and leaves the other registers"
abbrev pub ran_nothing : Since → Since
ran_nothing x = record { last = x.last; accepted = x.accepted; refused = true; marked = x.marked; values = x.values }

-- a value written to the command register, which ran a call, or nothing, on the image m
abbrev pub command_given : Option Call → Image → Since → Since
command_given none m x = ran_nothing x
command_given (some c) m x = ran_command (gave c m).answer x

-- "writing ones to the cause clears those bits"
abbrev pub cleared_by : ℕ → Since → Since
cleared_by value x = record {
  last = x.last;
  accepted = x.accepted && not (is_one (bit value 0));
  refused = x.refused && not (is_one (bit value 1));
  marked = x.marked && not (is_one (bit value 2));
  values = x.values;
}

-- a value written to another offset
abbrev pub wrote_at : ℕ → ℕ → Since → Since
wrote_at offset value x = record { last = x.last; accepted = x.accepted; refused = x.refused; marked = x.marked; values = upd x.values offset value }

-- after an event; of the panel's calls a write of one of the sixteen registers, or a reset, alone does something. A direct call is no command.
abbrev pub since_after : Event → Held → Since → Since
since_after (listed c) h x = x
since_after check_blocks h x = x
since_after check h x = x
since_after panel_reset h x = just_reset
since_after (panel_read offset) h x = x
since_after (panel_write offset value) h x =
    cond (ltb 15 offset) x
    (cond (eqb offset command_offset) (command_given (runs (panel_write offset value) h) h.image x)
    (cond (eqb offset cause_offset) (cleared_by value x) (wrote_at offset value x)))
since_after panel_line h x = x
since_after (set_term s y m d k) h x = x
since_after (current s day) h x = x
since_after (convert old second) h x = x
since_after (compact spare free) h x = x

unfoldable pub since_of : List Event → Held → Since → Since
since_of [] h x = x
since_of (e ∷ es) h x = since_of es (event_on e h) (since_after e h x)

-- registers after a reset and any list of events: each of the sixteen shows what was done since
pub record FromReset (x : Since) (r : List ℕ) : Type 0 where
  -- "sixteen byte-wide registers"
  pub sixteen : length r ≡ register_count
  pub bytes : (k : ℕ) → k < register_count → get_or r k 0 < 256
  -- the command is not kept
  pub command : get_or r command_offset 0 ≡ 0
  -- "Offset 1 is the number that the last command run returned"
  pub number : get_or r number_offset 0 ≡ x.last.number
  -- the cause; "its bits 3 to 7 are 0 from reset on"
  pub cause : get_or r cause_offset 0 ≡ digit x.accepted + 2 * digit x.refused + 4 * digit x.marked
  pub cause_low : get_or r cause_offset 0 < 8
  -- "3 the interrupt mask, 4 set, 5 file, 6 other", "fully writable": the value last written, a byte
  pub writable : (k : ℕ) → mask_offset ≤ k → k ≤ other_offset → get_or r k 0 ≡ x.values k % 256
  -- "7 to 9 that command's three counts"
  pub first : get_or r first_offset 0 ≡ shown x.last.first
  pub second : get_or r second_offset 0 ≡ shown x.last.second
  pub third : get_or r third_offset 0 ≡ shown x.last.third
  -- "10 to 15 zero"
  pub zeros : (k : ℕ) → 10 ≤ k → k < register_count → get_or r k 0 ≡ 0

-- of any tables and pages, and any sixteen bytes before the reset
abbrev pub FromResetClaim : Type 0
FromResetClaim =
    (h : Held) → length h.registers ≡ register_count → (es : List Event)
    → FromReset (since_of (panel_reset ∷ es) h just_reset) (events_on (panel_reset ∷ es) h).registers

-- what an event does directly: the call of the ten that it runs, if any; the setting of a term and a compaction are themselves, since they run none and change bytes
abbrev pub directly : Event → Held → List Event
directly (listed c) h = listed c ∷ []
directly check_blocks h = []
directly check h = []
directly panel_reset h = []
directly (panel_read offset) h = []
directly (panel_write offset value) h = listed_all (list_of (runs (panel_write offset value) h))
directly panel_line h = []
directly (set_term s y m d k) h = set_term s y m d k ∷ []
directly (current s day) h = []
directly (convert old second) h = []
directly (compact spare free) h = compact spare free ∷ []

unfoldable pub directly_all : List Event → Held → List Event
directly_all [] h = []
directly_all (e ∷ es) h = directly e h ++ directly_all es (event_on e h)

-- "Sequences through the panel count as the calls they run": byte for byte, any list of events, direct calls among them, leaves the tables and pages that the calls
-- that it runs, the terms that it sets and its compactions, each leaving the same in what is free, leave when they are made directly; these run the same calls and give the
-- same. Of any bytes: no format is needed.
abbrev pub CountsClaim : Type 0
CountsClaim =
    (h : Held) (es : List Event) → let direct : List Event = directly_all es h in
    ((events_on es h).image ≡ (events_on direct h).image) × (gave_all es h ≡ gave_all direct h) × (runs_all es h ≡ runs_all direct h)
