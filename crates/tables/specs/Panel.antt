-- The register page of the front panel: its four calls on bytes. Document 02, Ask 6.
--
-- Every definition says what is done with any list of bytes as registers, of any length. What document 02 says "from reset on" is no premise here: it is claimed of
-- every list of events in history/specs/Panel.
use Rattle.std.specs.Prelude.{Bool, cond, false, not, true, ◌||◌, List, ◌∷◌, [], ◌⊎◌, ◌≡◌, ◌+◌, ◌-◌, ◌<◌, min, ℕ, ◌≤◌, eqb, ltb, get_or, length, set}
use Rattle.std.proofs.Math.Option.{Option, none, some}
use Rattle.std.specs.Int.Bits.{bit_and, bit_or}
use Rattle.rules.specs.Numbers.{Answer, Call, create, delete, make, no_counts, refusal, remove}
use Rattle.tables.specs.Calls.{Outcome}

-- ---- the registers

-- "sixteen byte-wide registers, offsets 0 to 15"
abbrev pub register_count : ℕ
register_count = 16

-- "Offset 0 is the command"; "Offset 1 is the number that the last command run returned, 2 the cause, 3 the interrupt mask, 4 set, 5 file, 6 other, 7 to 9 that
-- command's three counts, 10 to 15 zero."
abbrev pub command_offset : ℕ
command_offset = 0

abbrev pub number_offset : ℕ
number_offset = 1

abbrev pub cause_offset : ℕ
cause_offset = 2

abbrev pub mask_offset : ℕ
mask_offset = 3

abbrev pub set_offset : ℕ
set_offset = 4

abbrev pub file_offset : ℕ
file_offset = 5

abbrev pub other_offset : ℕ
other_offset = 6

abbrev pub first_offset : ℕ
first_offset = 7

abbrev pub second_offset : ℕ
second_offset = 8

abbrev pub third_offset : ℕ
third_offset = 9

-- THE TABLE, by offset: "A table gives each register's reset value and its writable bits." The writable bits of the cause are the three that ones clear; those of
-- the command are none: what is written there is run, not kept.
unfoldable pub reset_values : List ℕ
reset_values = 0 ∷ 0 ∷ 0 ∷ 0 ∷ 0 ∷ 0 ∷ 0 ∷ 0 ∷ 0 ∷ 0 ∷ 0 ∷ 0 ∷ 0 ∷ 0 ∷ 0 ∷ 0 ∷ []

unfoldable pub writable_bits : List ℕ
writable_bits = 0 ∷ 0 ∷ 7 ∷ 255 ∷ 255 ∷ 255 ∷ 255 ∷ 0 ∷ 0 ∷ 0 ∷ 0 ∷ 0 ∷ 0 ∷ 0 ∷ 0 ∷ 0 ∷ []

-- "It refuses an offset over 15, or registers of another length, with 13, checked before anything else"
unfoldable pub no_register : ℕ → List ℕ → Bool
no_register offset r = not (eqb (length r) register_count) || ltb 15 offset

-- ---- what a call of the panel leaves: its answer, the registers, the tables and the pages. Reset, read and line are lent no tables and no pages: theirs are empty
-- lists that nobody uses.

pub record PanelOutcome : Type 0 where
  pub answer : Answer
  pub registers : List ℕ
  pub tables : List ℕ
  pub pages : List ℕ

abbrev pub panel_left : Answer → List ℕ → List ℕ → List ℕ → PanelOutcome
panel_left a r t p = record { answer = a; registers = r; tables = t; pages = p }

-- a value "as the first count"
abbrev pub value_given : ℕ → Answer
value_given n = record { number = 0; first = n; second = 0; third = 0 }

-- A RESET, whatever the registers held: "All registers reset to 0." Reset and line have no offset: they refuse only registers of another length.
unfoldable pub panel_reset_on : List ℕ → PanelOutcome
panel_reset_on r = cond (no_register 0 r) (panel_left (refusal 13) r [] []) (panel_left no_counts reset_values [] [])

-- A READ: "A read gives the value as the first count". The command register "reads as 0", whatever byte stands there: it holds nothing, and the table gives the
-- value that it has at reset.
unfoldable pub value_read : ℕ → List ℕ → ℕ
value_read offset r = cond (eqb offset command_offset) (get_or reset_values offset 0) (get_or r offset 0)

unfoldable pub panel_read_on : ℕ → List ℕ → PanelOutcome
panel_read_on offset r = cond (no_register offset r) (panel_left (refusal 13) r [] []) (panel_left (value_given (value_read offset r)) r [] [])

-- THE LINE: "Asking for the line gives 1 as the first count exactly when cause and mask share a one, else 0."
unfoldable pub line_of : ℕ → ℕ → ℕ
line_of cause mask = cond (eqb (bit_and cause mask) 0) 0 1

unfoldable pub panel_line_on : List ℕ → PanelOutcome
panel_line_on r =
    cond (no_register 0 r) (panel_left (refusal 13) r [] []) (panel_left (value_given (line_of (get_or r cause_offset 0) (get_or r mask_offset 0))) r [] [])

-- ---- A WRITE

-- the byte of a register after a write: its writable bits alone change, and "writing ones to the cause clears those bits"
unfoldable pub written : ℕ → ℕ → ℕ → ℕ
written offset old value =
    let mask : ℕ = get_or writable_bits offset 0 in
    cond (eqb offset cause_offset) (bit_and old (255 - bit_and value mask)) (bit_or (bit_and old (255 - mask)) (bit_and value mask))

-- the registers with that byte
abbrev pub entered : ℕ → ℕ → List ℕ → List ℕ
entered offset value r = set r offset (written offset (get_or r offset 0) value)

-- "a session op 1, 4, 5, 6 or 7", with set, file and other: "1 create", "4 delete, 5 make read-only set `other` from set, 6 same, writeable, 7 remove".
-- "Registers that the op does not use are ignored". That a session makes the same calls of these ops is the law `op_same` of decoding/proofs/Commands.
unfoldable pub command_of : ℕ → ℕ → ℕ → ℕ → Option Call
command_of op s f o =
    cond (eqb op 1) (some (create s f))
    (cond (eqb op 4) (some (delete s f))
    (cond (eqb op 5) (some (make s o false))
    (cond (eqb op 6) (some (make s o true))
    (cond (eqb op 7) (some (remove s)) none))))

-- the command that a value is, with these registers
abbrev pub command_in : ℕ → List ℕ → Option Call
command_in op r = command_of op (get_or r set_offset 0) (get_or r file_offset 0) (get_or r other_offset 0)

-- "Counts over 255 show as 255."
unfoldable pub shown : ℕ → ℕ
shown n = min n 255

-- "A command that runs adds to the cause bit 0 when accepted, bit 1 when refused, bit 2 when its third count is not 0". Bit 0 is the lowest: they are 1, 2 and 4.
unfoldable pub cause_of : Answer → ℕ
cause_of a = cond (eqb a.number 0) 1 2 + cond (eqb a.third 0) 0 4

abbrev pub cause_added : ℕ → List ℕ → List ℕ
cause_added bits r = set r cause_offset (bit_or (get_or r cause_offset 0) bits)

-- after a command that ran and was answered a: "Offset 1 is the number that the last command run returned", "7 to 9 that command's three counts"
unfoldable pub answered : Answer → List ℕ → List ℕ
answered a r =
    set (set (set (set (cause_added (cause_of a) r) number_offset a.number) first_offset (shown a.first)) second_offset (shown a.second)) third_offset (shown a.third)

-- how a call is run on tables and pages: in the contracts of the exported functions and in histories it is `call_on`
abbrev pub Runner : Type 0
Runner = Call → List ℕ → List ℕ → Outcome

-- a value written to the command register: "run when written; any other value runs nothing, sets cause bit 1 and leaves the other registers"; "a write gives 0 and
-- zeros, even where its command is refused"
unfoldable pub commanded : Runner → Option Call → List ℕ → List ℕ → List ℕ → PanelOutcome
commanded run none r t p = panel_left no_counts (cause_added 2 r) t p
commanded run (some c) r t p = let o : Outcome = run c t p in panel_left no_counts (answered o.answer r) o.tables o.pages

-- A WRITE: the value is entered by the table at every offset, and at the command's it is run; "only a command looks at the store". Refused it leaves "registers and
-- store as they were".
unfoldable pub panel_write_on : Runner → ℕ → ℕ → List ℕ → List ℕ → List ℕ → PanelOutcome
panel_write_on run offset value r t p =
    let r' : List ℕ = entered offset value r in
    cond (no_register offset r) (panel_left (refusal 13) r t p)
    (cond (eqb offset command_offset) (commanded run (command_in value r) r' t p) (panel_left no_counts r' t p))

-- the call that a write runs, if any
unfoldable pub call_run : ℕ → ℕ → List ℕ → Option Call
call_run offset value r = cond (no_register offset r) none (cond (eqb offset command_offset) (command_in value r) none)

-- ---- THE TABLE says what document 02 says, of the register at offset k that holds the byte `old` and is written the byte `value`
pub record TableSays (k old value : ℕ) : Type 0 where
  -- "All registers reset to 0."
  pub resets : get_or reset_values k 0 ≡ 0
  -- "Offsets 3 to 6 are fully writable"
  pub full : 3 ≤ k → k ≤ 6 → written k old value ≡ value
  -- "1 and 7 to 15 ignore writes"; of what is written to the command register nothing is kept either
  pub ignores : (k ≤ 1) ⊎ (7 ≤ k) → written k old value ≡ old
  -- "writing ones to the cause clears those bits", where "its bits 3 to 7 are 0"
  pub clears : k ≡ cause_offset → old < 8 → written k old value ≡ bit_and old (255 - value)

-- sixteen reset values, sixteen masks, and at every offset what document 02 says
abbrev pub PanelTableClaim : Type 0
PanelTableClaim =
    (length reset_values ≡ register_count) × (length writable_bits ≡ register_count)
    × ((k old value : ℕ) → k < register_count → old < 256 → value < 256 → TableSays k old value)
