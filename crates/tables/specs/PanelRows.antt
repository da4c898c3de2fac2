-- Rows of accesses to the registers of the front panel, worked out by hand from document 02, Ask 6, in one table; and which call each value is.
use Rattle.std.specs.Prelude.{false, true, List, ◌∷◌, [], ◌≡◌, ℕ, replicate}
use Rattle.std.proofs.Math.Option.{Option, none, some}
use Rattle.rules.specs.Numbers.{Answer, Call, create, delete, make, no_counts, refusal, remove}
use Rattle.rules.specs.Rows.{gives}
use Rattle.tables.specs.Panel.{PanelOutcome, Runner, command_in, panel_left, panel_line_on, panel_read_on, panel_reset_on, panel_write_on}

-- an access. What a command gives is named with it (`commands`), or is 0 and zeros (`writes`); it leaves the store alone.
pub data Access : Type 0 where
  resets : Access
  reads : ℕ → Access
  writes : ℕ → ℕ → Access
  commands : ℕ → Answer → Access
  line : Access

abbrev pub giving : Answer → Runner
giving a c t p = record { answer = a; tables = t; pages = p; buffer = [] }

abbrev pub access : Access → List ℕ → PanelOutcome
access resets r = panel_reset_on r
access (reads offset) r = panel_read_on offset r
access (writes offset value) r = panel_write_on (giving no_counts) offset value r [] []
access (commands value a) r = panel_write_on (giving a) 0 value r [] []
access line r = panel_line_on r

unfoldable pub accesses : List Access → PanelOutcome → PanelOutcome
accesses [] o = o
accesses (x ∷ xs) o = accesses xs (access x o.registers)

-- registers, accesses, the answer to the last of them, and the registers afterwards
pub record PanelRow : Type 0 where
  pub before : List ℕ
  pub does : List Access
  pub answers : Answer
  pub after : List ℕ

-- registers whose offsets 0 and 10 to 15 are 0: number, cause, mask, set, file, other, the three counts
abbrev pub page : ℕ → ℕ → ℕ → ℕ → ℕ → ℕ → ℕ → ℕ → ℕ → List ℕ
page number cause mask s f o first second third =
    0 ∷ number ∷ cause ∷ mask ∷ s ∷ f ∷ o ∷ first ∷ second ∷ third ∷ 0 ∷ 0 ∷ 0 ∷ 0 ∷ 0 ∷ 0 ∷ []

abbrev pub blank_page : List ℕ
blank_page = page 0 0 0 0 0 0 0 0 0

-- bytes that no reset made
abbrev pub strange : List ℕ
strange = 171 ∷ 172 ∷ 240 ∷ 128 ∷ 200 ∷ 16 ∷ 129 ∷ 77 ∷ 78 ∷ 79 ∷ 80 ∷ 81 ∷ 82 ∷ 83 ∷ 84 ∷ 85 ∷ []

unfoldable pub panel_rows : List PanelRow
panel_rows =
    -- "All registers reset to 0."
    record { before = strange; does = resets ∷ []; answers = no_counts; after = blank_page }
    -- "registers of another length, with 13"
    ∷ record { before = replicate 15 7; does = resets ∷ []; answers = refusal 13; after = replicate 15 7 }
    ∷ record { before = replicate 17 7; does = line ∷ []; answers = refusal 13; after = replicate 17 7 }
    ∷ record { before = []; does = writes 0 1 ∷ []; answers = refusal 13; after = [] }
    -- "an offset over 15"
    ∷ record { before = strange; does = reads 15 ∷ []; answers = gives 0 85 0 0; after = strange }
    ∷ record { before = blank_page; does = reads 16 ∷ []; answers = refusal 13; after = blank_page }
    ∷ record { before = blank_page; does = writes 16 1 ∷ []; answers = refusal 13; after = blank_page }
    -- "A read gives the value as the first count"; the command "reads as 0"
    ∷ record { before = strange; does = reads 9 ∷ []; answers = gives 0 79 0 0; after = strange }
    ∷ record { before = strange; does = reads 0 ∷ []; answers = no_counts; after = strange }
    ∷ record { before = blank_page; does = writes 0 1 ∷ reads 0 ∷ []; answers = no_counts; after = page 0 1 0 0 0 0 0 0 0 }
    -- "Offsets 3 to 6 are fully writable; 1 and 7 to 15 ignore writes."
    ∷ record { before = page 0 0 1 2 3 4 0 0 0; does = writes 3 254 ∷ writes 4 200 ∷ writes 5 16 ∷ writes 6 129 ∷ []; answers = no_counts; after = page 0 0 254 200 16 129 0 0 0 }
    ∷ record { before = page 5 0 0 0 0 0 7 8 9; does = writes 1 255 ∷ writes 7 255 ∷ writes 8 255 ∷ writes 9 0 ∷ writes 10 255 ∷ writes 15 255 ∷ []; answers = no_counts; after = page 5 0 0 0 0 0 7 8 9 }
    -- "bit 0 when accepted, bit 1 when refused, bit 2 when its third count is not 0"; "the number that the last command run returned", "that command's three counts"
    ∷ record { before = blank_page; does = commands 4 (gives 0 0 3 0) ∷ []; answers = no_counts; after = page 0 1 0 0 0 0 0 3 0 }
    ∷ record { before = blank_page; does = commands 4 (gives 0 0 3 2) ∷ []; answers = no_counts; after = page 0 5 0 0 0 0 0 3 2 }
    -- a command leaves mask, set, file and other
    ∷ record { before = page 3 2 4 5 6 7 8 9 10; does = commands 4 (gives 0 0 3 0) ∷ []; answers = no_counts; after = page 0 3 4 5 6 7 0 3 0 }
    -- "a write gives 0 and zeros, even where its command is refused"
    ∷ record { before = blank_page; does = commands 1 (refusal 9) ∷ []; answers = no_counts; after = page 9 2 0 0 0 0 0 0 0 }
    -- "adds to the cause"; a refused command's counts are 0
    ∷ record { before = blank_page; does = commands 4 (gives 0 0 3 2) ∷ commands 4 (refusal 5) ∷ []; answers = no_counts; after = page 5 7 0 0 0 0 0 0 0 }
    -- "Counts over 255 show as 255."
    ∷ record { before = blank_page; does = commands 4 (gives 0 255 256 384) ∷ []; answers = no_counts; after = page 0 5 0 0 0 0 255 255 255 }
    -- "any other value runs nothing, sets cause bit 1 and leaves the other registers"
    ∷ record { before = page 3 1 4 5 6 7 8 9 10; does = commands 2 (gives 0 1 1 1) ∷ []; answers = no_counts; after = page 3 3 4 5 6 7 8 9 10 }
    ∷ record { before = page 3 0 4 5 6 7 8 9 10; does = commands 0 (gives 0 1 1 1) ∷ []; answers = no_counts; after = page 3 2 4 5 6 7 8 9 10 }
    -- "writing ones to the cause clears those bits"
    ∷ record { before = page 0 7 0 0 0 0 0 0 0; does = writes 2 5 ∷ []; answers = no_counts; after = page 0 2 0 0 0 0 0 0 0 }
    ∷ record { before = page 0 7 0 0 0 0 0 0 0; does = writes 2 0 ∷ writes 2 248 ∷ []; answers = no_counts; after = page 0 7 0 0 0 0 0 0 0 }
    ∷ record { before = page 0 2 0 0 0 0 0 0 0; does = writes 2 255 ∷ []; answers = no_counts; after = blank_page }
    -- bits 3 to 7 of the cause are 0 from reset on; ones do not clear them
    ∷ record { before = strange; does = writes 2 255 ∷ []; answers = no_counts; after = strange }
    -- "1 as the first count exactly when cause and mask share a one, else 0"
    ∷ record { before = page 0 2 5 0 0 0 0 0 0; does = line ∷ []; answers = no_counts; after = page 0 2 5 0 0 0 0 0 0 }
    ∷ record { before = page 0 6 4 0 0 0 0 0 0; does = line ∷ []; answers = gives 0 1 0 0; after = page 0 6 4 0 0 0 0 0 0 }
    ∷ record { before = page 0 0 255 0 0 0 0 0 0; does = line ∷ []; answers = no_counts; after = page 0 0 255 0 0 0 0 0 0 }
    ∷ record { before = strange; does = line ∷ []; answers = gives 0 1 0 0; after = strange }
    ∷ []

-- the call that a value written to the command register is, where set, file and other are 200, 16 and 129: whole bytes, which the call itself refuses
unfoldable pub command_rows : List (ℕ × Option Call)
command_rows =
    (1, some (create 200 16)) ∷ (4, some (delete 200 16)) ∷ (5, some (make 200 129 false)) ∷ (6, some (make 200 129 true)) ∷ (7, some (remove 200))
    ∷ (0, none) ∷ (2, none) ∷ (3, none) ∷ (8, none) ∷ (17, none) ∷ (65, none) ∷ (255, none) ∷ []

abbrev pub AllAccesses : List PanelRow → Type 0
AllAccesses [] = Unit {0}
AllAccesses (x ∷ xs) = (accesses x.does (panel_left no_counts x.before [] []) ≡ panel_left x.answers x.after [] []) × AllAccesses xs

abbrev pub AllCommands : List (ℕ × Option Call) → Type 0
AllCommands [] = Unit {0}
AllCommands (x ∷ xs) = (command_in x.0 strange ≡ x.1) × AllCommands xs

pub record PanelRowsClaim : Type 0 where
  pub accesses_hold : AllAccesses panel_rows
  pub commands_hold : AllCommands command_rows
