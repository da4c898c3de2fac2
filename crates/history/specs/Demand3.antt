-- DEMAND 3: one claim about the whole list of events. Document 01, "Demand 3".
--
-- For all tables and pages whose lengths a format accepts, whatever they hold, all bytes as registers of the front panel, and every list of events (the ten calls
-- with any arguments, refused ones included, and the calls added since, which run one of the ten or none), run from their format on, tables, pages and registers
-- handed from one to the next as bytes, by the definitions that the contracts of the exported functions cite (`call_on`, and those of the added calls):
-- the tables are well formed; sets, presence, sizes and bytes by reading are the plain store's; states, sizes, kinds and free blocks are the tally's; and
-- every answer of the ten, its number and all three counts, with the bytes of every read, is the one that plain store and tally give, fed the arguments of the
-- calls that the events ran, alone. What an added call answers is said by its contract.
-- So accepted are exactly the calls to which no refusal applies, judged on these two.
-- And at every place in the list a file becomes marked exactly when a needed copy for it finds no free block beyond the writer's own need, or it still depends
-- on a file so marked, or its set is then made from one where it is marked: read off the bytes before and after.
-- And a command of the front panel shows in the registers what plain store and tally give to the call that it runs.
-- And past its size every own or virgin file reads as zeros, so that nothing shows when it grows.
-- A compaction in the list (document 02, Ask 9) runs none of the ten, and may leave anything in free pages.
--
-- The numbers of the fields are those of docs/PROMISES.md, "Demand 3, in plain words".
use Rattle.std.specs.Prelude.{false, true, ◌++◌, List, ◌∷◌, [], ◌↔◌, ◌≡◌, ◌/◌, ℕ, length}
use Rattle.std.proofs.Math.Option.{Option, none, some}
use Rattle.history.specs.Events.{Event, event_on, events_on, gave_all, panel_write, runs, runs_all}
use Rattle.history.specs.Image.{Held, Image, after, gave, store_in}
use Rattle.rules.specs.Agreement.{AgreesPlain, AgreesTally, ZeroPast, both_give, both_given, both_run, tally_in}
use Rattle.rules.specs.Marking.{BecomesMarked}
use Rattle.rules.specs.Numbers.{Call, format, no_counts}
use Rattle.rules.specs.Plain.{Plain, plain_format}
use Rattle.rules.specs.State.{is_marked, page_bytes}
use Rattle.rules.specs.Tally.{Both, Tally, tally_format}
use Rattle.tables.specs.Calls.{format_lengths}
use Rattle.tables.specs.Packed.{well_formed}
use Rattle.tables.specs.Panel.{answered, entered}

-- what is held after the format of m, with registers r
abbrev pub formatted_of : Image → List ℕ → Held
formatted_of m r = record { image = after format m; registers = r }

-- B, by the length of the pages
abbrev pub blocks_of : Held → ℕ
blocks_of h = length h.image.pages / page_bytes

-- why file f of set s becomes marked in an event that runs this call: the call is accepted, and there is a reason by what the tables before it hold. An event that
-- runs none marks nothing
abbrev pub MarkedBy : Option Call → Image → ℕ → ℕ → Type 0
MarkedBy none m f s = ⊥
MarkedBy (some c) m f s = ((gave c m).answer.number ≡ 0) × BecomesMarked (tally_in (store_in m)) c f s

-- a file that is not marked in m is marked in m' exactly when there is a reason
abbrev pub MarksRightly : Image → Option Call → Image → Type 0
MarksRightly m o m' = (f s : ℕ) → is_marked ((store_in m).files f s).state ≡ false → (is_marked ((store_in m').files f s).state ≡ true) ↔ MarkedBy o m f s

-- at every place in a list of events, run from h on
abbrev pub MarksThroughout : Held → List Event → Type 0
MarksThroughout h es =
    (before rest : List Event) (e : Event) → es ≡ before ++ (e ∷ rest)
    → let here : Held = events_on before h in MarksRightly here.image (runs e here) (event_on e here).image

-- at every place in a list of events, run from h on, where a write to a register runs a call: the registers then show what plain store and tally, which begin as
-- pl and ta, give to that call
abbrev pub ShowsThroughout : Held → Plain → Tally → List Event → Type 0
ShowsThroughout h pl ta es =
    (before rest : List Event) (offset value : ℕ) (c : Call) → es ≡ before ++ (panel_write offset value ∷ rest)
    → let here : Held = events_on before h in let both : Both = both_run (blocks_of h) (runs_all before h) pl ta in
    runs (panel_write offset value) here ≡ some c
    → (event_on (panel_write offset value) here).registers ≡ answered (both_give (blocks_of h) c both.plain both.tally).answer (entered offset value here.registers)

-- WHAT HOLDS OF A LIST of events, run from h on, beside a plain store and a tally that begin as pl and ta and are fed the calls that the events run
pub record Follows (h : Held) (pl : Plain) (ta : Tally) (es : List Event) : Type 0 where
  -- 1. the tables are well formed
  pub formed : let m : Image = (events_on es h).image in well_formed m.tables (length m.pages) ≡ true
  -- 2, 3. sets, presence, sizes and bytes by reading are those of the plain store
  pub plain : AgreesPlain (store_in (events_on es h).image) (both_run (blocks_of h) (runs_all es h) pl ta).plain
  -- 4, 5. the number and counts of every call of the ten that was run, and the bytes of every read, are those that plain store and tally give
  pub given : gave_all es h ≡ both_given (blocks_of h) (runs_all es h) pl ta
  -- 6. states, sizes, kinds and free blocks are the tally's
  pub tally : AgreesTally (store_in (events_on es h).image) (both_run (blocks_of h) (runs_all es h) pl ta).tally
  -- 7. at every place in the list, what becomes marked
  pub marks : MarksThroughout h es
  -- 8. at every place in the list, what a command of the front panel shows in the registers
  pub shows : ShowsThroughout h pl ta es
  -- 9. past its size an own or virgin file reads as zeros
  pub past : ZeroPast (store_in (events_on es h).image)

-- THE CLAIM: from the format of m on, with registers r
pub record Demand3 (m : Image) (r : List ℕ) (es : List Event) : Type 0 where
  -- the format is accepted
  pub begins : gave format m ≡ record { answer = no_counts; bytes = [] }
  pub follows : Follows (formatted_of m r) plain_format (tally_format (length m.pages / page_bytes)) es

-- DEMAND 3, whole: all tables and pages of lengths that a format accepts, all registers of any length, and all lists of events
abbrev pub Demand3Claim : Type 0
Demand3Claim = (m : Image) → format_lengths (length m.tables) (length m.pages) ≡ true → (r : List ℕ) (es : List Event) → Demand3 m r es
