-- THE CLAIMS, closed: every quantifier and every hypothesis stands in definitions, and one theorem (`proofs/Claims`: `claims`) proves them all.
use Rattle.std.specs.Prelude.{true, List, ◌≡◌, length}
use Rattle.history.specs.Compaction.{CompactionClaim, CompactionRefusedClaim}
use Rattle.history.specs.Conversion.{ConversionClaim, EveryStoreClaim, GoesOnClaim, NewAlreadyClaim}
use Rattle.history.specs.Demand3.{Demand3Claim, MarksThroughout}
use Rattle.history.specs.Events.{Event, events_on, listed_all, runs_all}
use Rattle.history.specs.Image.{Held, Image}
use Rattle.history.specs.Others.{OthersClaim}
use Rattle.history.specs.Panel.{CountsClaim, FromResetClaim}
use Rattle.history.specs.Room.{RoomClaim}
use Rattle.history.specs.Terms.{TermSetClaim}
use Rattle.packing.specs.Words.{Bytes}
use Rattle.rules.specs.Numbers.{Call}
use Rattle.rules.specs.Rows.{RowsClaim}
use Rattle.rules.specs.TermClaims.{TermsClaim}
use Rattle.tables.specs.Checks.{BlocksAloneClaim}
use Rattle.tables.specs.OneReading.{OneReadingClaim}
use Rattle.tables.specs.Packed.{well_formed}
use Rattle.tables.specs.Panel.{PanelTableClaim}
use Rattle.tables.specs.PanelRows.{PanelRowsClaim}
use Rattle.tables.specs.Terms.{TermNumbersClaim}

-- ANY WELL-FORMED BYTES, whoever made them, any registers, and all lists of events: the bytes stay well formed, and what becomes marked is as in demand 3
abbrev pub FormedClaim : Type 0
FormedClaim =
    (h : Held) → Bytes h.image.tables → well_formed h.image.tables (length h.image.pages) ≡ true → (es : List Event)
    → (let m : Image = (events_on es h).image in well_formed m.tables (length m.pages) ≡ true) × MarksThroughout h es

pub record Claims : Type 0 where
  pub one_reading : OneReadingClaim
  pub demand3 : Demand3Claim
  -- where the list holds calls of the ten only, plain store and tally are fed exactly that list
  pub listed : (cs : List Call) (h : Held) → runs_all (listed_all cs) h ≡ cs
  pub formed : FormedClaim
  -- document 02, Ask 2: what a delete or a truncate leaves of other files
  pub others : OthersClaim
  -- document 02, Ask 4: the first part of the check sees nothing else
  pub blocks_alone : BlocksAloneClaim
  -- document 02, Ask 6: the table of the registers and rows of accesses; what holds from reset on; sequences through the panel count as the calls that they run
  pub panel_table : PanelTableClaim
  pub panel_rows_law : PanelRowsClaim
  pub from_reset : FromResetClaim
  pub counts : CountsClaim
  -- document 02, Ask 7: how much room a write can take
  pub room : RoomClaim
  pub rows : RowsClaim
  -- document 02, Ask 8: dates and terms; the numbers of setting a term, and what it leaves; a store that agrees with plain store and tally goes on under demand 3; conversion keeps the history
  pub terms : TermsClaim
  pub term_numbers : TermNumbersClaim
  pub term_set_law : TermSetClaim
  pub goes_on : GoesOnClaim
  pub conversion : ConversionClaim
  pub every_store : EveryStoreClaim
  -- document 02, Ask 9: what a compaction does and leaves, and when it is refused
  pub compaction : CompactionClaim
  pub compaction_refused : CompactionRefusedClaim
  -- document 02, Ask 10: tables that are new already come out of a conversion as they are (that it clears the marked files of older ones is said by `conversion`)
  pub new_already : NewAlreadyClaim
