-- The claims. Assumes nothing.
use Rattle.history.proofs.Compaction.{compaction, compaction_refused}
use Rattle.history.proofs.Conversion.{conversion, every_store, goes_on, new_already}
use Rattle.history.proofs.Demand3.{demand3}
use Rattle.history.proofs.Events.{listed_run}
use Rattle.history.proofs.Formed.{formed_after, formed_marks}
use Rattle.history.proofs.FromReset.{from_reset}
use Rattle.history.proofs.Others.{others}
use Rattle.history.proofs.Panel.{counts}
use Rattle.history.proofs.Room.{room}
use Rattle.history.proofs.TermAside.{term_set_law}
use Rattle.history.specs.Claims.{Claims}
use Rattle.rules.proofs.Terms.Claims.{terms_claim}
use Rattle.rules.proofs.Whole.Rows.{rows_hold}
use Rattle.tables.proofs.BlocksAlone.{blocks_alone}
use Rattle.tables.proofs.OneReading.{one_reading}
use Rattle.tables.proofs.PanelRows.{panel_rows_law}
use Rattle.tables.proofs.Registers.{panel_table}
use Rattle.tables.proofs.TermCalls.{term_numbers}

-- THEOREM
pub claims : Claims
claims = record {
  one_reading = one_reading;
  demand3 = demand3;
  listed = listed_run;
  formed = λ h bs f es. (formed_after h bs f es, formed_marks h bs f es);
  others = others;
  blocks_alone = blocks_alone;
  panel_table = panel_table;
  panel_rows_law = panel_rows_law;
  from_reset = from_reset;
  counts = counts;
  room = room;
  rows = rows_hold;
  terms = terms_claim;
  term_numbers = term_numbers;
  term_set_law = term_set_law;
  goes_on = goes_on;
  conversion = conversion;
  every_store = every_store;
  compaction = compaction;
  compaction_refused = compaction_refused;
  new_already = new_already;
}
