-- The rows of accesses to the registers of the front panel, by computing their definitions. Assumes nothing.
use mathlib.Core.Path.{refl}
use Rattle.tables.specs.Panel.{answered, cause_of, command_of, commanded, line_of, no_register, panel_line_on, panel_read_on, panel_reset_on, panel_write_on, reset_values, shown, value_read, writable_bits, written}
use Rattle.tables.specs.PanelRows.{PanelRowsClaim, accesses, command_rows, panel_rows}

-- THEOREM
pub panel_rows_law : PanelRowsClaim
unfolding panel_rows command_rows accesses panel_reset_on panel_read_on panel_line_on panel_write_on commanded command_of answered cause_of shown written writable_bits reset_values value_read line_of no_register
panel_rows_law = record {
  accesses_hold = (refl, (refl, (refl, (refl, (refl, (refl, (refl, (refl, (refl, (refl, (refl, (refl, (refl, (refl, (refl, (refl, (refl, (refl, (refl, (refl, (refl, (refl, (refl, (refl, (refl, (refl, (refl, (refl, tt))))))))))))))))))))))))))));
  commands_hold = (refl, (refl, (refl, (refl, (refl, (refl, (refl, (refl, (refl, (refl, (refl, (refl, tt))))))))))));
}
