-- Tables and pages, byte by byte, and one call on them, by the definition `call_on` that the contracts of the exported functions cite. Nothing is asked of the numbers
-- that they hold: what is claimed of all lists holds of bytes.
use Rattle.std.specs.Prelude.{List, ℕ}
use Rattle.rules.specs.Agreement.{Given, front}
use Rattle.rules.specs.Calls.{Store}
use Rattle.rules.specs.Numbers.{Call}
use Rattle.rules.specs.Storage.{real}
use Rattle.tables.specs.Calls.{Outcome, call_on, store_of}
use Rattle.tables.specs.Panel.{PanelOutcome}

pub record Image : Type 0 where
  pub tables : List ℕ
  pub pages : List ℕ

-- the store that an image holds
abbrev pub store_in : Image → Store real
store_in m = store_of m.tables m.pages

-- the image that an outcome leaves
abbrev pub image_left : Outcome → Image
image_left o = record { tables = o.tables; pages = o.pages }

-- the image after a call
abbrev pub after : Call → Image → Image
after c m = image_left (call_on c m.tables m.pages)

-- what a call gave: its answer and, of a read, the bytes at the buffer's front
abbrev pub gave : Call → Image → Given
gave c m = let o : Outcome = call_on c m.tables m.pages in record { answer = o.answer; bytes = front c o.answer o.buffer }

-- what a list of events is lent: tables and pages, and the registers of the front panel (document 02, Ask 6), one page of them through the whole list
pub record Held : Type 0 where
  pub image : Image
  pub registers : List ℕ

-- other tables and pages, the same registers; the other way round
abbrev pub with_image : Image → Held → Held
with_image m h = record { image = m; registers = h.registers }

abbrev pub with_registers : List ℕ → Held → Held
with_registers r h = record { image = h.image; registers = r }

-- what a write to a register leaves
abbrev pub held_left : PanelOutcome → Held
held_left o = record { image = record { tables = o.tables; pages = o.pages }; registers = o.registers }
