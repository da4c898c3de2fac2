-- What the code's structs and enums mean: the entries, states and set records of document 01.
use Rattle.std.specs.Prelude.{cond, ℕ, ltb}
use Rattle.rules.specs.State
use Rattle.rules.specs.State.{unmapped, hole, stored, absent, own, virgin, marked}
use Rattle.tables.specs.declared.entries.Entry.{Entry}
use Rattle.tables.specs.declared.entries.Entry.TheVariants.{Unmapped, Hole, Stored}
use Rattle.tables.specs.declared.entries.Kept.{Kept}
use Rattle.tables.specs.declared.entries.Pending.{Pending}
use Rattle.tables.specs.declared.files.State.{State as CodeState}
use Rattle.tables.specs.declared.files.State.TheVariants.{Absent, Own, Virgin, Marked}
use Rattle.tables.specs.declared.sets.SetRecord.{SetRecord}
use Rattle.dates.specs.Days.{term_meant}
use Rattle.tables.specs.Layout.{read_entry}

unfoldable pub entry_meant : Entry → State.Entry ℕ
entry_meant Unmapped = unmapped
entry_meant Hole = hole
entry_meant (Stored b) = stored b.0

-- an entry that is kept is a word of a map
unfoldable pub kept_meant : Kept → State.Entry ℕ
kept_meant k = read_entry k.0

-- a number from 16,384 on means that no block is pending
abbrev pub pending_in : ℕ → State.Entry ℕ
pending_in n = cond (ltb n 16384) (stored n) unmapped

unfoldable pub pending_meant : Pending → State.Entry ℕ
pending_meant b = pending_in b.0

unfoldable pub state_meant : CodeState → State.State
state_meant Absent = absent
state_meant Own = own
state_meant Virgin = virgin
state_meant Marked = marked

abbrev pub set_meant : SetRecord → State.SetRecord
set_meant r = record { used = r.used; writeable = r.writeable; level = r.level; parent = r.parent; first_child = r.first_child; next_sibling = r.next_sibling; term = term_meant r.term }
