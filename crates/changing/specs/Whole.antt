-- For the contracts of the code, not for a reader of document 01: a whole accepted call.
use Rattle.std.specs.Prelude.{List, ◌≡◌, ℕ}
use Rattle.rules.specs.Rules.{Work}
use Rattle.rules.specs.State.{Entry, unmapped}
use Rattle.rules.specs.Storage.{real}
use Rattle.tables.specs.Calls.{pages_of}
use Rattle.tables.specs.Packed.{unpack}
use Rattle.tables.specs.Views.{PackedTables}
use Rattle.copying.specs.Work.{Ready, rest, work}
use Rattle.changing.specs.declared.Totals.{Totals}
use Rattle.copying.specs.declared.giving.Counts.{Counts}

-- the counts that a call tells, and as counts of the work: the free blocks are no part of it
abbrev pub totals_of : Counts → Totals
totals_of k = record { taken = k.taken; copies = k.copies; marks = k.marks }

abbrev pub counts_of : Totals → Counts
counts_of r = record { taken = r.taken; copies = r.copies; marks = r.marks; left = 0 }

-- the counts that a call begins with
abbrev pub start_counts : Counts
start_counts = record { taken = 0; copies = 0; marks = 0; left = 0 }

-- tables t and pages p become t' and p', and the counts k become those told, r, by op; nothing is pending at first
pub record Changed (t p t' p' : List ℕ) (f : ℕ) (k : Counts) (r : Totals) (op : Work real → Work real) : Type 0 where
  pub pending : ℕ → Entry ℕ
  pub same : rest (unpack t') f ≡ rest (unpack t) f
  pub does : work (unpack t') (pages_of p') f pending (counts_of r) ≡ op (work (unpack t) (pages_of p) f (λ q. unmapped) k)
  pub packed : PackedTables t'

-- a call that changes the tables alone, on any pages and counts
abbrev pub ChangedAlone : List ℕ → List ℕ → ℕ → (Work real → Work real) → Type 0
ChangedAlone t t' f op = (p : List ℕ) (k : Counts) → Ready t p f k → Changed t p t' p f k (totals_of k) op
