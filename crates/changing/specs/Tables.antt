-- For the contracts of the code, not for a reader of document 01: a change of the tables alone, after which the count of free blocks need not be known.
use Rattle.std.specs.Prelude.{List, ◌≡◌, ◌<◌, ℕ}
use Rattle.rules.specs.Rules.{Work}
use Rattle.rules.specs.State.{Tables, stored}
use Rattle.rules.specs.Storage.{PageData, real}
use Rattle.tables.specs.Packed.{unpack}
use Rattle.tables.specs.Views.{PackedTables}
use Rattle.copying.specs.Work.{Does}
use Rattle.copying.specs.declared.giving.Counts.{Counts}

-- every block that the maps of file f name is one of the bitmap
abbrev pub AnyBlockIn : ℕ → Tables → Type 0
AnyBlockIn f tb = (s p b : ℕ) → (tb.files f s).map p ≡ stored b → b < 4096

-- the tables t become t' by op of the work on the files of number f, whatever the pages, the counts and what is pending
pub record OnTables (t t' : List ℕ) (f : ℕ) (op : Work real → Work real) : Type 0 where
  pub does : (pg : ℕ → PageData) (k : Counts) → Does (unpack t) pg (unpack t') pg f k k op
  pub packed : PackedTables t'
