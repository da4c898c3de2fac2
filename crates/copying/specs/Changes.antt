-- For the contracts of the code, not for a reader of document 01: settling and marking as changes of the state.
use Rattle.std.specs.Prelude.{Bool, cond, List, ◌≡◌, ℕ}
use Rattle.base.specs.Count.{count}
use Rattle.rules.specs.Reading.{reaches}
use Rattle.rules.specs.Rules.{each, free_sets, from, mark_down, settle_file}
use Rattle.rules.specs.State.{Tables, Tree, tree_of}
use Rattle.rules.specs.Storage.{real}
use Rattle.setchanges.specs.Changes.{marked_in, no_pages, with_bits}
use Rattle.tables.specs.Packed.{unpack}
use Rattle.tables.specs.Views.{PackedTables, memory_of, put_files}

-- step 2 for one set
unfoldable pub settled : ℕ → ℕ → Tables → Tables
settled f c tb = put_files f (settle_file (tree_of tb.sets) c (tb.files f)) tb

-- the sets whose files are marked when that of set c is
abbrev pub reached : Tables → ℕ → ℕ → ℕ → Bool
reached tb f c = reaches (tree_of tb.sets) (tb.files f) c

-- file f of set c marked, "and so on down": the blocks of these files are free again
unfoldable pub marks_down : ℕ → ℕ → Tables → Tables
marks_down f c tb =
    let t : Tree = tree_of tb.sets in
    put_files f (mark_down t (tb.files f) c) (with_bits (free_sets real t (reached tb f c) (tb.files f) (memory_of tb no_pages)).bits tb)

-- file f of set s marked, or not
unfoldable pub mark_if : ℕ → ℕ → Bool → Tables → Tables
mark_if f s b tb = cond b (marked_in f s tb) tb

-- file f of the first n sets marked where g says so, one set after another
unfoldable pub mark_to : ℕ → (ℕ → Bool) → ℕ → Tables → Tables
mark_to f g n tb = each (λ s. mark_if f s (g s)) (from 0 n) tb

-- the tables t become t': file f of the first n sets is marked where g says so, r files
pub record MarkedBy (t t' : List ℕ) (f : ℕ) (g : ℕ → Bool) (n r : ℕ) : Type 0 where
  pub view : unpack t' ≡ mark_to f g n (unpack t)
  pub packed : PackedTables t'
  pub counted : r ≡ count n g
