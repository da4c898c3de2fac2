-- For the contracts of the code: the entries before a place have their new blocks, and nothing that compaction keeps has changed.
use Rattle.std.specs.Prelude.{List, ◌≡◌, ◌<◌, ℕ}
use Rattle.compaction.specs.Compact.{compacted, contents, entry_in, stored_before}
use Rattle.compacting.specs.Exchange.{Lent}
use Rattle.rules.specs.Calls.{Store}
use Rattle.rules.specs.State.{stored}
use Rattle.rules.specs.Storage.{real}
use Rattle.tables.specs.Calls.{pages_of, store_of}
use Rattle.tables.specs.Views.{PackedTables}

-- the stored entries before place n name 0, .., k - 1
pub record InOrder (r : Store real) (n k : ℕ) : Type 0 where
  pub order : (i b : ℕ) → i < n → entry_in r.files i ≡ stored b → b ≡ stored_before r.files i
  pub given : k ≡ stored_before r.files n

-- what compaction keeps
pub record Same (r r' : Store real) : Type 0 where
  pub sets : r'.sets ≡ r.sets
  pub blocks : r'.memory.blocks ≡ r.memory.blocks
  pub contents : contents r' ≡ contents r

-- t and p became t' and p', in which the first n places are done
pub record Gathered (t p t' p' : List ℕ) (n k : ℕ) : Type 0 where
  pub lent : Lent t' p'
  pub order : InOrder (store_of t' p') n k
  pub same : Same (store_of t p) (store_of t' p')

-- the whole: the compacted store, whose free pages are as they are
pub record Compacted (t p t' p' : List ℕ) : Type 0 where
  pub packed : PackedTables t'
  pub is : store_of t' p' ≡ compacted (pages_of p') (store_of t p)
