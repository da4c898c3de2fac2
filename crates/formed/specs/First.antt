-- What the first part of the check leaves for the second. Assumes nothing.
use Rattle.std.specs.Prelude.{IfSome, Option, is_some, true, List, ◌++◌, ◌≡◌, ℕ}
use Rattle.entrycheck.specs.Records.{BlankFrom, MasksAre}
use Rattle.formed.specs.Heads.{UnusedFrom}
use Rattle.tables.specs.Packed.{block_rules, unpack}

-- does the first part pass; and then the masks of every file, and from which set on all file records are zero
pub record FirstPassed (front files stored unmapped : List ℕ) (r : Option ℕ) : Type 0 where
  pub decided : is_some r ≡ block_rules (front ++ files)
  pub masks : is_some r ≡ true → MasksAre (front ++ files) stored unmapped
  pub blank : IfSome r (BlankFrom files)
  pub unused : IfSome r (UnusedFrom (unpack front).sets)
