-- For the contracts of the converter: one file cleared, if it is marked.
use Rattle.std.specs.Prelude.{cond, ℕ}
use Rattle.rules.specs.State.{Tables, is_marked}
use Rattle.setchanges.specs.Changes.{marked_in}

unfoldable pub cleared_file_in : ℕ → ℕ → Tables → Tables
cleared_file_in f s tb = cond (is_marked (tb.files f s).state) (marked_in f s tb) tb
