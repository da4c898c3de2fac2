-- Parts of the rows of the table of numbers that several calls share.
use Rattle.std.specs.Prelude.{Bool, true, List, ◌∷◌, [], ℕ}
use Rattle.rules.specs.Calls.{view_of}
use Rattle.rules.specs.Numbers.{View, end_over, file_absent, file_marked, need_over, no_such_file, no_such_set, read_only}
use Rattle.rules.specs.Storage.{real}
use Rattle.tables.specs.Calls.{store_of}

-- what the table sees of well-formed tables; of the pages it looks at nothing
abbrev pub view_in : List ℕ → View
view_in t = view_of real true true (store_of t [])

module _ (v : View) (s f : ℕ) where
  -- 2 and 3: the set, the file number
  abbrev pub no_such_place : List (Bool × ℕ)
  no_such_place = no_such_set v s ∷ no_such_file v f ∷ []

  -- 2, 3 and 4: a read-only set too
  abbrev pub read_only_place : List (Bool × ℕ)
  read_only_place = no_such_set v s ∷ no_such_file v f ∷ read_only v s ∷ []

  -- 5 and 6: the file is absent, or marked
  abbrev pub not_readable : List (Bool × ℕ)
  not_readable = file_absent v s f ∷ file_marked v s f ∷ []

  -- 2 to 6: of a write and of a truncate
  abbrev pub not_changeable : List (Bool × ℕ)
  not_changeable = no_such_set v s ∷ no_such_file v f ∷ read_only v s ∷ file_absent v s f ∷ file_marked v s f ∷ []

-- 7 and 8: "write end (offset plus length) or new size over 32,768", "own need over the free blocks"
abbrev pub end_or_need_over : View → ℕ → ℕ → List (Bool × ℕ)
end_or_need_over v end need = end_over v end ∷ need_over v need ∷ []
