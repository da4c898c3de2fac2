-- The calls, and the table of the numbers that they give. Document 01, "Numbers a call gives".
use Rattle.std.specs.Prelude.{◌&&◌, Bool, cond, false, not, true, ◌||◌, List, ◌∷◌, [], ◌+◌, ℕ, eqb, leb, ltb, length}
use Rattle.rules.specs.State.{State, Tree, file_count, highest_level, is_absent, is_marked, largest_size, set_count}

-- The ten calls with their arguments, numbers of any size.
pub data Call : Type 0 where
  -- on the lent tables and pages
  format : Call
  -- set, file
  create : ℕ → ℕ → Call
  -- group size, set, file, offset, data
  write : ℕ → ℕ → ℕ → ℕ → List ℕ → Call
  -- set, file, offset, what the buffer holds
  read : ℕ → ℕ → ℕ → List ℕ → Call
  -- set, file, new size
  truncate : ℕ → ℕ → ℕ → Call
  -- set, file
  delete : ℕ → ℕ → Call
  -- parent, new set, writeable
  make : ℕ → ℕ → Bool → Call
  -- set
  remove : ℕ → Call
  -- set, file: "tells a file's size"
  tell_size : ℕ → ℕ → Call
  -- "and the free blocks"
  tell_free : Call

-- "A write now copies by aligned groups of eight unless the caller asks for a narrow one" (document 02, Ask 5): a narrow write is by groups
-- of one page
abbrev pub grouped_write : ℕ → ℕ → ℕ → List ℕ → Call
grouped_write s f off bs = write 8 s f off bs

abbrev pub narrow_write : ℕ → ℕ → ℕ → List ℕ → Call
narrow_write s f off bs = write 1 s f off bs

-- what a call asks for that only looks: the bytes of a read, a file's size
pub data Look : Type 0 where
  bytes_asked : ℕ → ℕ → ℕ → List ℕ → Look
  size_asked : ℕ → ℕ → Look
  none_asked : Look

abbrev pub look_of : Call → Look
look_of format = none_asked
look_of (create s f) = none_asked
look_of (write g s f off bs) = none_asked
look_of (read s f off buffer) = bytes_asked s f off buffer
look_of (truncate s f n) = none_asked
look_of (delete s f) = none_asked
look_of (make s c w) = none_asked
look_of (remove s) = none_asked
look_of (tell_size s f) = size_asked s f
look_of tell_free = none_asked

-- "An accepted call gives 0 and three counts."
pub record Answer : Type 0 where
  pub number : ℕ
  pub first : ℕ
  pub second : ℕ
  pub third : ℕ

-- a refusal: counts 0; an accepted call without counts
abbrev pub refusal : ℕ → Answer
refusal n = record { number = n; first = 0; second = 0; third = 0 }

abbrev pub no_counts : Answer
no_counts = record { number = 0; first = 0; second = 0; third = 0 }

-- What the table looks at. The same table is judged on the store's state and, in demand 3, on plain store and tally.
pub record View : Type 0 where
  -- tables well formed and of the right length; lengths right for a format
  pub formed : Bool
  pub formats : Bool
  pub tree : Tree
  -- of file and set
  pub state : ℕ → ℕ → State
  pub free : ℕ
  -- own need of a write (set, file, offset, length) and of a truncate (set, file, new size)
  pub write_need : ℕ → ℕ → ℕ → ℕ → ℕ
  pub truncate_need : ℕ → ℕ → ℕ → ℕ

abbrev pub is_nil : List ℕ → Bool
is_nil [] = true
is_nil (x ∷ xs) = false

module _ (v : View) where
  -- the conditions of the table, by their numbers
  abbrev pub not_formed : Bool × ℕ
  not_formed = (not v.formed, 1)

  -- "a set number over 7, or a set that must be used is not"
  abbrev pub no_such_set : ℕ → Bool × ℕ
  no_such_set s = (not (ltb s set_count && v.tree.used s), 2)

  -- "file number over 15"
  abbrev pub no_such_file : ℕ → Bool × ℕ
  no_such_file f = (not (ltb f file_count), 3)

  -- "in a read-only set"
  abbrev pub read_only : ℕ → Bool × ℕ
  read_only s = (not (v.tree.writeable s), 4)

  -- "file absent, where it must be present"
  abbrev pub file_absent : ℕ → ℕ → Bool × ℕ
  file_absent s f = (is_absent (v.state f s), 5)

  -- "of a marked file"
  abbrev pub file_marked : ℕ → ℕ → Bool × ℕ
  file_marked s f = (is_marked (v.state f s), 6)

  -- "write end (offset plus length) or new size over 32,768"
  abbrev pub end_over : ℕ → Bool × ℕ
  end_over n = (ltb largest_size n, 7)

  -- "own need over the free blocks"
  abbrev pub need_over : ℕ → Bool × ℕ
  need_over n = (ltb v.free n, 8)

  -- THE TABLE: for each call the conditions of refusal that concern it, in rising order
  unfoldable pub conditions : Call → List (Bool × ℕ)
  conditions format = (not v.formats, 1) ∷ []
  conditions (create s f) = not_formed ∷ no_such_set s ∷ no_such_file f ∷ read_only s ∷ (not (is_absent (v.state f s)), 9) ∷ []
  conditions (write g s f off bs) =
      not_formed ∷ no_such_set s ∷ no_such_file f ∷ read_only s ∷ file_absent s f ∷ file_marked s f
      ∷ end_over (off + length bs) ∷ need_over (v.write_need s f off (length bs)) ∷ []
  conditions (read s f off buffer) = not_formed ∷ no_such_set s ∷ no_such_file f ∷ file_absent s f ∷ file_marked s f ∷ []
  conditions (truncate s f n) =
      not_formed ∷ no_such_set s ∷ no_such_file f ∷ read_only s ∷ file_absent s f ∷ file_marked s f
      ∷ end_over n ∷ need_over (v.truncate_need s f n) ∷ []
  conditions (delete s f) = not_formed ∷ no_such_set s ∷ no_such_file f ∷ read_only s ∷ file_absent s f ∷ []
  conditions (make s c w) =
      not_formed ∷ (not (ltb s set_count && v.tree.used s) || not (ltb c set_count), 2)
      ∷ (v.tree.used c, 9) ∷ (leb highest_level (v.tree.level s), 10) ∷ []
  conditions (remove s) = not_formed ∷ no_such_set s ∷ (not (is_nil (v.tree.children s)), 11) ∷ (eqb s 0, 12) ∷ []
  conditions (tell_size s f) = not_formed ∷ no_such_set s ∷ no_such_file f ∷ file_absent s f ∷ file_marked s f ∷ []
  conditions tell_free = not_formed ∷ []

-- "The lowest number that applies is given. None is given otherwise": 0
unfoldable pub lowest : List (Bool × ℕ) → ℕ
lowest [] = 0
lowest (x ∷ xs) = cond x.0 x.1 (lowest xs)

unfoldable pub number_of : View → Call → ℕ
number_of v c = lowest (conditions v c)
