-- The state that the tables hold: sets, files, entries. Document 01, "What the store does" and "Packed tables".
use Rattle.std.specs.Prelude.{Bool, cond, false, true, List, ◌∷◌, [], suc, zero, ℕ, ltb}

-- "Largest: 8 sets, 16 files a set, 64 pages of 512 bytes a file (32,768 bytes), 4,096 blocks of 512 bytes."
abbrev pub set_count : ℕ
set_count = 8

abbrev pub file_count : ℕ
file_count = 16

abbrev pub page_count : ℕ
page_count = 64

abbrev pub page_bytes : ℕ
page_bytes = 512

abbrev pub largest_size : ℕ
largest_size = 32768

abbrev pub largest_blocks : ℕ
largest_blocks = 4096

-- "the highest level is 5"
abbrev pub highest_level : ℕ
highest_level = 5

-- "8 means none", of a parent, a first child and a next sibling
abbrev pub no_set : ℕ
no_set = 8

-- "a page is unmapped, a hole, or stored in a named block"
pub data Entry (K : Type 0) : Type 0 where
  unmapped : Entry K
  hole : Entry K
  stored : K → Entry K

-- "State: 0 absent, 1 own, 2 virgin (nothing copied yet, size included), 3 marked out of sync"
pub data State : Type 0 where
  absent own virgin marked : State

-- a file of a set: its record and its map of 64 entries
pub record File (K : Type 0) : Type 0 where
  pub state : State
  pub size : ℕ
  pub map : ℕ → Entry K

-- the files of one number, by set: "a file is known by its number, the same in parent and child"
abbrev pub Files : Type 0 → Type 0
Files K = ℕ → File K

-- a reference term, by days: "Each set record grows at its end by 4 bytes: first day 16 bits, end day 16 bits" (document 02, Ask 8)
pub record Term : Type 0 where
  pub first_day : ℕ
  pub end_day : ℕ

-- a set record
pub record SetRecord : Type 0 where
  pub used : Bool
  pub writeable : Bool
  pub level : ℕ
  pub parent : ℕ
  pub first_child : ℕ
  pub next_sibling : ℕ
  pub term : Term

-- the tables unpacked: "bit b is 1 when block b is used"; the files by number and set
pub record Tables : Type 0 where
  pub blocks : ℕ
  pub next : ℕ
  pub bits : ℕ → Bool
  pub sets : ℕ → SetRecord
  pub files : ℕ → Files ℕ

-- the sets as the rules see them: children in order of making
pub record Tree : Type 0 where
  pub used : ℕ → Bool
  pub writeable : ℕ → Bool
  pub level : ℕ → ℕ
  pub parent : ℕ → ℕ
  pub children : ℕ → List ℕ

-- the sets of a sibling chain that begins at k, at most n of them
unfoldable pub chain : (ℕ → SetRecord) → ℕ → ℕ → List ℕ
chain sets zero k = []
chain sets (suc n) k = cond (ltb k set_count) (k ∷ chain sets n (sets k).next_sibling) []

unfoldable pub children_of : (ℕ → SetRecord) → ℕ → List ℕ
children_of sets s = cond (sets s).used (chain sets set_count (sets s).first_child) []

abbrev pub tree_of : (ℕ → SetRecord) → Tree
tree_of sets = record {
  used = λ s. (sets s).used;
  writeable = λ s. (sets s).writeable;
  level = λ s. (sets s).level;
  parent = λ s. (sets s).parent;
  children = children_of sets;
}

-- the term and the record of an unused set, and the record of an absent file: all zero
abbrev pub no_term : Term
no_term = record { first_day = 0; end_day = 0 }

abbrev pub unused_set : SetRecord
unused_set = record { used = false; writeable = false; level = 0; parent = 0; first_child = 0; next_sibling = 0; term = no_term }

abbrev pub absent_file : {K : Type 0} → File K
absent_file = record { state = absent; size = 0; map = λ p. unmapped }

-- tests of a state and of an entry
abbrev pub is_absent : State → Bool
is_absent absent = true
is_absent own = false
is_absent virgin = false
is_absent marked = false

-- "own or virgin"
abbrev pub live : State → Bool
live absent = false
live own = true
live virgin = true
live marked = false

abbrev pub is_marked : State → Bool
is_marked absent = false
is_marked own = false
is_marked virgin = false
is_marked marked = true

abbrev pub is_virgin : State → Bool
is_virgin absent = false
is_virgin own = false
is_virgin virgin = true
is_virgin marked = false

abbrev pub is_own : State → Bool
is_own absent = false
is_own own = true
is_own virgin = false
is_own marked = false

module _ {K : Type 0} where
  abbrev pub is_unmapped : Entry K → Bool
  is_unmapped unmapped = true
  is_unmapped hole = false
  is_unmapped (stored b) = false

  abbrev pub is_stored : Entry K → Bool
  is_stored unmapped = false
  is_stored hole = false
  is_stored (stored b) = true
