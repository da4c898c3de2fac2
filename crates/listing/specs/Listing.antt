-- The lines of a session, and the listing of a store. Document 01, "The session program": "Lines"; document 02, Ask 1.
use Rattle.std.specs.Prelude.{Bool, Err, Ok, Result, cond, false, not, true, ◌++◌, List, ◌∷◌, [], suc, zero, ℕ, eqb, leb, length}
use Rattle.base.specs.Logic.{digit}
use Rattle.listing.specs.Text.{decimal, into_buffer, line, minus_one, minus_two, name_call, name_end, name_ext, name_file, name_set}
use Rattle.rules.specs.Numbers.{Answer}
use Rattle.rules.specs.Reading.{size_by_reading}
use Rattle.rules.specs.State.{Entry, SetRecord, State, Tables, absent, children_of, file_count, highest_level, hole, marked, own, page_count, stored, tree_of, unmapped, virgin}
use Rattle.tables.specs.Layout.{state_number}
use Rattle.tables.specs.Packed.{unpack, well_formed}
use Rattle.listing.specs.declared.store.ListError.{ListError}
use Rattle.listing.specs.declared.store.ListError.TheVariants.{NotWellFormed, TooSmall}

-- "`call` count, op, number, three counts."
unfoldable pub call_line : ℕ → ℕ → Answer → List ℕ
call_line count op a =
    line name_call (decimal count ∷ decimal op ∷ decimal a.number ∷ decimal a.first ∷ decimal a.second ∷ decimal a.third ∷ [])

-- "prints `end` and the call's count from 1"
unfoldable pub end_line : ℕ → List ℕ
end_line count = line name_end (decimal count ∷ [])

-- "`set` number, level, parent, writeable."
unfoldable pub set_line : ℕ → SetRecord → List ℕ
set_line s r = line name_set (decimal s ∷ decimal r.level ∷ decimal r.parent ∷ decimal (digit r.writeable) ∷ [])

-- "`file` set, number, state, size by reading (0 if marked)."
unfoldable pub file_line : ℕ → ℕ → State → ℕ → List ℕ
file_line s f state size = line name_file (decimal s ∷ decimal f ∷ decimal (state_number state) ∷ decimal size ∷ [])

-- the word for an entry: its block, or the mark of a page not stored; `root`: the file is of set 0. 01: "shown as -1"; 02: "Set 0 keeps -1 for its holes. In any other set a hole is
-- listed as -2 and an unmapped page as -1"
abbrev pub block_word : Bool → Entry ℕ → List ℕ
block_word root unmapped = minus_one
block_word root hole = cond root minus_one minus_two
block_word root (stored b) = decimal b

-- "`ext` first page, block."
unfoldable pub ext_line : Bool → ℕ → Entry ℕ → List ℕ
ext_line root p e = line name_ext (decimal p ∷ block_word root e ∷ [])

-- does a page with the second entry join the run of the page before it, which has the first? 01: "pages in consecutive blocks, or of pages not stored"; 02, of a hole and an
-- unmapped page: "the two no longer join in one run". In set 0 they do not meet, as 01 has it of well-formed tables: "no unmapped entry outside absent files".
abbrev pub continues : Entry ℕ → Entry ℕ → Bool
continues unmapped unmapped = true
continues unmapped hole = false
continues unmapped (stored b) = false
continues hole unmapped = false
continues hole hole = true
continues hole (stored b) = false
continues (stored a) unmapped = false
continues (stored a) hole = false
continues (stored a) (stored b) = eqb b (suc a)

-- "An extent is a longest run": it begins at page 0, and at each page that is not in the run of the page before it
abbrev pub begins : (ℕ → Entry ℕ) → ℕ → Bool
begins map zero = true
begins map (suc p) = not (continues (map p) (map (suc p)))

-- the extents that begin below page n of a file's own map; `root`: the file is of set 0
unfoldable pub extents : Bool → (ℕ → Entry ℕ) → ℕ → List ℕ
extents root map zero = []
extents root map (suc n) = extents root map n ++ cond (begins map n) (ext_line root n (map n)) []

-- "`ext 64 -1` closes a file."; 02: "The closing line stays `ext 64 -1` in every set."
unfoldable pub ext_end : List ℕ
ext_end = line name_ext (decimal page_count ∷ minus_one ∷ [])

-- a text for each set of a list, one after the other
unfoldable pub in_turn : (ℕ → List ℕ) → List ℕ → List ℕ
in_turn text [] = []
in_turn text (s ∷ ss) = text s ++ in_turn text ss

module _ (tb : Tables) where
  -- the lines of an own or virgin file f in set s
  abbrev pub live_text : State → ℕ → ℕ → List ℕ
  live_text state f s = file_line s f state (size_by_reading (tree_of tb.sets) (tb.files f) s) ++ (extents (eqb s 0) (tb.files f s).map page_count ++ ext_end)

  -- the lines of file f in set s: "absent ones left out"; "Marked files have no `ext`."
  abbrev pub file_text_as : State → ℕ → ℕ → List ℕ
  file_text_as absent f s = []
  file_text_as own f s = live_text own f s
  file_text_as virgin f s = live_text virgin f s
  file_text_as marked f s = file_line s f marked 0

  unfoldable pub file_text : ℕ → ℕ → List ℕ
  file_text f s = file_text_as (tb.files f s).state f s

  -- "files stand under their set, by number": those of set s below n
  unfoldable pub file_texts : ℕ → ℕ → List ℕ
  file_texts s zero = []
  file_texts s (suc n) = file_texts s n ++ file_text n s

  -- a set with its files
  unfoldable pub set_text : ℕ → List ℕ
  set_text s = set_line s (tb.sets s) ++ file_texts s file_count

  -- "the set itself, then its children in order of making, each in the same way": set s, and n levels below it
  unfoldable pub list_set : ℕ → ℕ → List ℕ
  list_set zero s = set_text s
  list_set (suc n) s = set_text s ++ in_turn (list_set n) (children_of tb.sets s)

  -- THE LISTING of a store: from the root, "the highest level is 5"
  unfoldable pub listing : List ℕ
  listing = list_set highest_level 0

-- what is told of a listing, and the lent buffer afterwards: the number of document 01, whether the whole listing stands in the buffer, how many bytes it has
pub record ListOutcome : Type 0 where
  pub number : ℕ
  pub whole : Bool
  pub size : ℕ
  pub buffer : List ℕ

-- what the code tells means: "1 | tables not well formed or of wrong length"; no number of document 01 stands for a buffer that is too small
abbrev pub list_outcome : Result ℕ ListError → List ℕ → ListOutcome
list_outcome (Err NotWellFormed) b = record { number = 1; whole = false; size = 0; buffer = b }
list_outcome (Err (TooSmall n)) b = record { number = 0; whole = false; size = n; buffer = b }
list_outcome (Ok n) b = record { number = 0; whole = true; size = n; buffer = b }

-- a text in a lent buffer, from its front on: the whole of it, or as much as fits, with its size
unfoldable pub list_into : List ℕ → List ℕ → ListOutcome
list_into text out = record { number = 0; whole = leb (length text) (length out); size = length text; buffer = into_buffer text out }

-- A LISTING ON BYTES, of any contents and lengths: tables t, pages of n bytes, a lent buffer
unfoldable pub list_on : List ℕ → ℕ → List ℕ → ListOutcome
list_on t n out = cond (well_formed t n) (list_into (listing (unpack t)) out) (record { number = 1; whole = false; size = 0; buffer = out })
