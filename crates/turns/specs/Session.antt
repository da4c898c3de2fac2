-- The session program from input to output. Document 01, "The session program". A turn is stated once, over what a call answers and what it leaves: on bytes it is
-- what the code does (`turn_on`), and on a store the worked example is computed from it. What the program reads and prints is outside the proofs.
use Rattle.std.specs.Prelude.{Bool, cond, false, true, ◌++◌, List, ◌∷◌, [], ◌≡◌, ◌*◌, suc, zero, ℕ, drop, length, take}
use Rattle.decoding.specs.Decoding.{Request, ask, bad, request}
use Rattle.history.specs.Image.{Image, after, gave}
use Rattle.listing.specs.Listing.{call_line, end_line, listing}
use Rattle.rules.specs.Calls.{Store, blank_memory, formatted, step, tables_of}
use Rattle.rules.specs.Numbers.{Answer, Call, format}
use Rattle.rules.specs.State.{page_bytes}
use Rattle.rules.specs.Storage.{Memory, real}
use Rattle.tables.specs.Layout.{table_bytes}
use Rattle.tables.specs.Packed.{unpack, well_formed}

-- what one turn leaves: the line to print, whether reading goes on, and the store
pub record Turn (A : Type 0) : Type 0 where
  pub line : List ℕ
  pub goes_on : Bool
  pub store : A

-- over what a call answers and what it leaves
module _ {A : Type 0} (answer : Call → A → Answer) (left : Call → A → A) where
  -- the n-th call: "prints `end` and the call's count from 1, and stops reading"; or its line
  abbrev pub turn_as : Request → ℕ → A → Turn A
  turn_as bad n st = record { line = end_line n; goes_on = false; store = st }
  turn_as (ask op c) n st = record { line = call_line n op (answer c st); goes_on = true; store = left c st }

  -- ONE TURN, from the bytes that were read for the n-th call; with none of them the input is at its end
  unfoldable pub turn : List ℕ → ℕ → A → Turn A
  turn [] n st = record { line = []; goes_on = false; store = st }
  turn (b ∷ bs) n st = turn_as (request (b ∷ bs)) n st

  -- "reads 8-byte calls from standard input, then lists": from the n-th call on, at most k of them
  unfoldable pub output_from : (A → List ℕ) → ℕ → ℕ → List ℕ → A → List ℕ
  output_from listed zero n input st = listed st
  output_from listed (suc k) n input st =
      let r : Turn A = turn (take 8 input) n st in
      r.line ++ cond r.goes_on (output_from listed k (suc n) (drop 8 input) r.store) (listed r.store)

-- ON BYTES, by the calls that the exported functions make: one turn, which the code is equated with
abbrev pub answer_on : Call → Image → Answer
answer_on c m = (gave c m).answer

abbrev pub turn_on : List ℕ → ℕ → Image → Turn Image
turn_on bytes n m = turn answer_on after bytes n m

-- what the code lists (listing/specs/Listing: `list_on`): nothing, where the tables are not well formed
abbrev pub listed_on : Image → List ℕ
listed_on m = cond (well_formed m.tables (length m.pages)) (listing (unpack m.tables)) []

-- all that is printed for an input: turns from a format on, then the listing
unfoldable pub printed : Image → List ℕ → List ℕ
printed m input = output_from answer_on after listed_on (length input) 1 input (after format m)

-- ON A STORE: "It formats 64 blocks"
abbrev pub block_count : ℕ
block_count = 64

abbrev pub fresh : Memory
fresh = blank_memory block_count

abbrev pub answer_in : Call → Store real → Answer
answer_in c st = (step real fresh c st).answer

abbrev pub left_in : Call → Store real → Store real
left_in c st = (step real fresh c st).store

abbrev pub listed_in : Store real → List ℕ
listed_in st = listing (tables_of st)

-- THE OUTPUT for an input
unfoldable pub output : List ℕ → List ℕ
output input = output_from answer_in left_in listed_in (length input) 1 input (formatted real fresh)

-- THE CLAIM: whatever the lent tables and pages of 64 blocks hold, what is printed from their bytes is the output
abbrev pub SessionClaim : Type 0
SessionClaim = (m : Image) → length m.tables ≡ table_bytes → length m.pages ≡ block_count * page_bytes → (input : List ℕ) → printed m input ≡ output input
