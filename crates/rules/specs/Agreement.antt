-- What is compared in demand 3: the store's state with the plain store and with the tally. Document 01, "Demand 3".
use Rattle.std.specs.Prelude.{false, true, List, ◌∷◌, [], ◌≡◌, ◌-◌, ◌<◌, min, suc, zero, ℕ, ◌≤◌, drop, get_or, length, take}
use Rattle.std.proofs.Math.Option.{some}
use Rattle.rules.specs.Calls.{Store, blank_memory, byte_by_reading, read_into, step, tree_in}
use Rattle.rules.specs.Numbers.{Answer, Call, Look, bytes_asked, look_of, none_asked, refusal, size_asked}
use Rattle.rules.specs.Plain.{Plain, bytes_in, is_none}
use Rattle.rules.specs.Reading.{size_by_reading}
use Rattle.rules.specs.State.{Entry, hole, is_absent, is_marked, largest_size, live, stored, unmapped}
use Rattle.rules.specs.Storage.{free_blocks, real}
use Rattle.rules.specs.Tally.{Both, Kind, Tally, both_step}

-- "Compared are each set's number, parent, level, writeability and children in order; which files are present; the size and bytes by reading of those not marked"
pub record AgreesPlain (st : Store real) (pl : Plain) : Type 0 where
  pub sets : pl.tree ≡ tree_in real st
  pub present : (f s : ℕ) → is_none (pl.files f s) ≡ is_absent (st.files f s).state
  pub size : (f s : ℕ) (l : List ℕ) → pl.files f s ≡ some l → is_marked (st.files f s).state ≡ false → size_by_reading (tree_in real st) (st.files f) s ≡ length l
  pub bytes : (f s : ℕ) (l : List ℕ) → pl.files f s ≡ some l → is_marked (st.files f s).state ≡ false → (i : ℕ) → i < length l → byte_by_reading st s f i ≡ get_or l i 0

-- Past its size an own or virgin file reads as zeros, so that growing shows zeros; well formed asks it of whole pages alone
abbrev pub ZeroPast : Store real → Type 0
ZeroPast st =
    (f s : ℕ) → live (st.files f s).state ≡ true → (i : ℕ) → size_by_reading (tree_in real st) (st.files f) s ≤ i → i < largest_size → byte_by_reading st s f i ≡ 0

-- the kind of an entry
abbrev pub kind_of : Entry ℕ → Kind
kind_of unmapped = unmapped
kind_of hole = hole
kind_of (stored b) = stored tt

-- the tally that a store shows
abbrev pub tally_in : Store real → Tally
tally_in st = record {
  tree = tree_in real st;
  files = λ f s. record { state = (st.files f s).state; size = (st.files f s).size; map = λ p. kind_of ((st.files f s).map p) };
  free = free_blocks st.memory;
}

-- "sets, states, sizes, kinds and a count of free blocks … the tables agree with it"
pub record AgreesTally (st : Store real) (ta : Tally) : Type 0 where
  pub sets : ta.tree ≡ tree_in real st
  pub state : (f s : ℕ) → (ta.files f s).state ≡ (st.files f s).state
  pub size : (f s : ℕ) → (ta.files f s).size ≡ (st.files f s).size
  pub kind : (f s p : ℕ) → (ta.files f s).map p ≡ kind_of ((st.files f s).map p)
  pub free : ta.free ≡ free_blocks st.memory

-- A STORE AGREES with plain store and tally, and past the sizes there are zeros: demand 3 claims it after every list, and it is all that the lists that follow need
pub record Agrees (st : Store real) (pl : Plain) (ta : Tally) : Type 0 where
  pub plain : AgreesPlain st pl
  pub tally : AgreesTally st ta
  pub past : ZeroPast st

-- What a call gives back: its answer and, of a read, the bytes that it put at the buffer's front.
pub record Given : Type 0 where
  pub answer : Answer
  pub bytes : List ℕ

-- of a read, as many bytes as its first count; of another call, none
unfoldable pub front_of : Look → Answer → List ℕ → List ℕ
front_of (bytes_asked s f off buffer) a l = take a.first l
front_of (size_asked s f) a l = []
front_of none_asked a l = []

abbrev pub front : Call → Answer → List ℕ → List ℕ
front c a l = front_of (look_of c) a l

-- what the plain store has for a call that looks: the bytes from the offset on; "the first count … of a read, and the first count of size"
unfoldable pub plain_bytes : Look → Plain → List ℕ
plain_bytes (bytes_asked s f off buffer) pl = drop off (bytes_in (pl.files f s))
plain_bytes (size_asked s f) pl = []
plain_bytes none_asked pl = []

unfoldable pub plain_first : Look → Plain → ℕ → ℕ
plain_first (bytes_asked s f off buffer) pl n = min (length buffer) (length (bytes_in (pl.files f s)) - off)
plain_first (size_asked s f) pl n = length (bytes_in (pl.files f s))
plain_first none_asked pl n = n

-- the answer of plain store and tally together: the first counts of an accepted read and size are the plain store's, all else is the tally's,
-- also the maps that a read looked at (document 02, Ask 3)
unfoldable pub both_answer : ℕ → Call → Plain → Answer → Answer
both_answer zero c pl a = record { number = a.number; first = plain_first (look_of c) pl a.first; second = a.second; third = a.third }
both_answer (suc n) c pl a = a

abbrev pub both_give : ℕ → Call → Plain → Tally → Given
both_give blocks c pl ta =
    let b : Answer = (both_step blocks c pl ta).answer in
    let a : Answer = both_answer b.number c pl b in
    record { answer = a; bytes = front c a (plain_bytes (look_of c) pl) }

-- plain store and tally after a list of calls, and all that they gave
unfoldable pub both_run : ℕ → List Call → Plain → Tally → Both
both_run blocks [] pl ta = record { answer = refusal 0; plain = pl; tally = ta }
both_run blocks (c ∷ cs) pl ta = both_run blocks cs (both_step blocks c pl ta).plain (both_step blocks c pl ta).tally

unfoldable pub both_given : ℕ → List Call → Plain → Tally → List Given
both_given blocks [] pl ta = []
both_given blocks (c ∷ cs) pl ta = both_give blocks c pl ta ∷ both_given blocks cs (both_step blocks c pl ta).plain (both_step blocks c pl ta).tally

-- For the proofs; no claim uses what follows.
-- the buffer of a call after it, where it gave the number n
unfoldable pub buffer_of : Look → ℕ → Store real → List ℕ
buffer_of (bytes_asked s f off buffer) zero st = read_into st s f off buffer
buffer_of (bytes_asked s f off buffer) (suc n) st = buffer
buffer_of (size_asked s f) n st = []
buffer_of none_asked n st = []

abbrev pub buffer_after : Call → ℕ → Store real → List ℕ
buffer_after c n st = buffer_of (look_of c) n st

-- what a call on the store gives
abbrev pub store_give : ℕ → Call → Store real → Given
store_give blocks c st = let a : Answer = (step real (blank_memory blocks) c st).answer in record { answer = a; bytes = front c a (buffer_after c a.number st) }
