-- One turn on bytes, by what was read. Assumes nothing.
use mathlib.Core.Bool.{false, true}
use mathlib.Core.List.{List, ◌∷◌, []}
use mathlib.Core.Path.{ap, refl, sym, ◌∙◌, ◌≡◌}
use Prim.Native.Nat.{ℕ}
use native.Mathlib.Omega.{arith}
use lib.ListN.{length}
use Rattle.decoding.specs.Decoding.{Request, ask, bad, request}
use Rattle.history.specs.Image.{Image, after}
use Rattle.listing.proofs.Writing.{wrote_front, wrote_none, wrote_size}
use Rattle.listing.specs.Listing.{call_line, end_line}
use Rattle.listing.specs.Written.{Wrote}
use Rattle.rules.specs.Numbers.{Call}
use Rattle.tables.specs.Calls.{Outcome, call_on}
use Rattle.turns.specs.Outcomes.{line_on, turn_into}
use Rattle.turns.specs.Session.{Turn, answer_on, turn, turn_as, turn_on}

-- with bytes, a turn goes by what they ask for
turn_some : (bytes : List ℕ) (n : ℕ) (m : Image) → (length bytes ≡ 0 → ⊥) → turn_on bytes n m ≡ turn_as answer_on after (request bytes) n m
unfolding turn
turn_some [] n m h = absurd (h refl)
turn_some (b ∷ bs) n m h = refl

-- without bytes nothing is written
pub no_bytes : (bytes : List ℕ) (n : ℕ) (t p out : List ℕ) → length bytes ≡ 0 →
    record { size = 0; goes_on = false; store = record { tables = t; pages = p }; buffer = out } ≡ line_on bytes n t p out
unfolding turn_into turn
no_bytes [] n t p out h = λ i. record { size = 0; goes_on = false; store = record { tables = t; pages = p }; buffer = wrote_front (wrote_none out 0) i }
no_bytes (b ∷ bytes) n t p out h = absurd (omega arith)

module _ (bytes : List ℕ) (n : ℕ) (t p out : List ℕ) where
  abbrev m : Image
  m = record { tables = t; pages = p }

  module _ (some : length bytes ≡ 0 → ⊥) (e : List ℕ) (r : ℕ) where
    by_request : (q : Request) → q ≡ request bytes → turn_into (turn_as answer_on after q n m) out ≡ line_on bytes n t p out
    by_request q h = ap (λ (x : Request). turn_into (turn_as answer_on after x n m) out) h ∙ sym (ap (λ (x : Turn Image). turn_into x out) (turn_some bytes n m some))

    -- a bad call: its line is `end`, and tables and pages stay
    pub bad_call : bad ≡ request bytes → Wrote out e 0 r (end_line n) → record { size = r; goes_on = false; store = m; buffer = e } ≡ line_on bytes n t p out
    unfolding turn_into
    bad_call h w = (λ i. record { size = wrote_size w i; goes_on = false; store = m; buffer = wrote_front w i }) ∙ by_request bad h

    -- a call that was made, with its line
    pub made_call : (op : ℕ) (c : Call) (o : Outcome) → ask op c ≡ request bytes → o ≡ call_on c t p → Wrote out e 0 r (call_line n op o.answer) →
        record { size = r; goes_on = true; store = record { tables = o.tables; pages = o.pages }; buffer = e } ≡ line_on bytes n t p out
    unfolding turn_into
    made_call op c o h k w =
        (λ i. record { size = wrote_size w i; goes_on = true; store = record { tables = o.tables; pages = o.pages }; buffer = wrote_front w i })
        ∙ ap (λ (x : Outcome). turn_into (record { line = call_line n op x.answer; goes_on = true; store = record { tables = x.tables; pages = x.pages } }) out) k
        ∙ by_request (ask op c) h
