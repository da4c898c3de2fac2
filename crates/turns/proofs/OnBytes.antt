-- THE SESSION ON BYTES is the session on a store: each call on the image of a store in order is the call on the store. Assumes nothing.
use mathlib.Core.Bool.{cond, true}
use mathlib.Core.List.{◌++◌, List, ◌∷◌, []}
use mathlib.Core.Path.{ap, ap₂, refl, ◌∙◌, ◌≡◌}
use Prim.Native.Nat.{◌/◌, suc, zero, ℕ}
use native.Mathlib.Omega.{arith}
use lib.ListN.{drop, length, take}
use Rattle.decoding.specs.Decoding.{Request, ask, bad, request}
use Rattle.history.proofs.CallImage.{after_image, gave_image}
use Rattle.history.proofs.Demand3.{format_image}
use Rattle.history.proofs.Image.{image_formed, image_store, image_of}
use Rattle.history.specs.Image.{Image, after}
use Rattle.listing.specs.Listing.{call_line}
use Rattle.rules.proofs.Whole.Order.{InOrder, order_format, order_step}
use Rattle.rules.specs.Agreement.{Given}
use Rattle.rules.specs.Calls.{Store, blank_memory, formatted}
use Rattle.rules.specs.Numbers.{Call, format}
use Rattle.rules.specs.Storage.{real}
use Rattle.tables.specs.Calls.{format_lengths}
use Rattle.tables.specs.Layout.{table_bytes}
use Rattle.turns.specs.Session.{SessionClaim, Turn, answer_in, answer_on, fresh, left_in, listed_in, listed_on, output, output_from, printed, turn, turn_as}

-- a turn on a store, with the image of what it leaves
abbrev imaged : Turn (Store real) → Turn Image
imaged x = record { line = x.line; goes_on = x.goes_on; store = image_of x.store }

module _ (r : Store real) (o : InOrder 64 r) where
  answer_same : (c : Call) → answer_on c (image_of r) ≡ answer_in c r
  answer_same c = ap (λ (g : Given). g.answer) (gave_image 64 (omega arith) (omega arith) r o c)

  as_same : (q : Request) (n : ℕ) → turn_as answer_on after q n (image_of r) ≡ imaged (turn_as answer_in left_in q n r)
  as_same bad n = refl
  as_same (ask op c) n = λ i. record { line = call_line n op (answer_same c i); goes_on = true; store = after_image 64 (omega arith) (omega arith) r o c i }

  turn_same : (bytes : List ℕ) (n : ℕ) → turn answer_on after bytes n (image_of r) ≡ imaged (turn answer_in left_in bytes n r)
  unfolding turn
  turn_same [] n = refl
  turn_same (b ∷ bs) n = as_same (request (b ∷ bs)) n

  -- a turn keeps a store in order
  as_order : (q : Request) (n : ℕ) → InOrder 64 (turn_as answer_in left_in q n r).store
  as_order bad n = o
  as_order (ask op c) n = order_step 64 (omega arith) r o c

  turn_order : (bytes : List ℕ) (n : ℕ) → InOrder 64 (turn answer_in left_in bytes n r).store
  unfolding turn
  turn_order [] n = o
  turn_order (b ∷ bs) n = as_order (request (b ∷ bs)) n

  listed_same : listed_on (image_of r) ≡ listed_in r
  listed_same = rw (image_formed 64 (omega arith) r o) (ap listed_in (image_store 64 (omega arith) r o))

from_same : (k n : ℕ) (input : List ℕ) (r : Store real) → InOrder 64 r → output_from answer_on after listed_on k n input (image_of r) ≡ output_from answer_in left_in listed_in k n input r
unfolding output_from
from_same zero n input r o = listed_same r o
from_same (suc k) n input r o =
    let x : Turn (Store real) = turn answer_in left_in (take 8 input) n r in
    let ox : InOrder 64 x.store = turn_order r o (take 8 input) n in
    ap (λ (y : Turn Image). y.line ++ cond y.goes_on (output_from answer_on after listed_on k (suc n) (drop 8 input) y.store) (listed_on y.store)) (turn_same r o (take 8 input) n)
    ∙ ap₂ (λ (a b : List ℕ). x.line ++ cond x.goes_on a b) (from_same k (suc n) (drop 8 input) x.store ox) (listed_same x.store ox)

-- the format of 64 blocks
begun : (m : Image) → length m.tables ≡ table_bytes → length m.pages ≡ 32768 → after format m ≡ image_of (formatted real fresh)
begun m ht hp =
    format_image m (ap₂ format_lengths ht hp ∙ (unfold format_lengths in refl)) ∙ ap (λ (n : ℕ). image_of (formatted real (blank_memory (n / 512)))) hp

-- THEOREM
pub session_on_bytes : SessionClaim
unfolding printed output
session_on_bytes m ht hp input =
    ap (output_from answer_on after listed_on (length input) 1 input) (begun m ht hp) ∙ from_same (length input) 1 input (formatted real fresh) (order_format 64 (omega arith))
