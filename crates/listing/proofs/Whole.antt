-- A listing visits every set of a well-formed store. Assumes nothing.
use mathlib.Core.Bool.{true}
use mathlib.Core.List.{◌++◌, List, Memᴰ, append-nil, ◌∷◌, []}
use mathlib.Core.Path.{ap, refl, subst, sym, ◌∙◌, ◌≡◌}
use Prim.Native.Nat.{◌*◌, ◌+◌, ◌-◌, suc, zero, ℕ, ◌≤◌}
use native.Mathlib.Omega.{arith}
use lib.ListN.{length, length-append}
use Rattle.base.specs.Logic.{same?}
use Rattle.listing.proofs.Order.{order, order_most, order_some}
use Rattle.listing.proofs.Visits.{chain_step, no_set, none_left, set_step}
use Rattle.listing.specs.Listing.{in_turn, list_set, listing, set_text}
use Rattle.listing.specs.Written.{Visit, behind, visit_chain, visit_set}
use Rattle.rules.proofs.Tree.Chains.{Follows}
use Rattle.rules.proofs.Tree.SetsOk.{SetsOk}
use Rattle.rules.specs.State.{Tables, children_of}

abbrev visit : List ℕ → ℕ → Visit
visit text left = record { text = text; left = left }

module _ (tb : Tables) (ok : SetsOk tb.sets) where
  -- the sets that a list of sets visits
  abbrev ordered : ℕ → List ℕ → List ℕ
  ordered n xs = in_turn (order tb.sets n) xs

  SetClaim : ℕ → Type 0
  SetClaim n =
      (f left s : ℕ) → (tb.sets s).used ≡ true → (tb.sets s).level + n ≡ 5 → length (order tb.sets n s) ≤ left → 2 * left ≤ f →
      visit_set tb f left s ≡ visit (list_set tb n s) (left - length (order tb.sets n s))

  -- no chain
  chain_none : (f left k : ℕ) → k ≡ 8 → visit_chain tb f left k ≡ visit [] left
  chain_none f left k h = same? left 0 (λ e. none_left tb f left k e) (λ e. no_set tb f left k e (omega arith))

  -- a chain, where each of its sets is visited rightly
  chain_is : (n : ℕ) → SetClaim n → (xs : List ℕ) (f left k : ℕ) → Follows tb.sets xs k →
      ((c : ℕ) → Memᴰ c xs → ((tb.sets c).used ≡ true) × ((tb.sets c).level + n ≡ 5)) → length (ordered n xs) ≤ left → 2 * left + 1 ≤ f →
      visit_chain tb f left k ≡ visit (in_turn (list_set tb n) xs) (left - length (ordered n xs))
  unfolding SetClaim in_turn
  chain_is n claim [] f left k follows members room fuel =
      chain_none f left k follows ∙ ap (λ (x : ℕ). visit [] x) (omega arith)
  chain_is n claim (x ∷ xs) f left k follows members room fuel =
      let m = members x (Memᴰ.head refl) in
      let L = length (order tb.sets n x) in
      let some = order_some tb.sets n x in
      let all : length (order tb.sets n x ++ ordered n xs) ≡ L + length (ordered n xs) = length-append (order tb.sets n x) (ordered n xs) in
      let one = claim (f - 1) left x m.0 m.1 (omega arith) (omega arith) in
      let rest = chain_is n claim xs (f - 1) (left - L) (tb.sets x).next_sibling follows.2 (λ c p. members c (Memᴰ.tail p)) (omega arith) (omega arith) in
      ap (λ (y : ℕ). visit_chain tb f left y) follows.0
      ∙ chain_step tb f left x (omega arith) (λ e. omega arith) follows.1
      ∙ ap (λ (v : Visit). behind v.text (visit_chain tb (f - 1) v.left (tb.sets x).next_sibling)) one
      ∙ ap (λ (v : Visit). behind (list_set tb n x) v) rest
      ∙ ap (λ (y : ℕ). visit (list_set tb n x ++ in_turn (list_set tb n) xs) y) (omega arith)

  -- a set of the highest level has no children
  no_children : (s : ℕ) (xs : List ℕ) → children_of tb.sets s ≡ xs → (tb.sets s).level + 0 ≡ 5 → xs ≡ []
  no_children s [] e h = refl
  no_children s (x ∷ xs) e h =
      absurd (omega (arith, ok.tree.kid_lvl s x (subst (λ (l : List ℕ). Memᴰ x l) (sym e) (Memᴰ.head refl)), ok.highest x))

  -- a set, whose children stand one level below it
  set_is : (n : ℕ) → SetClaim n
  unfolding SetClaim list_set order
  set_is zero f left s used level room fuel =
      let none = no_children s (children_of tb.sets s) refl level in
      let last = subst (λ (l : List ℕ). Follows tb.sets l (tb.sets s).first_child) none (ok.follows s used) in
      set_step tb f left s (omega arith)
      ∙ ap (λ (v : Visit). behind (set_text tb s) v) (chain_none (f - 1) (left - 1) (tb.sets s).first_child last)
      ∙ ap (λ (l : List ℕ). visit l (left - 1)) (append-nil (set_text tb s))
  set_is (suc n) f left s used level room fuel =
      let L = length (ordered n (children_of tb.sets s)) in
      let rest = chain_is n (set_is n) (children_of tb.sets s) (f - 1) (left - 1) (tb.sets s).first_child (ok.follows s used)
      (λ c p. (ok.tree.kid_used s c p, omega (arith, ok.tree.kid_lvl s c p))) (omega arith) (omega arith) in
      set_step tb f left s (omega arith)
      ∙ ap (λ (v : Visit). behind (set_text tb s) v) rest
      ∙ ap (λ (y : ℕ). visit (set_text tb s ++ in_turn (list_set tb n) (children_of tb.sets s)) y) (omega arith)

  -- LAW: with 8 sets not visited yet, the whole listing is visited
  pub listing_is : (visit_set tb 16 8 0).text ≡ listing tb
  unfolding SetClaim listing
  listing_is =
      ap (λ (v : Visit). v.text)
      (set_is 5 16 8 0 ok.root_used (omega (arith, ok.root_level)) (order_most tb.sets ok 5 0 (omega arith)) (omega arith))
