-- The order of a listing: no set stands in it twice, so it has at most 8 sets. Assumes nothing.
use mathlib.Core.List.Memᴰ
use mathlib.Core.List.{◌++◌, List, Memᴰ, ◌∷◌, []}
use mathlib.Core.Logic.{⊎_elim}
use mathlib.Core.Path.{ap, refl, sym, ◌∙◌, ◌≡◌}
use Prim.Native.Nat.{◌+◌, ◌<◌, suc, zero, ℕ, ◌≤◌}
use native.Mathlib.Omega.{arith}
use lib.ListN.{length}
use Rattle.listing.specs.Listing.{in_turn}
use Rattle.rules.proofs.Tree.Chains.{few_below}
use Rattle.rules.proofs.Tree.SetsOk.{SetsOk, child_below, children_once}
use Rattle.rules.proofs.Steps.WriterSteps.{NoDup}
use Rattle.rules.specs.State.{SetRecord, children_of}

-- LISTS
-- two lists with no member in common
nodup_append : (a b : List ℕ) → NoDup a → NoDup b → ((x : ℕ) → Memᴰ x a → Memᴰ x b → ⊥) → NoDup (a ++ b)
nodup_append [] b A B h = B
nodup_append (y ∷ a) b A B h = (
  λ m. ⊎_elim (λ l. A.0 l) (λ r. h y (Memᴰ.head refl) r) (Memᴰ.append_cases a m),
  nodup_append a b A.1 B (λ x l r. h x (Memᴰ.tail l) r),
)

module _ (g : ℕ → List ℕ) where
  -- what stands in one of the lists
  turn_mem : (xs : List ℕ) (x : ℕ) → Memᴰ x (in_turn g xs) → (c : ℕ) × Memᴰ c xs × Memᴰ x (g c)
  unfolding in_turn
  turn_mem [] x m = elim m [ ]
  turn_mem (y ∷ ys) x m =
      ⊎_elim (λ l. (y, Memᴰ.head refl, l))
      (λ r. let q = turn_mem ys x r in (q.0, Memᴰ.tail q.1, q.2))
      (Memᴰ.append_cases (g y) m)

  -- no list has a member twice, and no two of them have one in common
  turn_once : (xs : List ℕ) → NoDup xs → ((c : ℕ) → Memᴰ c xs → NoDup (g c)) →
      ((c d x : ℕ) → Memᴰ c xs → Memᴰ d xs → Memᴰ x (g c) → Memᴰ x (g d) → c ≡ d) → NoDup (in_turn g xs)
  unfolding in_turn
  turn_once [] n each apart = tt
  turn_once (y ∷ ys) n each apart =
      nodup_append (g y) (in_turn g ys) (each y (Memᴰ.head refl))
      (turn_once ys n.1 (λ c m. each c (Memᴰ.tail m)) (λ c d x mc md. apart c d x (Memᴰ.tail mc) (Memᴰ.tail md)))
      (λ x l r. let q = turn_mem ys x r in
      n.0 (Memᴰ.cast (apart y q.0 x (Memᴰ.head refl) (Memᴰ.tail q.1) l q.2) q.1))

module _ (sets : ℕ → SetRecord) where
  -- set s and the sets n levels below it, in the order of the listing
  unfoldable pub order : ℕ → ℕ → List ℕ
  order zero s = s ∷ []
  order (suc n) s = s ∷ in_turn (order n) (children_of sets s)

  pub order_some : (n s : ℕ) → 1 ≤ length (order n s)
  unfolding order
  order_some zero s = omega arith
  order_some (suc n) s = omega arith

  -- i parents up
  climb : ℕ → ℕ → ℕ
  climb zero x = x
  climb (suc i) x = (sets (climb i x)).parent

  -- x stands below s, as many levels as there are parents between
  record Under (s x : ℕ) : Type 0 where
    steps : ℕ
    levels : (sets x).level ≡ steps + (sets s).level
    reaches : climb steps x ≡ s

  -- a set stands below one set of a level only
  under_one : (c d x : ℕ) → (sets c).level ≡ (sets d).level → Under c x → Under d x → c ≡ d
  under_one c d x e p q =
      let i : p.steps ≡ q.steps = omega (arith, p.levels, q.levels) in
      sym p.reaches ∙ ap (λ (k : ℕ). climb k x) i ∙ q.reaches

  module _ (ok : SetsOk sets) where
    order_under : (n s x : ℕ) → Memᴰ x (order n s) → Under s x
    unfolding order climb
    order_under zero s x m =
        ⊎_elim (λ e. record { steps = 0; levels = ap (λ (k : ℕ). (sets k).level) e ∙ sym (omega arith); reaches = e }) (λ k. elim k [ ]) (Memᴰ.cases_cons m)
    order_under (suc n) s x m =
        ⊎_elim (λ e. record { steps = 0; levels = ap (λ (k : ℕ). (sets k).level) e ∙ sym (omega arith); reaches = e })
        (λ k. let q = turn_mem (order n) (children_of sets s) x k in
        let u = order_under n q.0 x q.2 in
        record {
          steps = suc u.steps;
          levels = omega (arith, u.levels, ok.tree.kid_lvl s q.0 q.1);
          reaches = ap (λ (k : ℕ). (sets k).parent) u.reaches ∙ ok.tree.kid_par s q.0 q.1;
        })
        (Memᴰ.cases_cons m)

    order_once : (n s : ℕ) → NoDup (order n s)
    unfolding order
    order_once zero s = (λ m. elim m [ ], tt)
    order_once (suc n) s = (
      λ m. let q = turn_mem (order n) (children_of sets s) s m in
          let u = order_under n q.0 s q.2 in
          omega (arith, u.levels, ok.tree.kid_lvl s q.0 q.1),
      turn_once (order n) (children_of sets s) (children_once sets ok s) (λ c m. order_once n c)
          (λ c d x mc md xc xd. under_one c d x (ok.tree.kid_lvl s c mc ∙ sym (ok.tree.kid_lvl s d md)) (order_under n c x xc) (order_under n d x xd)),
    )

    order_below : (n s x : ℕ) → s < 8 → Memᴰ x (order n s) → x < 8
    unfolding order
    order_below zero s x h m = ⊎_elim (λ e. omega arith) (λ k. elim k [ ]) (Memᴰ.cases_cons m)
    order_below (suc n) s x h m =
        ⊎_elim (λ e. omega arith)
        (λ k. let q = turn_mem (order n) (children_of sets s) x k in order_below n q.0 x (child_below sets ok s q.0 q.1) q.2)
        (Memᴰ.cases_cons m)

    -- LAW: at most 8 sets
    pub order_most : (n s : ℕ) → s < 8 → length (order n s) ≤ 8
    order_most n s h = few_below 8 (order n s) (order_once n s) (λ x m. order_below n s x h m)
