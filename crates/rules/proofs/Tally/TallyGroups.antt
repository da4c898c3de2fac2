-- The extra pages of a write by groups: the tally's test, in one group with a touched page, passes at the store's two runs of pages. Assumes nothing.
use mathlib.Core.Bool.{◌&&◌, Bool, false, not, true}
use mathlib.Core.List.{◌++◌, List, []}
use mathlib.Core.Logic.{◌⊎◌, inl, inr, ⊎_elim}
use mathlib.Core.Path.{ap, refl, sym, ◌∙◌, ◌≡◌}
use Prim.Native.Nat.{◌+◌, ◌-◌, ◌/◌, ◌<◌, min, suc, zero, ℕ, ◌≤◌}
use native.Mathlib.Omega.{arith}
use lib.Dec.{eqb, leb, ltb}
use borrow.Author.Tests.{eq-eqb, le-leb, leb-false, leb-true, lt-leb, ltb-false, ltb-true, ne_eqb}
use Rattle.base.specs.Logic.{and_false, or_right, same?, test?}
use Rattle.rules.proofs.Steps.Groups.{group_before, group_behind, group_down, group_low, group_order, group_some, group_up}
use Rattle.rules.proofs.Steps.StepFour.{each_append}
use Rattle.rules.proofs.Tally.TallyLoops.{from_last, from_none}
use Rattle.rules.specs.Rules.{each, extra_pages, from, group_end, group_first, group_size}
use Rattle.rules.specs.State.{largest_size, page_bytes, page_count}
use Rattle.rules.specs.Tally.{any_page, each_page, holds_byte, is_extra}

-- ps are the pages below 64 that pass, in two runs: the ones from first on, as many as number, and behind them the ones from next on, as many as more
pub record PagesOfTwo (ps : List ℕ) (touches : ℕ → Bool) : Type 0 where
  pub first : ℕ
  pub number : ℕ
  pub next : ℕ
  pub more : ℕ
  pub is : ps ≡ from first number ++ from next more
  pub order : first + number ≤ next
  pub fit : next + more ≤ page_count
  pub passes : (p : ℕ) → first ≤ p → p < first + number → touches p ≡ true
  pub passes_too : (p : ℕ) → next ≤ p → p < next + more → touches p ≡ true
  pub before : (p : ℕ) → p < first → touches p ≡ false
  pub between : (p : ℕ) → first + number ≤ p → p < next → touches p ≡ false
  pub behind : (p : ℕ) → next + more ≤ p → p < page_count → touches p ≡ false

-- how many of the pages from a on, as many as k, are below n
run_none : (n a k : ℕ) → n ≤ a → min (n - a) k ≡ 0
run_none n a k l = omega arith

run_more : (n a k : ℕ) → a ≤ n → n < a + k → min (suc n - a) k ≡ suc (min (n - a) k)
run_more n a k l h = omega arith

run_at : (n a k : ℕ) → a ≤ n → n < a + k → a + min (n - a) k ≡ n
run_at n a k l h = omega arith

run_same : (n a k : ℕ) → (n < a) ⊎ (a + k ≤ n) → min (suc n - a) k ≡ min (n - a) k
run_same n a k h = ⊎_elim (λ l. omega arith) (λ l. omega arith) h

module _ {ps : List ℕ} {touches : ℕ → Bool} (r : PagesOfTwo ps touches) {W : Type 0} (g turn : ℕ → W → W) (yes : (p : ℕ) (w : W) → p < page_count → touches p ≡ true → turn p w ≡ g p w)
    (no : (p : ℕ) (w : W) → p < page_count → touches p ≡ false → turn p w ≡ w) where
  abbrev done : ℕ → W → W
  done n w = each g (from r.first (min (n - r.first) r.number)) w

  abbrev done_too : ℕ → W → W
  done_too n w = each g (from r.next (min (n - r.next) r.more)) w

  -- a page of the first run, of the second, of none
  first_turn : (n : ℕ) (w : W) → r.first ≤ n → n < r.first + r.number → done_too (suc n) (done (suc n) w) ≡ g n (done_too n (done n w))
  first_turn n w l h =
      let o : r.first + r.number ≤ r.next = r.order in
      let q = run_more n r.first r.number l h in
      let z = run_at n r.first r.number l h in
      let x = run_none (suc n) r.next r.more (omega arith) in
      let y = run_none n r.next r.more (omega arith) in
      rw (x, y, q) (from_none g r.next _ ∙ from_last g (min (n - r.first) r.number) r.first w ∙ rw z (ap (g n) (sym (from_none g r.next _))))

  next_turn : (n : ℕ) (w : W) → r.next ≤ n → n < r.next + r.more → done_too (suc n) (done (suc n) w) ≡ g n (done_too n (done n w))
  next_turn n w l h =
      let o : r.first + r.number ≤ r.next = r.order in
      let q = run_more n r.next r.more l h in
      let z = run_at n r.next r.more l h in
      let x = run_same n r.first r.number (inr (omega arith)) in
      rw (x, q) (from_last g (min (n - r.next) r.more) r.next _ ∙ rw z)

  no_turn : (n : ℕ) (w : W) → (n < r.first) ⊎ (r.first + r.number ≤ n) → (n < r.next) ⊎ (r.next + r.more ≤ n) → done_too (suc n) (done (suc n) w) ≡ done_too n (done n w)
  no_turn n w h k = rw (run_same n r.first r.number h, run_same n r.next r.more k)

  to_two : (n : ℕ) → n ≤ page_count → (w : W) → each_page turn n w ≡ done_too n (done n w)
  unfolding each_page
  to_two zero l w =
      rw (run_none 0 r.first r.number (omega arith), run_none 0 r.next r.more (omega arith)) (sym (from_none g r.next _ ∙ from_none g r.first w))
  to_two (suc n) l w =
      let o : r.first + r.number ≤ r.next = r.order in
      let u : n < page_count = omega arith in
      let ih : each_page turn n w ≡ done_too n (done n w) = to_two n (omega arith) w in
      test? (ltb n r.first)
      (λ e. let e' = ltb-true n r.first e in no n _ u (r.before n e') ∙ ih ∙ sym (no_turn n w (inl e') (inl (omega arith))))
      (λ e. let e' = ltb-false n r.first e in
      test? (ltb n (r.first + r.number))
      (λ d. let d' = ltb-true n (r.first + r.number) d in yes n _ u (r.passes n e' d') ∙ ap (g n) ih ∙ sym (first_turn n w e' d'))
      (λ d. let d' = ltb-false n (r.first + r.number) d in
      test? (ltb n r.next)
      (λ c. let c' = ltb-true n r.next c in no n _ u (r.between n d' c') ∙ ih ∙ sym (no_turn n w (inr d') (inl c')))
      (λ c. let c' = ltb-false n r.next c in
      test? (ltb n (r.next + r.more))
      (λ b. let b' = ltb-true n (r.next + r.more) b in yes n _ u (r.passes_too n c' b') ∙ ap (g n) ih ∙ sym (next_turn n w c' b'))
      (λ b. let b' = ltb-false n (r.next + r.more) b in no n _ u (r.behind n b' u) ∙ ih ∙ sym (no_turn n w (inr d') (inr b'))))))

  -- a loop through the 64 pages that changes nothing at a page that does not pass is the loop through the list
  pub each_two : (w : W) → each_page turn page_count w ≡ each g ps w
  each_two w =
      let o : r.first + r.number ≤ r.next = r.order in
      let f : r.next + r.more ≤ page_count = r.fit in
      let e : min (page_count - r.first) r.number ≡ r.number = omega arith in
      let d : min (page_count - r.next) r.more ≡ r.more = omega arith in
      to_two page_count (omega arith) w ∙ rw (e, d) (sym (each_append g (from r.first r.number) (from r.next r.more) w)) ∙ ap (λ l. each g l w) (sym r.is)

any_yes : (n : ℕ) (f : ℕ → Bool) (q : ℕ) → q < n → f q ≡ true → any_page n f ≡ true
unfolding any_page
any_yes zero f q l h = absurd (omega arith)
any_yes (suc n) f q l h = same? q n (λ e. rw (ap f (sym e) ∙ h)) (λ e. or_right (f n) _ (any_yes n f q (omega arith) h))

any_no : (n : ℕ) (f : ℕ → Bool) → ((q : ℕ) → q < n → f q ≡ false) → any_page n f ≡ false
unfolding any_page
any_no zero f h = refl
any_no (suc n) f h = rw (h n (omega arith)) (any_no n f (λ q l. h q (omega arith)))

-- a write of n + 1 bytes: the touched pages are those from a to b
module _ (off n : ℕ) where
  abbrev a : ℕ
  a = off / page_bytes

  abbrev b : ℕ
  b = (off + n) / page_bytes

  touches_in : (p : ℕ) → a ≤ p → p ≤ b → holds_byte off (suc n) p ≡ true
  unfolding holds_byte
  touches_in p l h = let e : off + suc n - 1 ≡ off + n = omega arith in rw (ne_eqb (suc n) 0 (omega arith), e, le-leb a p l, le-leb p b h)

  touches_before : (p : ℕ) → p < a → holds_byte off (suc n) p ≡ false
  unfolding holds_byte
  touches_before p l = rw (ne_eqb (suc n) 0 (omega arith), lt-leb a p l)

  touches_behind : (p : ℕ) → b < p → holds_byte off (suc n) p ≡ false
  unfolding holds_byte
  touches_behind p l = let e : off + suc n - 1 ≡ off + n = omega arith in rw (ne_eqb (suc n) 0 (omega arith), e, lt-leb p b l) (and_false (leb a p))

  module _ (low : off + suc n ≤ largest_size) (g : ℕ) where
    abbrev G : ℕ
    G = group_size g

    -- a page that is not touched is in the group of a touched one, or in no touched group
    with_one : (p q : ℕ) → holds_byte off (suc n) p ≡ false → a ≤ q → q ≤ b → p / G ≡ q / G → is_extra g off (suc n) p ≡ true
    unfolding is_extra
    with_one p q e l h d =
        rw e (any_yes page_count _ q (omega arith) (rw (touches_in q l h, eq-eqb (p / G) (q / G) d)))

    with_none : (p : ℕ) → ((q : ℕ) → a ≤ q → q ≤ b → p / G ≡ q / G → ⊥) → is_extra g off (suc n) p ≡ false
    unfolding is_extra
    with_none p h =
        rw (any_no page_count (λ q. holds_byte off (suc n) q && eqb (p / G) (q / G)) (λ q l. go q)) (and_false (not (holds_byte off (suc n) p)))
      where
        go : (q : ℕ) → (holds_byte off (suc n) q && eqb (p / G) (q / G)) ≡ false
        go q =
            test? (leb a q)
            (λ x. test? (leb q b)
            (λ y. rw (ne_eqb (p / G) (q / G) (h q (leb-true a q x) (leb-true q b y))) (and_false (holds_byte off (suc n) q)))
            (λ y. rw (touches_behind q (leb-false q b y))))
            (λ x. rw (touches_before q (leb-false a q x)))

    touched_none : (p : ℕ) → a ≤ p → p ≤ b → is_extra g off (suc n) p ≡ false
    unfolding is_extra
    touched_none p l h = rw (touches_in p l h)

-- THE EXTRA PAGES
pub extra_pages_law : (g off n : ℕ) → off + n ≤ largest_size → PagesOfTwo (extra_pages g off n) (is_extra g off n)
unfolding extra_pages from is_extra holds_byte
extra_pages_law g off zero l = record {
  first = 0;
  number = 0;
  next = 0;
  more = 0;
  is = none;
  order = omega arith;
  fit = omega arith;
  passes = λ p x y. absurd (omega arith);
  passes_too = λ p x y. absurd (omega arith);
  before = λ p x. absurd (omega arith);
  between = λ p x y. absurd (omega arith);
  behind = λ p x y. no p;
}
  where
    none : ◌≡◌ {A = List ℕ} [] (from 0 0 ++ from 0 0)
    none = refl

    no : (p : ℕ) → is_extra g off 0 p ≡ false
    no p = any_no page_count _ (λ q l. refl)
extra_pages_law g off (suc n) l =
    let G : ℕ = group_size g in
    let a : ℕ = off / page_bytes in
    let b : ℕ = (off + n) / page_bytes in
    let some : 0 < G = group_some g in
    let low : group_first g a ≤ a = group_low g a in
    let up : a ≤ b = omega arith in
    let end : b ≤ 63 = omega arith in
    record {
      first = group_first g a;
      number = a - group_first g a;
      next = suc b;
      more = group_end g b - suc b;
      is = refl;
      order = omega arith;
      fit = omega arith;
      passes = λ p x y. with_one off n l g p a (touches_before off n p (omega arith)) (omega arith) up (group_down G some a p (omega arith) (omega arith));
      passes_too = λ p x y. with_one off n l g p b (touches_behind off n p (omega arith)) up (omega arith) (group_up G some b p (omega arith) (omega arith));
      before = λ p x. with_none off n l g p (λ q y z e. let h = group_before G some a p x in let k = group_order G some a q y in omega arith);
      between = λ p x y. touched_none off n l g p (omega arith) (omega arith);
      behind = λ p x y. with_none off n l g p (λ q u v e. let h = group_behind G some b p (omega arith) in let k = group_order G some q b v in omega arith);
    }
