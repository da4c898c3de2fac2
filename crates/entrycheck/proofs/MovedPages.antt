-- Blocks of pages that become seen, page by page and four pages at a time: each step, steps one after another, and the end. Assumes nothing.
use mathlib.Core.Bool.{◌&&◌, Bool, false, not, true, true≢false}
use mathlib.Core.List.{List}
use mathlib.Core.Option.{none-ne-some}
use mathlib.Core.Path.{ap, refl, subst, sym, ◌∙◌, ◌≡◌}
use Prim.Native.Nat.{◌+◌, ◌-◌, ◌<◌, suc, zero, ℕ, ◌≤◌}
use native.Mathlib.Nat.{zero-add}
use native.Mathlib.Omega.{arith}
use lib.Dec.{eqb, ltb}
use lib.ListN.{length}
use borrow.Author.Tests.{lt-ltb, ltb-true}
use Rattle.base.specs.Count.{all_at, all_of, count, count_less, count_none, count_same, sum}
use Rattle.base.specs.Logic.{and_left, digit, same?, test?}
use Rattle.entrycheck.proofs.Runs.{above_run, in_run_law, in_run, not_in_run, run_counts, run?, run_pass}
use Rattle.entrycheck.specs.Seeing.{Sees}
use Rattle.entrycheck.specs.Moving.{Moved, no_page, times_left}
use Rattle.packing.specs.Bitmap.{bit_at}
use Rattle.rules.proofs.Blocks.Sums.{sum_same}

-- the pages left without p, .., p + n - 1
abbrev pub without : ℕ → ℕ → (ℕ → Bool) → ℕ → Bool
without p n left q = left q && not (in_run p n q)

and_not : (a b : Bool) → b ≡ false → (a && not b) ≡ a
and_not true true h = sym h
and_not true false h = refl
and_not false b h = refl

and_gone : (a b : Bool) → b ≡ true → (a && not b) ≡ false
and_gone true true h = refl
and_gone true false h = sym h
and_gone false b h = refl

and_not_left : (a b : Bool) → a ≡ true → (a && not b) ≡ false → b ≡ true
and_not_left true true h k = refl
and_not_left true false h k = sym k
and_not_left false b h k = absurd (true≢false (sym h))

module _ (block : ℕ → ℕ) where
  times_same : (left left' : ℕ → Bool) → ((p : ℕ) → p < 64 → left' p ≡ left p) → (b : ℕ) → times_left block left' b ≡ times_left block left b
  unfolding times_left
  times_same left left' h b = count_same 64 (λ p. left p && eqb b (block p)) (λ p. left' p && eqb b (block p)) (λ p l. ap (λ o. o && eqb b (block p)) (h p l))

  pub times_none : (left : ℕ → Bool) → ((p : ℕ) → p < 64 → left p ≡ false) → (b : ℕ) → times_left block left b ≡ 0
  unfolding times_left
  times_none left h b = count_none 64 (λ p. left p && eqb b (block p)) (λ p l. ap (λ o. o && eqb b (block p)) (h p l))

  -- one page less
  times_one : (left left' : ℕ → Bool) (p b : ℕ) → p < 64 → left p ≡ true → left' p ≡ false → ((q : ℕ) → (p ≡ q → ⊥) → left' q ≡ left q)
      → times_left block left b ≡ digit (eqb b (block p)) + times_left block left' b
  unfolding times_left
  times_one left left' p b h on off o =
      let f : ℕ → Bool = (λ q. left q && eqb b (block q)) in
      let g : ℕ → Bool = (λ q. left' q && eqb b (block q)) in
      let gone : g p ≡ false = ap (λ z. z && eqb b (block p)) off in
      let here : f p ≡ eqb b (block p) = ap (λ z. z && eqb b (block p)) on in
      test? (eqb b (block p))
      (λ e. rw e (let r = count_less 64 f g p h (here ∙ e) gone (λ q n. ap (λ z. z && eqb b (block q)) (o q n)) in omega arith))
      (λ e. rw e (count_same 64 g f (λ q l. same_at q (here ∙ e) gone o) ∙ sym (zero-add (count 64 g))))
    where
      same_at : (q : ℕ) → (left p && eqb b (block p)) ≡ false → (left' p && eqb b (block p)) ≡ false → ((q : ℕ) → (p ≡ q → ⊥) → left' q ≡ left q)
          → (left q && eqb b (block q)) ≡ (left' q && eqb b (block q))
      same_at q x y o = same? p q (λ e. subst (λ z. (left z && eqb b (block z)) ≡ (left' z && eqb b (block z))) e (x ∙ sym y)) (λ n. ap (λ z. z && eqb b (block q)) (sym (o q n)))

  -- the pages of a run less
  times_run : (left : ℕ → Bool) (p n b : ℕ) → p + n ≤ 64 → ((j : ℕ) → j < n → left (p + j) ≡ true)
      → times_left block left b ≡ sum n (λ j. digit (eqb b (block (p + j)))) + times_left block (without p n left) b
  unfolding sum
  times_run left p zero b h on = sym (times_same left (without p zero left) (λ q l. and_not (left q) (in_run p zero q) (not_in_run p zero q (λ a c. omega arith))) b) ∙ sym (zero-add _)
  times_run left p (suc n) b h on =
      let r = times_run left p n b (omega arith) (λ j l. on j (omega arith)) in
      let o = times_one (without p n left) (without p (suc n) left) (p + n) b (omega arith)
      (and_not (left (p + n)) (in_run p n (p + n)) (above_run p n (p + n) (omega arith)) ∙ on n (omega arith))
      (and_gone (left (p + n)) (in_run p (suc n) (p + n)) (in_run_law p (suc n) (p + n) (omega arith) (omega arith)))
      (λ q d. ap (λ z. left q && not z) (run? p n q
      (λ a c. in_run_law p (suc n) q a (omega arith) ∙ sym (in_run_law p n q a c))
      (λ e. not_in_run p (suc n) q (λ a c. e a (omega arith)) ∙ sym (not_in_run p n q e)))) in
      omega arith

-- ---- steps

module _ (limit : ℕ) (block : ℕ → ℕ) where
  -- LAW: no step
  pub moved_none : (l : List ℕ) (left : ℕ → Bool) → length l ≡ 512 → Moved limit block l l left left true
  moved_none l left h = record {
    len = h;
    within = λ p k e. e;
    counts = λ o b. refl;
    low = λ o p k e d. absurd (true≢false (sym e ∙ d));
    fails = λ o. absurd (true≢false o);
  }

  -- LAW: one step after another
  pub moved_then : (l l' l'' : List ℕ) (left left' left'' : ℕ → Bool) (ok : Bool)
      → Moved limit block l l' left left' true → Moved limit block l' l'' left' left'' ok → Moved limit block l l'' left left'' ok
  moved_then l l' l'' left left' left'' ok a b = record {
    len = b.len;
    within = λ p k e. a.within p k (b.within p k e);
    counts = λ o c. b.counts o c ∙ a.counts refl c;
    low = λ o p k e d. test? (left' p) (λ x. b.low o p k x d) (λ x. a.low refl p k e x);
    fails = λ o h. b.fails o (record { low = λ p k e. h.low p k (a.within p k e); once = λ c. let q = a.counts refl c in omega (arith, h.once c) });
  }

  -- LAW: where it did not go well, it makes no difference which pages are left
  pub moved_not : (l l' : List ℕ) (left left' : ℕ → Bool) → Moved limit block l l' left left' false → Moved limit block l l' left no_page false
  moved_not l l' left left' m = record {
    len = m.len;
    within = λ p q d. absurd (true≢false (sym d));
    counts = λ o. absurd (true≢false (sym o));
    low = λ o. absurd (true≢false (sym o));
    fails = m.fails;
  }

  -- LAW: the pages that are left may be told by another function
  pub moved_left : (l l' : List ℕ) (left left' left'' : ℕ → Bool) (ok : Bool) → ((p : ℕ) → p < 64 → left'' p ≡ left' p)
      → Moved limit block l l' left left' ok → Moved limit block l l' left left'' ok
  moved_left l l' left left' left'' ok h m = record {
    len = m.len;
    within = λ p k e. m.within p k (sym (h p k) ∙ e);
    counts = λ o b. ap (λ n. digit (bit_at l' 0 b) + n) (times_same block left' left'' h b) ∙ m.counts o b;
    low = λ o p k e d. m.low o p k e (sym (h p k) ∙ d);
    fails = m.fails;
  }

  -- ---- the blocks of n pages from p on, which stand in a row from b on

  module _ (l l' : List ℕ) (left : ℕ → Bool) (p n b : ℕ) (h : p + n ≤ 64) (on : (j : ℕ) → j < n → left (p + j) ≡ true) (row : (j : ℕ) → j < n → block (p + j) ≡ b + j) where
    named_row : (c : ℕ) → sum n (λ j. digit (eqb c (block (p + j)))) ≡ sum n (λ j. digit (eqb c (b + j)))
    named_row c = sum_same n (λ j. digit (eqb c (block (p + j)))) (λ j. digit (eqb c (b + j))) (λ j k. ap (λ z. digit (eqb c z)) (row j k))

    times_row : (c : ℕ) → times_left block left c ≡ sum n (λ j. digit (eqb c (b + j))) + times_left block (without p n left) c
    times_row c = times_run block left p n c h on ∙ ap (λ z. z + times_left block (without p n left) c) (named_row c)

    -- LAW: they become seen
    pub row_moved : Sees (run_pass limit b n) l l' true → Moved limit block l l' left (without p n left) true
    row_moved m =
        let r = (run_counts limit b n).counts (bit_at l 0) (bit_at l' 0) m.sees in
        record {
          len = m.len;
          within = λ q k e. and_left (left q) (not (in_run p n q)) e;
          counts = λ o c. let q = r.1 c in let z = times_row c in omega arith;
          low = λ o q k e d. run? p n q
              (λ a c. let j = q - p in
              let s : p + j ≡ q = omega arith in
              let w : block q ≡ b + j = ap block (sym s) ∙ row j (omega arith) in
              let g = ltb-true (b + j) limit (all_at n (λ j. ltb (b + j) limit) r.0 j (omega arith)) in omega arith)
              (λ x. absurd (true≢false (sym (and_not_left (left q) (in_run p n q) e d) ∙ not_in_run p n q x)));
          fails = λ o. absurd (true≢false o);
        }

    -- LAW: one of them cannot
    pub row_fails : Sees (run_pass limit b n) l l' false → Moved limit block l l' left left false
    row_fails m = record {
      len = m.len;
      within = λ q k e. e;
      counts = λ o. absurd (true≢false (sym o));
      low = λ o. absurd (true≢false (sym o));
      fails = λ o can.
          let r = (run_counts limit b n).passes (bit_at l 0)
          (all_of n (λ j. ltb (b + j) limit) (λ j k. lt-ltb (b + j) limit (subst (λ z. z < limit) (row j k) (can.low (p + j) (omega arith) (on j k)))))
          (λ c k. let q = can.once c in let z = times_row c in omega arith) in
          none-ne-some r.0 (sym m.sees ∙ r.1);
    }
