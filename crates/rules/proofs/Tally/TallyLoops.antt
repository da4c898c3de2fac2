-- The loops and counts of the tally, which go through the 64 pages with a test, are those of the store, which go through lists of pages. Assumes nothing.
use mathlib.Core.Bool.{◌&&◌, Bool, cond, false, not, true, true≢false}
use mathlib.Core.List.{List, Memᴰ, ◌∷◌, []}
use mathlib.Core.Logic.{⊎_elim}
use mathlib.Core.Path.{ap, refl, subst, sym, ◌∙◌, ◌≡◌}
use Prim.Native.Nat.{◌%◌, ◌+◌, ◌-◌, ◌/◌, ◌<◌, min, suc, zero, ℕ, ◌≤◌}
use native.Mathlib.Nat.{add-zero, zero-add}
use native.Mathlib.Omega.{arith}
use lib.Dec.{eqb, leb, ltb}
use lib.ListN.{length}
use borrow.Author.Tests.{eq-eqb, le-leb, lt-leb, lt-ltb, ltb-false, ltb-true, ne_eqb}
use Rattle.base.specs.Count.{count, sum}
use Rattle.base.specs.Logic.{and_both, and_false, and_left, and_right, and_true, same?, test?}
use Rattle.base.specs.Update.{upd, upd_other, upd_same}
use Rattle.rules.proofs.Agreement.Agree.{from_high, from_low, from_mem, from_once}
use Rattle.rules.proofs.Blocks.Sums.{count_sum, sum_same}
use Rattle.rules.proofs.Steps.StepFour.{each_all, each_inv}
use Rattle.rules.proofs.Steps.WriterSteps.{NoDup, mem?}
use Rattle.rules.specs.Rules.{count_in, cut_pages, dropped_pages, each, from, kept_pages, sum_in, touched}
use Rattle.rules.specs.State.{is_stored, largest_size, page_bytes, page_count}
use Rattle.rules.specs.Tally.{Kind, each_child, each_page, holds_byte, part_page, truncate_touches}

pub each_child_law : {W : Type 0} (f : ℕ → W → W) (cs : List ℕ) (w : W) → each_child f cs w ≡ each f cs w
unfolding each_child each
each_child_law f [] w = refl
each_child_law f (c ∷ cs) w = each_child_law f cs (f c w)

-- A loop that changes a part only: view is the part, back puts another part in its place.
module _ {A W P : Type 0} (view : W → P) (back : W → P → W) (same : (w : W) → back w (view w) ≡ w)
    (again : (w : W) (x y : P) → back (back w x) y ≡ back w y) (seen : (w : W) (x : P) → view (back w x) ≡ x) where
  pub each_part : (f : A → W → W) (g : A → P → P) → ((a : A) (w : W) → f a w ≡ back w (g a (view w))) → (xs : List A) (w : W) → each f xs w ≡ back w (each g xs (view w))
  unfolding each
  each_part f g h [] w = sym (same w)
  each_part f g h (x ∷ xs) w =
      rw (h x w) (each_part f g h xs (back w (g x (view w))) ∙ rw (seen w (g x (view w))) (again w _ _))

module _ {W : Type 0} (g : ℕ → W → W) where
  -- nothing is done yet
  pub from_none : (a : ℕ) (w : W) → each g (from a 0) w ≡ w
  unfolding each from
  from_none a w = refl

  -- the last turn
  pub from_last : (n a : ℕ) (w : W) → each g (from a (suc n)) w ≡ g (a + n) (each g (from a n) w)
  unfolding each from
  from_last zero a w = let e : a + 0 ≡ a = omega arith in rw e
  from_last (suc n) a w = let e : suc a + n ≡ a + suc n = omega arith in from_last n (suc a) (g a w) ∙ rw e

pub from_length : (n a : ℕ) → length (from a n) ≡ n
unfolding from
from_length zero a = refl
from_length (suc n) a = rw (from_length n (suc a))

pub page_inv : {W : Type 0} (f : ℕ → W → W) (I : W → Type 0) (n : ℕ) → ((p : ℕ) (w : W) → p < n → I w → I (f p w)) → (w : W) → I w → I (each_page f n w)
unfolding each_page
page_inv f I zero h w i = i
page_inv f I (suc n) h w i = h n _ (omega arith) (page_inv f I n (λ p v l. h p v (omega arith)) w i)

-- ps are the pages below 64 that pass: the ones from first on, as many as number
pub record PagesOf (ps : List ℕ) (touches : ℕ → Bool) : Type 0 where
  pub first : ℕ
  pub number : ℕ
  pub is : ps ≡ from first number
  pub fit : first + number ≤ page_count
  pub passes : (p : ℕ) → first ≤ p → p < first + number → touches p ≡ true
  pub before : (p : ℕ) → p < first → touches p ≡ false
  pub behind : (p : ℕ) → first + number ≤ p → p < page_count → touches p ≡ false

module _ {ps : List ℕ} {touches : ℕ → Bool} (r : PagesOf ps touches) where
  pub pages_passed : (p : ℕ) → Memᴰ p ps → (p < page_count) × (touches p ≡ true)
  pages_passed p m =
      let m' : Memᴰ p (from r.first r.number) = subst (λ l. Memᴰ p l) r.is m in
      let a = from_low r.first r.number p m' in
      let b = from_high r.first r.number p m' in
      (omega arith, r.passes p a b)

  pages_listed : (p : ℕ) → p < page_count → touches p ≡ true → Memᴰ p ps
  pages_listed p l h =
      subst (λ l. Memᴰ p l) (sym r.is)
      (test? (ltb p r.first) (λ e. absurd (true≢false (sym h ∙ r.before p (ltb-true p r.first e))))
      (λ e. test? (ltb p (r.first + r.number)) (λ d. from_mem r.first r.number p (ltb-false p r.first e) (ltb-true p (r.first + r.number) d))
      (λ d. absurd (true≢false (sym h ∙ r.behind p (ltb-false p (r.first + r.number) d) l)))))

  pub pages_once : NoDup ps
  pages_once = rw r.is (from_once r.first r.number)

  -- a loop through the 64 pages that changes nothing at a page that does not pass is the loop through the list
  module _ {W : Type 0} (g turn : ℕ → W → W) (yes : (p : ℕ) (w : W) → p < page_count → touches p ≡ true → turn p w ≡ g p w)
      (no : (p : ℕ) (w : W) → p < page_count → touches p ≡ false → turn p w ≡ w) where
    to_page : (n : ℕ) → n ≤ page_count → (w : W) → each_page turn n w ≡ each g (from r.first (min (n - r.first) r.number)) w
    unfolding each_page
    to_page zero l w = let e : min (0 - r.first) r.number ≡ 0 = omega arith in rw e (sym (from_none g r.first w))
    to_page (suc n) l w =
        test? (ltb n r.first)
        (λ e. let e' = ltb-true n r.first e in
        let q : min (suc n - r.first) r.number ≡ min (n - r.first) r.number = omega arith in
        rw q (no n _ (omega arith) (r.before n e') ∙ to_page n (omega arith) w))
        (λ e. let e' = ltb-false n r.first e in
        test? (ltb n (r.first + r.number))
        (λ d. let d' = ltb-true n (r.first + r.number) d in
        let q : min (suc n - r.first) r.number ≡ suc (min (n - r.first) r.number) = omega arith in
        let z : r.first + min (n - r.first) r.number ≡ n = omega arith in
        rw q (yes n _ (omega arith) (r.passes n e' d') ∙ ap (g n) (to_page n (omega arith) w) ∙ sym (from_last g (min (n - r.first) r.number) r.first w ∙ rw z)))
        (λ d. let d' = ltb-false n (r.first + r.number) d in
        let q : min (suc n - r.first) r.number ≡ min (n - r.first) r.number = omega arith in
        rw q (no n _ (omega arith) (r.behind n d' (omega arith)) ∙ to_page n (omega arith) w)))

    pub each_page_law : (w : W) → each_page turn page_count w ≡ each g ps w
    each_page_law w =
        let f : r.first + r.number ≤ page_count = r.fit in
        let e : min (page_count - r.first) r.number ≡ r.number = omega arith in
        to_page page_count (omega arith) w ∙ rw (e, r.is)

-- sums as loops
add_at : (ℕ → ℕ) → ℕ → ℕ → ℕ
add_at h p n = h p + n

sum_each_page : (n : ℕ) (h : ℕ → ℕ) → sum n h ≡ each_page (add_at h) n 0
unfolding sum each_page add_at
sum_each_page zero h = refl
sum_each_page (suc n) h = rw (sum_each_page n h)

sum_list : (ps : List ℕ) (h : ℕ → ℕ) (n : ℕ) → each (add_at h) ps n ≡ sum_in ps h + n
unfolding sum_in each add_at
sum_list [] h n = sym (zero-add n)
sum_list (p ∷ ps) h n = sum_list ps h (h p + n) ∙ omega arith

-- a count is a sum of ones
count_list : (ps : List ℕ) (h : ℕ → Bool) → count_in ps h ≡ sum_in ps (λ p. cond (h p) 1 0)
unfolding count_in sum_in
count_list [] h = refl
count_list (p ∷ ps) h = rw (count_list ps h)

one_where : (a b : Bool) → ◌≡◌ {A = ℕ} (cond (a && b) 1 0) (cond a (cond b 1 0) 0)
one_where true b = refl
one_where false b = refl

-- a loop that adds g at each of the numbers below n adds their sum
pub sum_loop : (g : ℕ → ℕ) (turn : ℕ → ℕ → ℕ) → ((p m : ℕ) → turn p m ≡ m + g p) → (n m : ℕ) → each turn (from 0 n) m ≡ m + sum n g
unfolding sum
sum_loop g turn h zero m = from_none turn 0 m ∙ sym (add-zero m)
sum_loop g turn h (suc n) m = from_last turn n 0 m ∙ rw (zero-add n, sum_loop g turn h n m) (h n (m + sum n g) ∙ omega arith)

module _ {ps : List ℕ} {touches : ℕ → Bool} (r : PagesOf ps touches) where
  pub sum_pages : (h : ℕ → ℕ) → sum page_count (λ p. cond (touches p) (h p) 0) ≡ sum_in ps h
  unfolding add_at
  sum_pages h =
      sum_each_page page_count (λ p. cond (touches p) (h p) 0)
      ∙ each_page_law r (add_at h) (add_at (λ p. cond (touches p) (h p) 0)) (λ p w l e. rw e) (λ p w l e. rw e (zero-add w)) 0
      ∙ sum_list ps h 0 ∙ add-zero _

  pub count_pages : (h : ℕ → Bool) → count page_count (λ p. touches p && h p) ≡ count_in ps h
  count_pages h =
      count_sum page_count (λ p. touches p && h p)
      ∙ sum_same page_count _ _ (λ p l. one_where (touches p) (h p))
      ∙ sum_pages (λ p. cond (h p) 1 0) ∙ sym (count_list ps h)

-- members of which the same is true are as many
pub count_same_in : (ps : List ℕ) (h k : ℕ → Bool) → ((p : ℕ) → Memᴰ p ps → h p ≡ k p) → count_in ps h ≡ count_in ps k
unfolding count_in
count_same_in [] h k e = refl
count_same_in (p ∷ ps) h k e = rw (e p (mathlib.Core.List.Memᴰ.head refl), count_same_in ps h k (λ q m. e q (mathlib.Core.List.Memᴰ.tail m)))

-- of a list at most all pass
pub count_most : (ps : List ℕ) (h : ℕ → Bool) → count_in ps h ≤ length ps
unfolding count_in
count_most [] h = omega arith
count_most (p ∷ ps) h = let l = count_most ps h in test? (h p) (λ e. rw e (omega arith)) (λ e. rw e (omega arith))

-- another test that says the same
pages_same : {ps : List ℕ} {f g : ℕ → Bool} → PagesOf ps f → ((p : ℕ) → g p ≡ f p) → PagesOf ps g
pages_same r e = record {
  first = r.first;
  number = r.number;
  is = r.is;
  fit = r.fit;
  passes = λ p a b. e p ∙ r.passes p a b;
  before = λ p a. e p ∙ r.before p a;
  behind = λ p a b. e p ∙ r.behind p a b;
}

-- THE LISTS OF THE RULES
pub no_pages : PagesOf [] (λ p. false)
unfolding from
no_pages = record { first = 0; number = 0; is = refl; fit = omega arith; passes = λ p a b. absurd (omega arith); before = λ p a. refl; behind = λ p a b. refl }

pub all_pages : PagesOf (from 0 page_count) (λ p. true)
all_pages = record { first = 0; number = page_count; is = refl; fit = omega arith; passes = λ p a b. refl; before = λ p a. absurd (omega arith); behind = λ p a b. absurd (omega arith) }

within : (a b p : ℕ) → a ≤ p → p ≤ b → (leb a p && leb p b) ≡ true
within a b p h k = rw (le-leb a p h, le-leb p b k)

underneath : (a b p : ℕ) → p < a → (leb a p && leb p b) ≡ false
underneath a b p h = rw (lt-leb a p h)

beyond : (a b p : ℕ) → b < p → (leb a p && leb p b) ≡ false
beyond a b p h = rw (lt-leb p b h) (and_false (leb a p))

-- a write or a read: no byte lies past the largest size
pub byte_pages : (off n : ℕ) → ((n ≡ 0 → ⊥) → off + n ≤ largest_size) → PagesOf (touched off n) (holds_byte off n)
unfolding touched holds_byte from
byte_pages off zero l = record { first = 0; number = 0; is = refl; fit = omega arith; passes = λ p a b. absurd (omega arith); before = λ p a. refl; behind = λ p a b. refl }
byte_pages off (suc n) l =
    let b = l (λ z. omega arith) in
    let e : off + suc n - 1 ≡ off + n = omega arith in
    record {
      first = off / page_bytes;
      number = suc ((off + n) / page_bytes - off / page_bytes);
      is = refl;
      fit = omega arith;
      passes = λ p a b. rw (ne_eqb (suc n) 0 (omega arith), e) (within _ _ p a (omega arith));
      before = λ p a. rw (ne_eqb (suc n) 0 (omega arith), e) (underneath _ _ p a);
      behind = λ p a b. rw (ne_eqb (suc n) 0 (omega arith), e) (beyond _ _ p (omega arith));
    }

-- a truncate to n of a file of z bytes: the touched pages, those that become holes, and the page in which it ends, where that is of kind e
module _ (n z : ℕ) (l : n < z) (h : z ≤ largest_size) where
  pub cut_pages_law : PagesOf (cut_pages n z) (truncate_touches n z)
  unfolding cut_pages truncate_touches
  cut_pages_law = record {
    first = n / page_bytes;
    number = suc ((z - 1) / page_bytes - n / page_bytes);
    is = refl;
    fit = omega arith;
    passes = λ p a b. within _ _ p a (omega arith);
    before = λ p a. underneath _ _ p a;
    behind = λ p a b. beyond _ _ p (omega arith);
  }

  pub dropped_pages_law : PagesOf (dropped_pages n z) (λ p. truncate_touches n z p && not (part_page n p))
  unfolding dropped_pages part_page truncate_touches
  dropped_pages_law =
      test? (eqb (n % page_bytes) 0)
      (λ e. rw e (pages_same cut_pages_law (λ p. and_true _)))
      (λ e. rw e (record {
        first = suc (n / page_bytes);
        number = (z - 1) / page_bytes - n / page_bytes;
        is = refl;
        fit = omega arith;
        passes = λ p a b. rw (ne_eqb p (n / page_bytes) (omega arith)) (and_both _ _ (within _ _ p (omega arith) (omega arith)) refl);
        before = λ p a. test? (ltb p (n / page_bytes))
            (λ d. let d' = ltb-true p (n / page_bytes) d in rw (lt-leb (n / page_bytes) p d'))
            (λ d. let d' = ltb-false p (n / page_bytes) d in let q : p ≡ n / page_bytes = omega arith in rw (eq-eqb p (n / page_bytes) q) (and_false (truncate_touches n z p)));
        behind = λ p a b. rw (lt-leb p ((z - 1) / page_bytes) (omega arith), and_false (leb (n / page_bytes) p));
      }))

  pub kept_pages_law : (e : Kind) → PagesOf (kept_pages n e) (λ p. truncate_touches n z p && part_page n p && is_stored e)
  unfolding kept_pages part_page truncate_touches from
  kept_pages_law e =
      test? (eqb (n % page_bytes) 0)
      (λ d. rw d (pages_same no_pages (λ p. rw (and_false (leb (n / page_bytes) p && leb p ((z - 1) / page_bytes))))))
      (λ d. test? (is_stored e)
      (λ q. rw (d, q) (record {
        first = n / page_bytes;
        number = 1;
        is = refl;
        fit = omega arith;
        passes = λ p a b. let g : p ≡ n / page_bytes = omega arith in rw (within (n / page_bytes) ((z - 1) / page_bytes) p a (omega arith), eq-eqb p (n / page_bytes) g);
        before = λ p a. rw (lt-leb (n / page_bytes) p a);
        behind = λ p a b. rw (ne_eqb p (n / page_bytes) (omega arith), and_false (leb (n / page_bytes) p && leb p ((z - 1) / page_bytes)));
      }))
      (λ q. rw (d, q) (pages_same no_pages (λ p. and_false (truncate_touches n z p && eqb p (n / page_bytes))))))

module _ {A : Type 0} (e : A) where
  pub put_inside : (ps : List ℕ) (m : ℕ → A) (q : ℕ) → Memᴰ q ps → each (λ p g. upd g p e) ps m q ≡ e
  put_inside ps m q i =
      each_all (λ p g. upd g p e) (λ g. Unit {0}) (λ q g. g q ≡ e) ps (λ p g m i. tt) (λ p g m i. upd_same g p e)
      (λ x p g m i h. same? p x (λ n. subst (λ y. upd g p e y ≡ e) n (upd_same g p e)) (λ n. upd_other g p e x n ∙ h)) m tt q i

  pub put_outside : (ps : List ℕ) (m : ℕ → A) (q : ℕ) → (Memᴰ q ps → ⊥) → each (λ p g. upd g p e) ps m q ≡ m q
  put_outside ps m q o = each_inv (λ p g. upd g p e) (λ g. g q ≡ m q) ps (λ p g i h. upd_other g p e q (λ n. o (subst (λ y. Memᴰ y ps) n i)) ∙ h) m refl

-- A value put at each page of a list: afterwards it stands at the pages below 64 that pass, and nothing else has changed.
module _ {A : Type 0} (e : A) {ps : List ℕ} {touches : ℕ → Bool} (r : PagesOf ps touches) where
  pub put_pages : (m : ℕ → A) (q : ℕ) → each (λ p g. upd g p e) ps m q ≡ cond (ltb q page_count && touches q) e (m q)
  put_pages m q =
      ⊎_elim
      (λ i. let h = pages_passed r q i in rw (lt-ltb q page_count h.0, h.1) (put_inside e ps m q i))
      (λ o. test? (ltb q page_count && touches q)
      (λ h. absurd (o (pages_listed r q (ltb-true q page_count (and_left _ _ h)) (and_right (ltb q page_count) _ h))))
      (λ h. rw h (put_outside e ps m q o)))
      (mem? q ps)
