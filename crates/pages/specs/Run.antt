-- A run of stores: consecutive places of a list get the values of a function; its laws. Assumes nothing.
use Rattle.std.specs.Prelude.{◌++◌, List, refl, ◌≡◌, ◌+◌, ◌-◌, ◌<◌, suc, zero, ℕ, ◌≤◌, ltb, drop, get_or, length, set}
use Rattle.std.proofs.Common.{ap, sym, ◌∙◌, add-one, arith, length-append, length-drop, length-set, ext_get_or, get_or-append-add, get_or-drop, get_or-set_other, get_or-set_same, ltb-false, ltb-true}
use Rattle.std.proofs.Math.ListN.{get_or-append}
use Rattle.base.specs.Logic.{same?, test?}
use Rattle.base.specs.Tabulate.{get_d_tab, length_tab, tab}

-- l, with f 0, .., f (n - 1) at the n places from `at` on
pub run : List ℕ → ℕ → (ℕ → ℕ) → ℕ → List ℕ
run l at f zero = l
run l at f (suc n) = set (run l at f n) (at + n) (f n)

pub run_none : (l : List ℕ) (at : ℕ) (f : ℕ → ℕ) → run l at f 0 ≡ l
unfolding run
run_none l at f = refl

-- one store more
pub run_more : (l : List ℕ) (at : ℕ) (f : ℕ → ℕ) (n : ℕ) → run l at f (n + 1) ≡ set (run l at f n) (at + n) (f n)
unfolding run
run_more l at f n = rw add-one

pub length_run : (l : List ℕ) (at : ℕ) (f : ℕ → ℕ) (n : ℕ) → length (run l at f n) ≡ length l
unfolding run
length_run l at f zero = refl
length_run l at f (suc n) = length-set (run l at f n) (at + n) (f n) ∙ length_run l at f n

-- a place that no store of the run hits
pub run_out : (l : List ℕ) (at : ℕ) (f : ℕ → ℕ) (n k : ℕ) → ((j : ℕ) → j < n → at + j ≡ k → ⊥) → get_or (run l at f n) k 0 ≡ get_or l k 0
unfolding run
run_out l at f zero k h = refl
run_out l at f (suc n) k h = get_or-set_other (run l at f n) (at + n) k (f n) 0 (λ e. h n (omega arith) (sym e)) ∙ run_out l at f n k (λ j b. h j (omega arith))

-- the place that store i hits
pub run_in : (l : List ℕ) (at : ℕ) (f : ℕ → ℕ) (n i : ℕ) → i < n → at + n ≤ length l → get_or (run l at f n) (at + i) 0 ≡ f i
unfolding run
run_in l at f zero i b fits = absurd (omega arith)
run_in l at f (suc n) i b fits =
    same? i n
    (λ e. rw e (get_or-set_same (run l at f n) (at + n) (f n) 0 (omega (arith, length_run l at f n))))
    (λ e. get_or-set_other (run l at f n) (at + n) (at + i) (f n) 0 (λ q. e (omega arith)) ∙ run_in l at f n i (omega arith) (omega arith))

-- two runs whose values agree
pub run_same : (l : List ℕ) (at : ℕ) (f g : ℕ → ℕ) (n : ℕ) → ((i : ℕ) → i < n → f i ≡ g i) → run l at f n ≡ run l at g n
unfolding run
run_same l at f g zero h = refl
run_same l at f g (suc n) h =
    ap (λ (d : List ℕ). set d (at + n) (f n)) (run_same l at f g n (λ i b. h i (omega arith)))
    ∙ ap (λ (v : ℕ). set (run l at g n) (at + n) v) (h n (omega arith))

-- a run and the run that begins where it ends are one run
pub run_then : (l : List ℕ) (at : ℕ) (f : ℕ → ℕ) (n m : ℕ) → run (run l at f n) (at + n) (λ i. f (n + i)) m ≡ run l at f (n + m)
unfolding run
run_then l at f n zero = let e : n + 0 ≡ n = omega arith in rw e
run_then l at f n (suc m) =
    let e : at + n + m ≡ at + (n + m) = omega arith in
    let s : n + suc m ≡ suc (n + m) = omega arith in
    rw (s, e, run_then l at f n m)

-- a run at the front: its values, and then the rest of the list
pub run_front : (l : List ℕ) (f : ℕ → ℕ) (n : ℕ) → n ≤ length l → run l 0 f n ≡ tab n f ++ drop n l
run_front l f n h =
    let lt = length_tab n f in
    ext_get_or 0 (run l 0 f n) (tab n f ++ drop n l) (omega (arith, length_run l 0 f n, length-append (tab n f) (drop n l), length-drop n l))
    (λ i b. test? (ltb i n)
    (λ e. let k = ltb-true i n e in
    let z : i ≡ 0 + i = omega arith in
    ap (λ x. get_or (run l 0 f n) x 0) z ∙ run_in l 0 f n i k (omega arith) ∙ sym (get_or-append (tab n f) (drop n l) 0 i (omega arith) ∙ get_d_tab n f i 0 k))
    (λ e. let k = ltb-false i n e in
    let z : i ≡ length (tab n f) + (i - n) = omega arith in
    let y : n + (i - n) ≡ i = omega arith in
    run_out l 0 f n i (λ j m q. omega arith)
    ∙ sym (ap (λ x. get_or (tab n f ++ drop n l) x 0) z ∙ get_or-append-add (tab n f) (drop n l) (i - n) 0 ∙ get_or-drop n l (i - n) 0 ∙ ap (λ x. get_or l x 0) y)))

-- n bytes from `at` on are zero
abbrev pub zeroed : List ℕ → ℕ → ℕ → List ℕ
zeroed l at n = run l at (λ i. 0) n

pub length_zeroed : (l : List ℕ) (at n : ℕ) → length (zeroed l at n) ≡ length l
length_zeroed l at n = length_run l at (λ i. 0) n

-- a byte elsewhere
pub zeroed_out : (l : List ℕ) (at n i : ℕ) → (at ≤ i → i < at + n → ⊥) → get_or (zeroed l at n) i 0 ≡ get_or l i 0
zeroed_out l at n i h = run_out l at (λ j. 0) n i (λ j b q. h (omega arith) (omega arith))

-- one of them
pub zeroed_in : (l : List ℕ) (at n i : ℕ) → at ≤ i → i < at + n → at + n ≤ length l → get_or (zeroed l at n) i 0 ≡ 0
zeroed_in l at n i a b fits =
    let e : at + (i - at) ≡ i = omega arith in
    ap (λ x. get_or (zeroed l at n) x 0) (sym e) ∙ run_in l at (λ j. 0) n (i - at) (omega arith) fits
