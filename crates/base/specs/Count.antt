-- How many of the first n numbers pass a test, and whether all of them do. Assumes nothing.
use Rattle.std.specs.Prelude.{◌≡◌, refl, Bool, true, false, cond, not, ◌&&◌, ℕ, zero, suc, ◌+◌, ◌≤◌, ◌<◌}
use Rattle.std.proofs.Common.{sym, ◌∙◌, ap, ap₂, subst, true≢false, add-one, arith}
use Rattle.base.specs.Logic.{test?, same?, and_left, and_right, and_both}
use Rattle.base.specs.Update.{upd, upd_same, upd_other}

unfoldable pub count : ℕ → (ℕ → Bool) → ℕ
count zero f = 0
count (suc n) f = cond (f n) 1 0 + count n f

-- the sum of f 0, .., f (n - 1)
unfoldable pub sum : ℕ → (ℕ → ℕ) → ℕ
sum zero f = 0
sum (suc n) f = f n + sum n f

-- does every number below n pass
unfoldable pub all : ℕ → (ℕ → Bool) → Bool
all zero f = true
all (suc n) f = f n && all n f

pub count_same : (n : ℕ) (f g : ℕ → Bool) → ((x : ℕ) → x < n → g x ≡ f x) → count n g ≡ count n f
unfolding count
count_same zero f g h = refl
count_same (suc n) f g h = rw (h n (omega arith), count_same n f g (λ x l. h x (omega arith)))

-- the first number apart
pub count_front : (n : ℕ) (f : ℕ → Bool) → count (suc n) f ≡ cond (f 0) 1 0 + count n (λ x. f (suc x))
unfolding count
count_front zero f = refl
count_front (suc n) f = omega (arith, count_front n f)

-- fewer pass where each that passes passed before
pub count_fewer : (n : ℕ) (f g : ℕ → Bool) → ((x : ℕ) → x < n → g x ≡ true → f x ≡ true) → count n g ≤ count n f
unfolding count
count_fewer zero f g h = omega arith
count_fewer (suc n) f g h =
    let r = count_fewer n f g (λ x l e. h x (omega arith) e) in
    test? (g n) (λ e. rw (e, h n (omega arith) e) (omega arith)) (λ e. rw e (omega arith))

pub count_le : (n : ℕ) (f : ℕ → Bool) → count n f ≤ n
unfolding count
count_le zero f = omega arith
count_le (suc n) f = test? (f n) (λ e. rw e (omega (arith, count_le n f))) (λ e. rw e (omega (arith, count_le n f)))

-- of more numbers as many pass, or more
pub count_mono : (m n : ℕ) (f : ℕ → Bool) → m ≤ n → count m f ≤ count n f
unfolding count
count_mono m zero f l = let e : m ≡ 0 = omega arith in omega (arith, ap (λ k. count k f) e)
count_mono m (suc n) f l = same? m (suc n) (λ e. omega (arith, ap (λ k. count k f) e)) (λ d. omega (arith, count_mono m n f (omega arith)))

-- one that passes is counted
one_counted : (f : ℕ → Bool) (b : ℕ) → f b ≡ true → 1 ≤ count (suc b) f
unfolding count
one_counted f b h = rw h (omega arith)

pub count_here : (n : ℕ) (f : ℕ → Bool) (b : ℕ) → b < n → f b ≡ true → 1 ≤ count n f
count_here n f b l h = let a = count_mono (suc b) n f l in let c = one_counted f b h in omega arith

-- none passes
pub count_none : (n : ℕ) (f : ℕ → Bool) → ((x : ℕ) → x < n → f x ≡ false) → count n f ≡ 0
unfolding count
count_none zero f h = refl
count_none (suc n) f h = rw (h n (omega arith)) (omega (arith, count_none n f (λ x l. h x (omega arith))))

-- what passes nowhere from m on is counted below m
pub count_cut : (n m : ℕ) (f : ℕ → Bool) → m ≤ n → ((b : ℕ) → m ≤ b → f b ≡ false) → count n f ≡ count m f
unfolding count
count_cut zero m f l h = let e : 0 ≡ m = omega arith in ap (λ k. count k f) e
count_cut (suc n) m f l h =
    same? m (suc n) (λ e. ap (λ k. count k f) (sym e)) (λ d. rw (h n (omega arith)) (omega (arith, count_cut n m f (omega arith) h)))

-- every one passes
pub count_all : (n : ℕ) (f : ℕ → Bool) → ((x : ℕ) → x < n → f x ≡ true) → count n f ≡ n
unfolding count
count_all zero f h = refl
count_all (suc n) f h = rw (h n (omega arith)) (omega (arith, count_all n f (λ x l. h x (omega arith))))

-- some passes
pub count_some : (n : ℕ) (f : ℕ → Bool) → 0 < count n f → (b : ℕ) × (b < n) × (f b ≡ true)
unfolding count
count_some zero f l = absurd (omega arith)
count_some (suc n) f l =
    test? (f n) (λ e. (n, omega arith, e))
    (λ e. let r = count_some n f (let l' : 0 < cond false 1 0 + count n f = rw e at l in omega arith) in (r.0, omega (arith, r.1), r.2))

-- one that passes does so no longer: one fewer
pub count_less : (n : ℕ) (f g : ℕ → Bool) (b : ℕ) → b < n → f b ≡ true → g b ≡ false → ((x : ℕ) → (b ≡ x → ⊥) → g x ≡ f x) → count n f ≡ suc (count n g)
unfolding count
count_less zero f g b l h k o = absurd (omega arith)
count_less (suc n) f g b l h k o =
    same? b n
    (λ e. subst (λ x. cond (f x) 1 0 + count n f ≡ suc (cond (g x) 1 0 + count n g)) e
    (rw (h, k) (let c = count_same n f g (λ x l. o x (λ q. absurd (omega arith))) in omega arith)))
    (λ e. rw (o n e) (let c = count_less n f g b (omega arith) h k o in omega arith))

-- a place that passes now does not: one fewer
pub count_upd_false : (n : ℕ) (f : ℕ → Bool) (b : ℕ) → b < n → f b ≡ true → count n f ≡ suc (count n (upd f b false))
count_upd_false n f b l h = count_less n f (upd f b false) b l h (upd_same f b false) (λ x q. upd_other f b false x q)

-- those that pass and those that do not are all
pub count_not : (n : ℕ) (f : ℕ → Bool) → count n f + count n (λ x. not (f x)) ≡ n
unfolding count
count_not zero f = refl
count_not (suc n) f = test? (f n) (λ e. rw e (omega (arith, count_not n f))) (λ e. rw e (omega (arith, count_not n f)))

-- where each that passed still passes: those, and the ones that pass newly
pub count_new : (n : ℕ) (f g : ℕ → Bool) → ((x : ℕ) → f x ≡ true → g x ≡ true) → count n g ≡ count n f + count n (λ x. g x && not (f x))
unfolding count
count_new zero f g h = refl
count_new (suc n) f g h =
    let r = count_new n f g h in
    test? (f n) (λ a. rw (a, h n a) (omega arith)) (λ a. test? (g n) (λ b. rw (a, b) (omega arith)) (λ b. rw (a, b) (omega arith)))

pub count_new_none : (n : ℕ) (f : ℕ → Bool) → count n (λ x. f x && not (f x)) ≡ 0
count_new_none n f = count_none n _ (λ x l. test? (f x) (λ e. rw e) (λ e. rw e))

pub all_at : (n : ℕ) (f : ℕ → Bool) → all n f ≡ true → (x : ℕ) → x < n → f x ≡ true
unfolding all
all_at zero f h x l = absurd (omega arith)
all_at (suc n) f h x l =
    same? x n (λ e. subst (λ y. f y ≡ true) (sym e) (and_left (f n) (all n f) h)) (λ e. all_at n f (and_right (f n) (all n f) h) x (omega arith))

pub all_of : (n : ℕ) (f : ℕ → Bool) → ((x : ℕ) → x < n → f x ≡ true) → all n f ≡ true
unfolding all
all_of zero f h = refl
all_of (suc n) f h = and_both (f n) (all n f) (h n (omega arith)) (all_of n f (λ x l. h x (omega arith)))

-- only the first n numbers count
pub all_same : (n : ℕ) (f g : ℕ → Bool) → ((x : ℕ) → x < n → f x ≡ g x) → all n f ≡ all n g
unfolding all
all_same zero f g h = refl
all_same (suc n) f g h = ap₂ ◌&&◌ (h n (omega arith)) (all_same n f g (λ x l. h x (omega arith)))

-- one more number is tested; none is
pub all_more : (n : ℕ) (f : ℕ → Bool) → all (suc n) f ≡ (f n && all n f)
unfolding all
all_more n f = refl

pub all_none : (f : ℕ → Bool) → all 0 f ≡ true
unfolding all
all_none f = refl

-- one number more has passed
pub all_next : (f : ℕ → Bool) (n : ℕ) → all n f ≡ true → f n ≡ true → all (n + 1) f ≡ true
all_next f n h k = rw (add-one, all_more) (and_both (f n) (all n f) k h)

-- one that fails
pub all_not : (n : ℕ) (f : ℕ → Bool) (x : ℕ) → x < n → f x ≡ false → all n f ≡ false
all_not n f x l h = test? (all n f) (λ e. absurd (true≢false (sym (all_at n f e x l) ∙ h))) (λ e. e)
