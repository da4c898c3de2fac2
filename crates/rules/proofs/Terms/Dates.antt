-- Days and months of the years 1998 to 2097: the first day of each month in closed form, all days below 36,525, and terms that are well formed. Assumes nothing.
use mathlib.Core.Bool.{◌&&◌, Bool, cond, true}
use mathlib.Core.Path.{ap, refl, ◌∙◌, ◌≡◌}
use Prim.Native.Nat.{◌%◌, ◌*◌, ◌+◌, ◌-◌, ◌/◌, ◌<◌, suc, zero, ℕ, ◌≤◌}
use native.Mathlib.Omega.{arith}
use lib.Dec.{eqb, leb, ltb}
use borrow.Author.Tests.{eq-eqb, eqb-true, le-leb, leb-true, lt-ltb}
use Rattle.base.specs.Count.{all, all_at}
use Rattle.base.specs.Logic.{and_both, and_left, and_right, test?}
use Rattle.rules.specs.Terms.{count_fits, date_exists, day_number, day_or_last, days_in_month, first_year, is_leap_year, last_end, last_year, month_length, month_number, month_start, most_months, term_from}
use Rattle.rules.specs.WellFormed.{term_formed}

-- the first day of month n in closed form: years of 365 days, a day for each 29 February before it, and the days of the months before it in its year, of which
-- five from March on have 153 days
unfoldable pub closed : ℕ → ℕ
closed n =
    cond (ltb (n % 12) 2) (n / 12 * 365 + (n / 12 + 1) / 4 + n % 12 * 31) (n / 12 * 365 + (n / 12 + 2) / 4 + (n % 12 * 153 - 9) / 5)

-- ONE COMPUTED TEST for the 1,200 months of these years
abbrev step_ok : ℕ → Bool
step_ok n = eqb (closed n + month_length n) (closed (suc n))

steps_ok : all 1200 step_ok ≡ true
unfolding all closed month_length days_in_month is_leap_year
steps_ok = refl

pub start_next : (n : ℕ) → month_start (suc n) ≡ month_start n + month_length n
unfolding month_start
start_next n = refl

pub start_closed : (n : ℕ) → n ≤ 1200 → month_start n ≡ closed n
unfolding closed month_start
start_closed zero l = refl
start_closed (suc n) l =
    start_next n ∙ ap (λ x. x + month_length n) (start_closed n (omega arith)) ∙ eqb-true (closed n + month_length n) (closed (suc n)) (all_at 1200 step_ok steps_ok n (omega arith))

-- "day 36,524 is 2097-12-31": the day after it is the first of month 1,200
start_1200 : month_start 1200 ≡ 36525
unfolding closed
start_1200 = start_closed 1200 (omega arith) ∙ refl

-- a later month begins after the days of an earlier one
start_later : (n k : ℕ) → month_start n + month_length n ≤ month_start (n + suc k)
start_later n zero = let e : n + 1 ≡ suc n = omega arith in rw e (omega (arith, start_next n))
start_later n (suc k) =
    let e : n + suc (suc k) ≡ suc (n + suc k) = omega arith in
    rw e (omega (arith, start_later n k, start_next (n + suc k)))

start_after : (n k : ℕ) → 1 ≤ k → month_start n + month_length n ≤ month_start (n + k)
start_after n k l = let e : n + suc (k - 1) ≡ n + k = omega arith in rw (← e) (start_later n (k - 1))

-- the days of these months end by 36,525, the later months begin there or after
pub start_within : (n : ℕ) → n < 1200 → month_start n + month_length n ≤ 36525
start_within n l = let e : n + suc (1199 - n) ≡ 1200 = omega arith in omega (arith, start_1200, ap month_start e, start_later n (1199 - n))

start_past : (n : ℕ) → 1200 ≤ n → 36525 ≤ month_start n
start_past n l =
    let e : 1200 + (n - 1200) ≡ n = omega arith in
    go (n - 1200) e
  where
    go : (k : ℕ) → 1200 + k ≡ n → 36525 ≤ month_start n
    go zero e = let q : n ≡ 1200 = omega arith in rw q (omega (arith, start_1200))
    go (suc k) e = omega (arith, start_1200, ap month_start e, start_later 1200 k)

-- of these years every fourth is a leap year: 2000 is the one hundred among them
pub leap_fourth : (y : ℕ) → first_year ≤ y → y ≤ last_year → eqb (y % 4) 0 ≡ is_leap_year y
unfolding is_leap_year
leap_fourth y a b =
    test? (eqb (y % 4) 0)
    (λ e. test? (eqb (y % 100) 0)
    (λ h. let q : y % 100 ≡ 0 = eqb-true (y % 100) 0 h in rw (e, h, eq-eqb (y % 400) 0 (omega arith)))
    (λ h. rw (e, h)))
    (λ e. rw e)

-- what a date that exists is
pub record Dated (y m d : ℕ) : Type 0 where
  pub year_from : first_year ≤ y
  pub year_to : y ≤ last_year
  pub month_from : 1 ≤ m
  pub month_to : m ≤ 12
  pub day_from : 1 ≤ d
  pub day_to : d ≤ days_in_month y m

-- the days of a month are those of its number
pub days_of : (y m : ℕ) → first_year ≤ y → 1 ≤ m → m ≤ 12 → month_length (month_number y m) ≡ days_in_month y m
unfolding month_length
days_of y m a b c =
    let p : first_year + month_number y m / 12 ≡ y = omega arith in
    let q : month_number y m % 12 + 1 ≡ m = omega arith in
    rw (p, q)

pub dated : (y m d : ℕ) → date_exists y m d ≡ true → Dated y m d
unfolding date_exists
dated y m d h =
    let y1 = leb first_year y in
    let y2 = y1 && leb y last_year in
    let m1 = y2 && leb 1 m in
    let m2 = m1 && leb m 12 in
    let d1 = m2 && leb 1 d in
    let h1 = and_left d1 (leb d (days_in_month y m)) h in
    let h2 = and_left m2 (leb 1 d) h1 in
    let h3 = and_left m1 (leb m 12) h2 in
    let h4 = and_left y2 (leb 1 m) h3 in
    record {
      year_from = leb-true first_year y (and_left y1 (leb y last_year) h4);
      year_to = leb-true y last_year (and_right y1 (leb y last_year) h4);
      month_from = leb-true 1 m (and_right y2 (leb 1 m) h3);
      month_to = leb-true m 12 (and_right m1 (leb m 12) h2);
      day_from = leb-true 1 d (and_right m2 (leb 1 d) h1);
      day_to = leb-true d (days_in_month y m) (and_right d1 (leb d (days_in_month y m)) h);
    }

-- a day of month n, one of the 1,200
pub record InMonth (n d : ℕ) : Type 0 where
  pub month : n < 1200
  pub day_from : 1 ≤ d
  pub day_to : d ≤ month_length n

pub in_month : (y m d : ℕ) → date_exists y m d ≡ true → InMonth (month_number y m) d
in_month y m d h =
    let x = dated y m d h in
    record {
      month = omega (arith, x.year_from, x.year_to, x.month_from, x.month_to);
      day_from = x.day_from;
      day_to = omega (arith, x.day_to, days_of y m x.year_from x.month_from x.month_to);
    }

-- all days of these months lie below 36,525, all of later months do not
day_within : (n d : ℕ) → n < 1200 → 1 ≤ month_length n → day_or_last n d < 36525
unfolding day_or_last
day_within n d l a = omega (arith, start_within n l)

pub day_past : (n d : ℕ) → 1200 ≤ n → 36525 ≤ day_or_last n d
unfolding day_or_last
day_past n d l = omega (arith, start_past n l)

pub day_below : (y m d : ℕ) → date_exists y m d ≡ true → day_number y m d < last_end
day_below y m d h =
    let x = in_month y m d h in
    omega (arith, day_within (month_number y m) d x.month (omega (arith, x.day_from, x.day_to)))

-- a day lies before the same day of a later month, or that month's last
day_later : (n d k : ℕ) → InMonth n d → 1 ≤ k → day_or_last n d < day_or_last (n + k) d
unfolding day_or_last
day_later n d k x l = omega (arith, x.day_from, x.day_to, start_after n k l)

count_from : (k : ℕ) → count_fits k ≡ true → 1 ≤ k
unfolding count_fits
count_from k h = leb-true 1 k (and_left (leb 1 k) (leb k most_months) h)

pub count_to : (k : ℕ) → count_fits k ≡ true → k ≤ most_months
unfolding count_fits
count_to k h = leb-true k most_months (and_right (leb 1 k) (leb k most_months) h)

module _ (y m d k : ℕ) (h : date_exists y m d ≡ true) (c : count_fits k ≡ true) where
  -- "first below end and end at most 36,525"
  pub term_order : (term_from y m d k).first_day < (term_from y m d k).end_day
  unfolding term_from
  term_order = omega (arith, day_below y m d h, day_later (month_number y m) d k (in_month y m d h) (count_from k c))

  pub term_end : (term_from y m d k).end_day ≤ last_end
  unfolding term_from
  term_end = omega arith

  pub term_formed_law : term_formed (term_from y m d k) ≡ true
  unfolding term_formed
  term_formed_law = and_both _ _ (lt-ltb _ _ term_order) (le-leb _ _ term_end)

  -- both fit 16 bits
  pub first_fits : (term_from y m d k).first_day < 65536
  first_fits = omega (arith, term_order, term_end)

  pub end_fits : (term_from y m d k).end_day < 65536
  end_fits = omega (arith, term_end)
