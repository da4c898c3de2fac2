-- What is claimed of dates and terms: the days follow each other from 1998-01-01 to 2097-12-31, a term from a date is well formed, and the examples, by computing. Assumes nothing.
use mathlib.Core.Bool.{false, true}
use mathlib.Core.Path.{ap, refl, ◌∙◌, ◌≡◌}
use Prim.Native.Nat.{suc, ℕ}
use native.Mathlib.Omega.{arith}
use borrow.Author.Tests.{le-leb, le-ltb, lt-ltb}
use Rattle.base.specs.Logic.{and_both, and_false}
use Rattle.rules.proofs.Terms.Dates.{dated, day_below, days_of, in_month, start_next, term_formed_law, term_order}
use Rattle.rules.specs.TermClaims.{TermsClaim}
use Rattle.rules.specs.Terms.{count_fits, date_exists, day_number, day_or_last, days_in_month, is_current, is_leap_year, month_length, month_number, month_start, term_from}

next_day : (y m d : ℕ) → date_exists y m d ≡ true → date_exists y m (suc d) ≡ true → day_number y m (suc d) ≡ suc (day_number y m d)
unfolding day_or_last
next_day y m d h k =
    let x = in_month y m d h in
    let z = in_month y m (suc d) k in
    omega (arith, x.day_from, x.day_to, z.day_to)

next_month : (y m : ℕ) → date_exists y m 1 ≡ true → date_exists y (suc m) 1 ≡ true → day_number y (suc m) 1 ≡ suc (day_number y m (days_in_month y m))
unfolding day_or_last
next_month y m h k =
    let x = dated y m 1 h in
    let z = in_month y (suc m) 1 k in
    let e : month_number y (suc m) ≡ suc (month_number y m) = omega (arith, x.month_from) in
    let q = days_of y m x.year_from x.month_from x.month_to in
    omega (arith, x.day_to, z.day_to, q, ap month_start e, start_next (month_number y m))

next_year : (y : ℕ) → date_exists y 1 1 ≡ true → day_number (suc y) 1 1 ≡ suc (day_number y 12 31)
unfolding day_or_last
next_year y h =
    let x = dated y 1 1 h in
    let e : month_number (suc y) 1 ≡ suc (month_number y 12) = omega (arith, x.year_from) in
    let q : month_length (month_number y 12) ≡ 31 = days_of y 12 x.year_from (omega arith) (omega arith) ∙ (unfold days_in_month in refl) in
    omega (arith, ap month_start e, start_next (month_number y 12), q)

not_on_end : (y m d k : ℕ) → is_current (term_from y m d k) (term_from y m d k).end_day ≡ false
unfolding is_current
not_on_end y m d k = let e = (term_from y m d k).end_day in simp (le-ltb e e (omega arith), and_false)

from_first : (y m d k : ℕ) → date_exists y m d ≡ true → count_fits k ≡ true → is_current (term_from y m d k) (day_number y m d) ≡ true
unfolding is_current term_from
from_first y m d k h c = and_both _ _ (le-leb (day_number y m d) (day_number y m d) (omega arith)) (lt-ltb _ _ (term_order y m d k h c))

-- THE CLAIMS OF DATES AND TERMS
pub terms_claim : TermsClaim
unfolding count_fits date_exists day_or_last days_in_month is_leap_year month_length month_start term_from
terms_claim = record {
  first_day = refl;
  last_day = refl;
  leap_2000 = (refl, refl, refl, refl);
  common_1999 = (refl, refl, refl);
  next_day = next_day;
  next_month = next_month;
  next_year = next_year;
  below_end = day_below;
  counts = (refl, refl, refl, refl);
  first_is = λ y m d k. refl;
  formed = term_formed_law;
  from_first = from_first;
  not_on_end = not_on_end;
  same_day = refl;
  last_of_month = (refl, refl, refl);
  carried = (refl, refl);
  not_cut = (refl, refl, refl);
  cut = (refl, refl, refl);
}
