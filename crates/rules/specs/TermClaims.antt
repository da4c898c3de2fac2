-- WHAT IS CLAIMED OF DATES AND TERMS. Document 02, Ask 8; `proofs/Terms` proves it.
use Rattle.std.specs.Prelude.{false, true, ◌≡◌, ◌<◌, suc, ℕ}
use Rattle.rules.specs.Terms.{count_fits, date_exists, day_number, days_in_month, is_current, is_leap_year, last_end, term_from}
use Rattle.rules.specs.WellFormed.{term_formed}

pub record TermsClaim : Type 0 where
  -- "Day 0 is 1998-01-01 and day 36,524 is 2097-12-31"
  pub first_day : day_number 1998 1 1 ≡ 0
  pub last_day : day_number 2097 12 31 ≡ 36524
  -- "Gregorian": the day after 28 February is the 29th in 2000, a leap year though a hundred, and 1 March in 1999
  pub leap_2000 : (is_leap_year 2000 ≡ true) × (date_exists 2000 2 29 ≡ true) × (day_number 2000 2 29 ≡ suc (day_number 2000 2 28)) × (day_number 2000 3 1 ≡ suc (day_number 2000 2 29))
  pub common_1999 : (is_leap_year 1999 ≡ false) × (date_exists 1999 2 29 ≡ false) × (day_number 1999 3 1 ≡ suc (day_number 1999 2 28))
  -- the days of these years follow each other: within a month, from its last day to the next month's first, and from 31 December to 1 January
  pub next_day : (y m d : ℕ) → date_exists y m d ≡ true → date_exists y m (suc d) ≡ true → day_number y m (suc d) ≡ suc (day_number y m d)
  pub next_month : (y m : ℕ) → date_exists y m 1 ≡ true → date_exists y (suc m) 1 ≡ true → day_number y (suc m) 1 ≡ suc (day_number y m (days_in_month y m))
  pub next_year : (y : ℕ) → date_exists y 1 1 ≡ true → day_number (suc y) 1 1 ≡ suc (day_number y 12 31)
  -- and all lie below 36,525
  pub below_end : (y m d : ℕ) → date_exists y m d ≡ true → day_number y m d < last_end
  -- "a month count of 0 or over 120"
  pub counts : (count_fits 0 ≡ false) × (count_fits 1 ≡ true) × (count_fits 120 ≡ true) × (count_fits 121 ≡ false)
  -- a term from a date that exists and a count that fits is well formed, its first day the date's; the set is current on its first day, and not on its end day
  pub first_is : (y m d k : ℕ) → (term_from y m d k).first_day ≡ day_number y m d
  pub formed : (y m d k : ℕ) → date_exists y m d ≡ true → count_fits k ≡ true → term_formed (term_from y m d k) ≡ true
  pub from_first : (y m d k : ℕ) → date_exists y m d ≡ true → count_fits k ≡ true → is_current (term_from y m d k) (day_number y m d) ≡ true
  pub not_on_end : (y m d k : ℕ) → is_current (term_from y m d k) (term_from y m d k).end_day ≡ false
  -- "the same day of the later month, or that month's last day if it has no such day"; months go on past December; "a later end is cut to 36,525"
  pub same_day : (term_from 1998 1 15 1).end_day ≡ day_number 1998 2 15
  pub last_of_month : ((term_from 1998 1 31 1).end_day ≡ day_number 1998 2 28) × ((term_from 1999 8 31 6).end_day ≡ day_number 2000 2 29) × ((term_from 2000 2 29 12).end_day ≡ day_number 2001 2 28)
  pub carried : ((term_from 1998 12 31 2).end_day ≡ day_number 1999 2 28) × ((term_from 2000 7 1 120).end_day ≡ day_number 2010 7 1)
  pub not_cut : ((term_from 2097 11 30 1).end_day ≡ day_number 2097 12 30) × ((term_from 2087 12 31 120).end_day ≡ 36524) × ((term_from 2097 12 1 1).end_day ≡ last_end)
  pub cut : ((term_from 2097 12 2 1).end_day ≡ last_end) × ((term_from 2097 12 31 1).end_day ≡ last_end) × ((term_from 2097 12 31 120).end_day ≡ last_end)
