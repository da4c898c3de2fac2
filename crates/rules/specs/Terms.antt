-- Reference terms: days and months by the Gregorian calendar, the term from a date and a count of months, and the days on which a set is current.
-- Document 02, Ask 8. Days are counted from 1998-01-01, day 0; months from January 1998, month 0.
use Rattle.std.specs.Prelude.{◌&&◌, Bool, cond, not, ◌||◌, ◌%◌, ◌*◌, ◌+◌, ◌-◌, ◌/◌, min, suc, zero, ℕ, eqb, leb, ltb}
use Rattle.rules.specs.State.{SetRecord, Term}

-- "Day 0 is 1998-01-01 and day 36,524 is 2097-12-31": the years of these days, and the day after the last
abbrev pub first_year : ℕ
first_year = 1998

abbrev pub last_year : ℕ
last_year = 2097

abbrev pub last_end : ℕ
last_end = 36525

-- "Gregorian": every fourth year is a leap year, but of those divisible by 100 only the ones divisible by 400
unfoldable pub is_leap_year : ℕ → Bool
is_leap_year y = eqb (y % 4) 0 && (not (eqb (y % 100) 0) || eqb (y % 400) 0)

-- the days of month m of year y: 1 is January, 12 December
unfoldable pub days_in_month : ℕ → ℕ → ℕ
days_in_month y m = cond (eqb m 2) (cond (is_leap_year y) 29 28) (cond (eqb m 4 || eqb m 6 || eqb m 9 || eqb m 11) 30 31)

-- months counted through the years: the number of month m of year y (of a date that exists: "-" stops at 0), the days of month n, and its first day, counted month
-- by month
abbrev pub month_number : ℕ → ℕ → ℕ
month_number y m = (y - first_year) * 12 + (m - 1)

unfoldable pub month_length : ℕ → ℕ
month_length n = days_in_month (first_year + n / 12) (n % 12 + 1)

unfoldable pub month_start : ℕ → ℕ
month_start zero = 0
month_start (suc n) = month_start n + month_length n

-- day d of month n, "or that month's last day if it has no such day"
unfoldable pub day_or_last : ℕ → ℕ → ℕ
day_or_last n d = month_start n + (min d (month_length n) - 1)

-- "a date that does not exist or lies outside these years": such a date is none
unfoldable pub date_exists : ℕ → ℕ → ℕ → Bool
date_exists y m d = leb first_year y && leb y last_year && leb 1 m && leb m 12 && leb 1 d && leb d (days_in_month y m)

-- the day of a date that exists
abbrev pub day_number : ℕ → ℕ → ℕ → ℕ
day_number y m d = day_or_last (month_number y m) d

-- "a count of months from 1 to 120"
abbrev pub most_months : ℕ
most_months = 120

unfoldable pub count_fits : ℕ → Bool
count_fits k = leb 1 k && leb k most_months

-- "A term may be set from a date and a count of months …; the end is the same day of the later month, or that month's last day if it has no such day; a later
-- end is cut to 36,525"
unfoldable pub term_from : ℕ → ℕ → ℕ → ℕ → Term
term_from y m d k = record { first_day = day_number y m d; end_day = min (day_or_last (month_number y m + k) d) last_end }

-- "Format and making a set give 0 and 36,525."
abbrev pub default_term : Term
default_term = record { first_day = 0; end_day = last_end }

-- "A set is current on a day from the first day up to, but without, the end day."
unfoldable pub is_current : Term → ℕ → Bool
is_current x day = leb x.first_day day && ltb day x.end_day

-- the set record with another term
abbrev pub with_term : SetRecord → Term → SetRecord
with_term r x = record {
  used = r.used;
  writeable = r.writeable;
  level = r.level;
  parent = r.parent;
  first_child = r.first_child;
  next_sibling = r.next_sibling;
  term = x;
}
