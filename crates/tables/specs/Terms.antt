-- The calls on reference terms, on bytes: setting a term, and asking whether a set is current. Document 02, Ask 8.
use Rattle.std.specs.Prelude.{Bool, false, not, true, List, ◌∷◌, [], ◌≡◌, ◌<◌, suc, zero, ℕ}
use Rattle.base.specs.Logic.{digit}
use Rattle.base.specs.Update.{upd}
use Rattle.rules.specs.Numbers.{Answer, View, lowest, no_counts, no_such_set, not_formed, refusal}
use Rattle.rules.specs.State.{Tables, Term, set_count}
use Rattle.rules.specs.Terms.{count_fits, date_exists, is_current, term_from, with_term}
use Rattle.tables.specs.Calls.{Outcome, looked_at, view_on}
use Rattle.tables.specs.Packed.{pack, unpack}

-- "It refuses a date that does not exist or lies outside these years with 14, and a month count of 0 or over 120 with 15, both after 2, with 14 first."
-- Any used set may have its term set.
unfoldable pub set_term_conditions : View → ℕ → ℕ → ℕ → ℕ → ℕ → List (Bool × ℕ)
set_term_conditions v s y m d k = not_formed v ∷ no_such_set v s ∷ (not (date_exists y m d), 14) ∷ (not (count_fits k), 15) ∷ []

-- of asking whether a set is current; a day number is no date
unfoldable pub current_conditions : View → ℕ → List (Bool × ℕ)
current_conditions v s = not_formed v ∷ no_such_set v s ∷ []

-- THE NUMBERS of a setting on well-formed tables: 2 of a set that is not used, whatever the date and the count; then 14, whatever the count; then 15; else none
pub record TermNumbers (v : View) (s y m d k : ℕ) : Type 0 where
  pub no_set : v.tree.used s ≡ false → lowest (set_term_conditions v s y m d k) ≡ 2
  pub no_date : s < set_count → v.tree.used s ≡ true → date_exists y m d ≡ false → lowest (set_term_conditions v s y m d k) ≡ 14
  pub bad_count : s < set_count → v.tree.used s ≡ true → date_exists y m d ≡ true → count_fits k ≡ false → lowest (set_term_conditions v s y m d k) ≡ 15
  pub accepted : s < set_count → v.tree.used s ≡ true → date_exists y m d ≡ true → count_fits k ≡ true → lowest (set_term_conditions v s y m d k) ≡ 0

abbrev pub TermNumbersClaim : Type 0
TermNumbersClaim = (v : View) → v.formed ≡ true → (s y m d k : ℕ) → TermNumbers v s y m d k

-- set s has the term x; all else stays
unfoldable pub put_term_in : ℕ → Term → Tables → Tables
put_term_in s x tb = record { blocks = tb.blocks; next = tb.next; bits = tb.bits; sets = upd tb.sets s (with_term (tb.sets s) x); files = tb.files }

-- what a call that changes tables t leaves by its number: the tables t', or nothing changed; no page changes
unfoldable pub put_or_refused : ℕ → List ℕ → List ℕ → List ℕ → Outcome
put_or_refused zero t' t p = looked_at no_counts t' p []
put_or_refused (suc n) t' t p = looked_at (refusal (suc n)) t p []

-- SETTING A TERM on any bytes: set, year, month, day, count of months. "A term may be set from a date and a count of months"
unfoldable pub set_term_on : ℕ → ℕ → ℕ → ℕ → ℕ → List ℕ → List ℕ → Outcome
set_term_on s y m d k t p = put_or_refused (lowest (set_term_conditions (view_on t p) s y m d k)) (pack (put_term_in s (term_from y m d k) (unpack t))) t p

-- what a call answers that tells yes or no, by its number: "gives 1 or 0 as the first count"
unfoldable pub told_or_refused : ℕ → Bool → Answer
told_or_refused zero b = record { number = 0; first = digit b; second = 0; third = 0 }
told_or_refused (suc n) b = refusal (suc n)

-- IS THE SET CURRENT on a day, on any bytes: set, day number. "Asking this for a day number gives 1 or 0 as the first count."
abbrev pub current_on : ℕ → ℕ → List ℕ → List ℕ → Outcome
current_on s day t p = looked_at (told_or_refused (lowest (current_conditions (view_on t p) s)) (is_current ((unpack t).sets s).term day)) t p []
