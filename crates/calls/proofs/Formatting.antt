-- Format on bytes, case by case. Assumes nothing.
use mathlib.Core.Bool.{Bool, cond, false, not, true, true≢false}
use mathlib.Core.List.{List, []}
use mathlib.Core.Path.{ap, sym, ◌∙◌, ◌≡◌}
use Prim.Native.Nat.{◌*◌, ◌/◌, ℕ, ◌≤◌}
use native.Mathlib.Omega.{arith}
use lib.ListN.{length}
use Rattle.base.specs.Tabulate.{tab_of}
use Rattle.calls.specs.Outcomes.{answer_meant, outcome}
use Rattle.pages.specs.Run.{length_zeroed, zeroed, zeroed_in}
use Rattle.rules.specs.Calls.{accepted, blank_memory, formatted, tables_of}
use Rattle.rules.specs.Numbers.{Answer, conditions, format, lowest, no_counts, number_of, refusal}
use Rattle.rules.specs.Storage.{real}
use Rattle.tables.specs.Calls.{accepted_on, call_on, format_lengths, looked_at, outcome_of, pack_pages}
use Rattle.tables.specs.Layout.{table_bytes}
use Rattle.tables.specs.Packed.{pack}
use Rattle.calls.specs.declared.answer.Answer as declared
use Rattle.tables.proofs.Lengths.{lengths_in}

-- lengths that do not fit: number 1, and nothing changed
format_refused : (t p : List ℕ) → format_lengths (length t) (length p) ≡ false → call_on format t p ≡ looked_at (refusal 1) t p []
unfolding call_on outcome_of number_of conditions lowest
format_refused t p h = ap (λ (b : Bool). outcome_of (cond (not b) 1 0) format t p) h

-- every page zero
zero_pages : (p : List ℕ) (n : ℕ) → length p ≡ n * 512 → pack_pages n (λ b i. 0) ≡ zeroed p 0 (length p)
unfolding pack_pages
zero_pages p n h =
    tab_of 0 (n * 512) (λ i. 0) (zeroed p 0 (length p)) (length_zeroed p 0 (length p) ∙ h)
    (λ i k. zeroed_in p 0 (length p) i (omega arith) (omega (arith, h)) (omega arith))

-- an accepted format
format_accepted : (t p t' : List ℕ) → format_lengths (length t) (length p) ≡ true
    → t' ≡ pack (tables_of (formatted real (blank_memory (length p / 512))))
    → call_on format t p ≡ looked_at no_counts t' (zeroed p 0 (length p)) []
unfolding call_on outcome_of number_of conditions lowest accepted_on accepted formatted
format_accepted t p t' h e =
    let w = (lengths_in (length t) (length p) h).1 in
    ap (λ (b : Bool). outcome_of (cond (not b) 1 0) format t p) h
    ∙ (λ i. looked_at no_counts (sym e i) (zero_pages p (length p / 512) w i) [])

-- LAWS for the call: after a refusal, and after the tables and the pages are written; b is what the test of the lengths gave
pub refused_as : (r : declared.Answer) (t p : List ℕ) (b : Bool) → answer_meant r ≡ refusal 1 → b ≡ format_lengths (length t) (length p) → b ≡ false
    → outcome r t p [] ≡ call_on format t p
refused_as r t p true a h n = absurd (true≢false n)
refused_as r t p false a h n = ap (λ (x : Answer). looked_at x t p []) a ∙ sym (format_refused t p (sym h))

-- the tables and the pages can be written
pub format_fits : (n m : ℕ) (b : Bool) → b ≡ format_lengths n m → b ≡ true → (n ≡ table_bytes) × (m / 512 ≤ 4096)
format_fits n m true h k = let l = lengths_in n m (sym h) in (l.0, l.3)
format_fits n m false h k = absurd (true≢false (sym k))

pub accepted_as : (r : declared.Answer) (t p t' p' : List ℕ) (b : Bool) → answer_meant r ≡ refusal 0 → b ≡ format_lengths (length t) (length p) → b ≡ true
    → t' ≡ pack (tables_of (formatted real (blank_memory (length p / 512)))) → p' ≡ zeroed p 0 (length p) → outcome r t' p' [] ≡ call_on format t p
accepted_as r t p t' p' true a h k e z = (λ i. looked_at (a i) t' (z i) []) ∙ sym (format_accepted t p t' (sym h) e)
accepted_as r t p t' p' false a h k e z = absurd (true≢false (sym k))
