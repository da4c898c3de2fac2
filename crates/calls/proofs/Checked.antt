-- The checks as calls: what they leave, by whether the rules hold. Assumes nothing.
use mathlib.Core.Bool.{Bool, false, true}
use mathlib.Core.List.{List, []}
use mathlib.Core.Path.{ap, sym, ◌∙◌, ◌≡◌}
use Prim.Native.Nat.{ℕ}
use Rattle.calls.specs.Outcomes.{answer_meant, outcome}
use Rattle.rules.specs.Numbers.{Answer, refusal}
use Rattle.tables.specs.Calls.{looked_at}
use Rattle.tables.specs.Checks.{check_answer}
use Rattle.calls.specs.declared.answer.Answer as declared

-- ok is what the code found of the rules; the tables and pages lent are t and p
module _ (r : declared.Answer) (t p : List ℕ) (rules ok : Bool) (e : ok ≡ rules) where
  -- LAW: the rules do not hold
  pub refused_as : ok ≡ false → answer_meant r ≡ refusal 1 → outcome r t p [] ≡ looked_at (check_answer rules) t p []
  refused_as h a = ap (λ (x : Answer). looked_at x t p []) (a ∙ ap check_answer (sym h ∙ e))

  -- LAW: they do
  pub accepted_as : ok ≡ true → answer_meant r ≡ refusal 0 → outcome r t p [] ≡ looked_at (check_answer rules) t p []
  accepted_as h a = ap (λ (x : Answer). looked_at x t p []) (a ∙ ap check_answer (sym h ∙ e))
