-- What a judgement answers, as a number: that of a refusal is above 0, and `?` passes a refusal on as it is. Assumes nothing.
use Rattle.std.specs.Prelude.{Result, ◌≡◌}
use Rattle.std.specs.Result.{IsErrAnd}
use Rattle.std.proofs.Common.{ap, arith, ◌∙◌}
use Rattle.std.proofs.lemmas.Result.{err_from_is_err_and}
use Rattle.numbers.specs.Refusals.{number, told}
use Rattle.numbers.specs.declared.refusal.Refusal.{Refusal}
use Rattle.numbers.specs.declared.refusal.Refusal.TheVariants.{Absent, EndOver, Exists, HasChildren, Marked, NeedOver, NoDate, NoFile, NoMonths, NoRegister, NoSet, NotWellFormed, ReadOnly, Root, SparePage, TooDeep}

-- no refusal has the number 0
pub above_0 : (r : Refusal) → number r ≡ 0 → ⊥
above_0 NotWellFormed h = omega arith
above_0 NoSet h = omega arith
above_0 NoFile h = omega arith
above_0 ReadOnly h = omega arith
above_0 Absent h = omega arith
above_0 Marked h = omega arith
above_0 EndOver h = omega arith
above_0 NeedOver h = omega arith
above_0 Exists h = omega arith
above_0 TooDeep h = omega arith
above_0 HasChildren h = omega arith
above_0 Root h = omega arith
above_0 NoRegister h = omega arith
above_0 NoDate h = omega arith
above_0 NoMonths h = omega arith
above_0 SparePage h = omega arith

-- what `?` answers of a refusal has its number
pub passed_on : (r : Result Unit Refusal) (e : Refusal) → IsErrAnd r (λ x. x ≡ e) → told r ≡ number e
passed_on r e h = let p = err_from_is_err_and r h in ap told p.1 ∙ ap number p.2
