-- For the contracts of the calls: the answer by what came of a call, its counts or a refusal.
use Rattle.std.specs.Prelude.{Err, Ok, Result}
use Rattle.numbers.specs.Refusals.{number}
use Rattle.numbers.specs.declared.refusal.Refusal.{Refusal}
use Rattle.calls.specs.declared.answer.Counts.{Counts}
use Rattle.calls.specs.declared.answer.Answer.{Answer}

-- the answer of an accepted call with its counts
abbrev pub counted : Counts → Answer
counted k = record { number = 0; first = k.first; second = k.second; third = k.third }

-- the answer of a call, by what came of it: its counts, or a refusal
abbrev pub answered : Result Counts Refusal → Answer
answered (Ok k) = counted k
answered (Err r) = record { number = number r; first = 0; second = 0; third = 0 }
