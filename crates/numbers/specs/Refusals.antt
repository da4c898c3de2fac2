-- The number of each refusal, and of what a judgement answers: 0 where nothing is refused.
use Rattle.std.specs.Prelude.{Err, Ok, Result, ℕ}
use Rattle.numbers.specs.declared.refusal.Refusal.{Refusal}
use Rattle.numbers.specs.declared.refusal.Refusal.TheVariants.{Absent, EndOver, Exists, HasChildren, Marked, NeedOver, NoDate, NoFile, NoMonths, NoRegister, NoSet, NotWellFormed, ReadOnly, Root, SparePage, TooDeep}

abbrev pub number : Refusal → ℕ
number NotWellFormed = 1
number NoSet = 2
number NoFile = 3
number ReadOnly = 4
number Absent = 5
number Marked = 6
number EndOver = 7
number NeedOver = 8
number Exists = 9
number TooDeep = 10
number HasChildren = 11
number Root = 12
number NoRegister = 13
number NoDate = 14
number NoMonths = 15
number SparePage = 16

abbrev pub told : Result Unit Refusal → ℕ
told (Ok x) = 0
told (Err r) = number r
