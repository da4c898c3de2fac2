-- `dates::term_from` meets its contract. Assumes nothing.
use mathlib.Core.Path.{refl}
use native.Mathlib.Omega.{arith}
use Rattle.rules.proofs.Terms.Dates.{count_to, dated, in_month}
use Rattle.rules.specs.Terms.{term_from}
use Rattle.dates.proofs.term_from.Goals as goal

pub overflow_sub-n : goal.overflow_sub-n
overflow_sub-n c = let x = dated _ _ _ c.requires.0 in omega arith

pub overflow_mul-n : goal.overflow_mul-n
overflow_mul-n c = let x = dated _ _ _ c.requires.0 in omega arith

pub overflow_sub-n-2 : goal.overflow_sub-n-2
overflow_sub-n-2 c = let x = dated _ _ _ c.requires.0 in omega arith

pub overflow_add-n : goal.overflow_add-n
overflow_add-n c = let x = dated _ _ _ c.requires.0 in omega arith

pub day_or_last-first-requires : goal.day_or_last-first-requires
day_or_last-first-requires c = let x = in_month _ _ _ c.requires.0 in (x.month, x.day_from)

pub overflow_add-n-2 : goal.overflow_add-n-2
overflow_add-n-2 c =
    let x = in_month _ _ _ c.requires.0 in
    let k = count_to _ c.requires.1 in
    omega arith

pub end_in-end-requires : goal.end_in-end-requires
end_in-end-requires c = (in_month _ _ _ c.requires.0).day_from

pub returns : goal.returns
unfolding term_from
returns c = (rw (c.day_or_last-first.ensures.0, c.end_in-end.ensures.0) refl, omega arith, omega arith)
