-- `decoding::decoding::of_fields` meets its contract. Assumes nothing.
use borrow.Author.Tests.{le-ltb, lt-ltb, ne_eqb}
use native.Mathlib.Omega.{arith}
use Rattle.decoding.specs.Decoding.{request_of}
use Rattle.decoding.proofs.decoding.of_fields.Goals as goal

pub returns-then-x-gt-LONGEST : goal.returns-then-x-gt-LONGEST
unfolding request_of
returns-then-x-gt-LONGEST c = (simp (lt-ltb _ _ c.if-x-gt-LONGEST.true), tt)

pub returns-in-1 : goal.returns-in-1
unfolding request_of
returns-in-1 c = (simp (le-ltb _ _ c.if-x-gt-LONGEST.false, c.in-1.is) c.decode_create.ensures.0, c.decode_create.ensures.1)

pub returns-in-2 : goal.returns-in-2
unfolding request_of
returns-in-2 c = (simp (le-ltb _ _ c.if-x-gt-LONGEST.false, c.in-2.is) c.decode_write.ensures.0, c.decode_write.ensures.1)

pub returns-in-3 : goal.returns-in-3
unfolding request_of
returns-in-3 c = (simp (le-ltb _ _ c.if-x-gt-LONGEST.false, c.in-3.is) c.decode_truncate.ensures.0, c.decode_truncate.ensures.1)

pub returns-in-4 : goal.returns-in-4
unfolding request_of
returns-in-4 c = (simp (le-ltb _ _ c.if-x-gt-LONGEST.false, c.in-4.is) c.decode_delete.ensures.0, c.decode_delete.ensures.1)

pub returns-in-5 : goal.returns-in-5
unfolding request_of
returns-in-5 c = (simp (le-ltb _ _ c.if-x-gt-LONGEST.false, c.in-5.is) c.decode_make.ensures.0, c.decode_make.ensures.1)

pub returns-in-6 : goal.returns-in-6
unfolding request_of
returns-in-6 c = (simp (le-ltb _ _ c.if-x-gt-LONGEST.false, c.in-6.is) c.decode_make-in-6.ensures.0, c.decode_make-in-6.ensures.1)

pub returns-in-7 : goal.returns-in-7
unfolding request_of
returns-in-7 c = (simp (le-ltb _ _ c.if-x-gt-LONGEST.false, c.in-7.is) c.decode_remove.ensures.0, c.decode_remove.ensures.1)

pub returns-in_default : goal.returns-in_default
unfolding request_of
returns-in_default c =
    let op = c.args.x.op in (
      simp (le-ltb _ _ c.if-x-gt-LONGEST.false, ne_eqb op 1 (λ e. omega arith), ne_eqb op 2 (λ e. omega arith), ne_eqb op 3 (λ e. omega arith), ne_eqb op 4 (λ e. omega arith), ne_eqb op 5 (λ e. omega arith), ne_eqb op 6 (λ e. omega arith), ne_eqb op 7 (λ e. omega arith)),
      tt,
    )
