-- `decoding::decoding::decode` meets its contract. Assumes nothing.
use mathlib.Core.Path.{ap, ◌∙◌}
use borrow.Author.Tests.{eq-eqb, ne_eqb}
use Rattle.decoding.specs.Decoding.{call_fields, request, request_of}
use Rattle.decoding.proofs.decoding.decode.Goals as goal

pub returns-then-b-ne8 : goal.returns-then-b-ne8
unfolding request
returns-then-b-ne8 c = (simp (ne_eqb _ _ c.if-b-ne8.true), tt)

pub returns : goal.returns
unfolding request
returns c = (simp (eq-eqb _ _ c.if-b-ne8.false) (c.of_fields.ensures.0 ∙ ap request_of (c.fields_of.ensures.0 ∙ ap call_fields c.read.ensures.0)), c.of_fields.ensures.1)
