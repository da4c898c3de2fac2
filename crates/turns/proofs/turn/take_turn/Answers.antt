-- `turns::turn::take_turn` meets its contract. Assumes nothing.
use mathlib.Core.Path.{ap, ◌∙◌, ◌≡◌}
use Prim.Native.Nat.{ℕ}
use native.Mathlib.Omega.{arith}
use borrow.Author.Rules.{rules}
use lib.ListN.{length}
use Rattle.decoding.specs.Decoding.{ask, call_meant}
use Rattle.turns.proofs.Turns.{bad_call, made_call, no_bytes}
use Rattle.turns.proofs.turn.take_turn.Goals as goal

pub returns-then-is_empty : goal.returns-then-is_empty
returns-then-is_empty c =
    let a = c.args in
    let h : length a.bytes.now ≡ 0 = search rules in
    (no_bytes a.bytes.now a.count a.t.now a.p.now a.out.now h, omega arith)

pub returns-in_default : goal.returns-in_default
returns-in_default c =
    let a = c.args in
    let some : length a.bytes.now ≡ 0 → ⊥ = search rules in (
      bad_call a.bytes.now a.count a.t.now a.p.now a.out.now some _ _ c.in_default.ensures.0 c.put_end.ensures.0,
      omega (arith, c.put_end.ensures.1),
    )

pub returns : goal.returns
returns c =
    let a = c.args in
    let some : length a.bytes.now ≡ 0 → ⊥ = search rules in (
      made_call a.bytes.now a.count a.t.now a.p.now a.out.now some _ _ _ _ _
          (ap (λ (x : ℕ). ask x (call_meant c.in-Some.c)) c.op.ensures ∙ c.in-Some.ensures.0)
          c.perform-a.ensures c.put_call-line.ensures.0,
      omega (arith, c.put_call-line.ensures.1),
    )
