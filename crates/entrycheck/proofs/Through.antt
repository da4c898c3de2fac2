-- Parts of a pass, one after another: a part more, and a part that does not pass. Assumes nothing.
use mathlib.Core.Bool.{Bool, false, true}
use mathlib.Core.List.{List}
use mathlib.Core.Option.{none, some}
use mathlib.Core.Path.{ap, ◌∙◌, ◌≡◌}
use Prim.Native.Nat.{◌+◌, ◌<◌, suc, zero, ℕ, ◌≤◌}
use native.Mathlib.Numerals.{add-one}
use native.Mathlib.Omega.{arith}
use Rattle.base.specs.Logic.{same?}
use Rattle.entrycheck.specs.Seeing.{Sees, Pass, Seen, and_then, outcome, through, through_more}
use Rattle.packing.specs.Bitmap.{bit_at}

-- a part that does not pass: no more passes
through_fails : (pass : ℕ → Pass) (seen : Seen) (n m : ℕ) → n ≤ m → through n pass seen ≡ none → through m pass seen ≡ none
through_fails pass seen n zero l e = let z : n ≡ 0 = omega arith in rw z at e
through_fails pass seen n (suc m) l e =
    same? n (suc m)
    (λ z. rw z at e)
    (λ z. through_more m pass seen ∙ ap (λ o. and_then o (pass m)) (through_fails pass seen n m (omega arith) e))

module _ (pass : ℕ → Pass) (seen : Seen) (n : ℕ) (l l' : List ℕ) (ok : Bool) (e : through n pass seen ≡ some (bit_at l 0)) (m : Sees (pass n) l l' ok) where
  step : through (n + 1) pass seen ≡ outcome ok (bit_at l' 0)
  step = ap (λ k. through k pass seen) (add-one n) ∙ through_more n pass seen ∙ ap (λ o. and_then o (pass n)) e ∙ m.sees

  -- LAW: the next part passes
  pub through_next : ok ≡ true → through (n + 1) pass seen ≡ some (bit_at l' 0)
  through_next h = step ∙ ap (λ x. outcome x (bit_at l' 0)) h

  -- LAW: the next part does not pass, so that the whole does not
  pub through_refused : (k : ℕ) → n < k → ok ≡ false → through k pass seen ≡ none
  through_refused k g h = through_fails pass seen (n + 1) k (omega arith) (step ∙ ap (λ x. outcome x (bit_at l' 0)) h)
