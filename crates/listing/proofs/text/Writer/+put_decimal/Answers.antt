-- `listing::text::Writer::put_decimal` meets its contract: it calls itself on the number without its last digit. Assumes nothing.
use mathlib.Core.List.{[], ◌∷◌, ◌++◌}
use mathlib.Core.Path.{sym, ap, ◌∙◌}
use Prim.Native.Nat.{ℕ, ◌/◌}
use native.Mathlib.Omega.{arith}
use Rattle.listing.specs.Text.{decimal}
use Rattle.listing.proofs.Decimals.{decimal_more, decimal_most, decimal_one}
use Rattle.listing.proofs.Writing.{put_as, put_then}
use Rattle.listing.proofs.text.Writer.+put_decimal.Goals as goal

pub returns-then-n-lt10 : goal.returns-then-n-lt10
returns-then-n-lt10 t c =
    let n = c.args.n in (
      put_as (ap (λ (x : ℕ). x ∷ []) c.last_digit.ensures ∙ sym (decimal_one n c.if-n-lt10.true)) c.put.ensures,
      omega (arith, c.put.ensures.wrote.past),
    )

pub returns : goal.returns
returns t c =
    let n = c.args.n in
    let w =
    put_as (ap (λ (x : ℕ). decimal (n / 10) ++ (x ∷ [])) c.last_digit-2.ensures ∙ sym (decimal_more n c.if-n-lt10.false))
    (put_then c.put_decimal.ensures.0 c.put-2.ensures) in
    (w, omega (arith, w.wrote.past, decimal_most n (omega arith)))
