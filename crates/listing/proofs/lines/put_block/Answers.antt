-- `listing::lines::put_block` meets its contract. Assumes nothing.
use mathlib.Core.List.{List, ◌∷◌}
use mathlib.Core.Path.{ap, subst, sym, ◌∙◌}
use Prim.Native.Nat.{ℕ}
use native.Mathlib.Omega.{arith}
use Rattle.tables.specs.Meaning.{entry_meant}
use Rattle.tables.specs.OneReading.{block_fits}
use Rattle.listing.specs.Listing.{block_word}
use Rattle.listing.specs.Text.{blank, decimal}
use Rattle.listing.proofs.Writing.{put_as}
use Rattle.listing.proofs.lines.put_block.Goals as goal

pub returns-in-Unmapped : goal.returns-in-Unmapped
unfolding entry_meant
returns-in-Unmapped c = (
  put_as (ap (λ x. blank ∷ block_word c.args.root (entry_meant x)) (sym c.in-Unmapped.is)) c.put_bytes.ensures,
  omega (arith, c.put_bytes.ensures.wrote.past),
)

pub returns-in-Hole : goal.returns-in-Hole
unfolding entry_meant
returns-in-Hole c = (
  put_as (ap (λ (w : List ℕ). blank ∷ w) c.hole_digit.ensures ∙ ap (λ x. blank ∷ block_word c.args.root (entry_meant x)) (sym c.in-Hole.is)) c.put_bytes-in-Hole.ensures,
  omega (arith, c.put_bytes-in-Hole.ensures.wrote.past),
)

pub returns-in-Stored : goal.returns-in-Stored
unfolding entry_meant
returns-in-Stored c =
    let k = subst (λ x. block_fits (entry_meant x)) c.in-Stored.is c.requires.1 in (
      put_as (ap (λ (n : ℕ). blank ∷ decimal n) c.number.ensures ∙ ap (λ x. blank ∷ block_word c.args.root (entry_meant x)) (sym c.in-Stored.is)) c.put_word.ensures.0,
      c.put_word.ensures.2 (omega (arith, k, c.number.ensures)),
    )
