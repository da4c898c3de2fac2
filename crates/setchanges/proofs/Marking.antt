-- Marking a file: its blocks are freed, its record is erased, state and size are put. Assumes nothing.
use mathlib.Core.List.{List}
use mathlib.Core.Path.{◌≡◌, ap, ◌∙◌}
use Prim.Native.Nat.{ℕ}
use Rattle.rules.specs.State.{State, Tables, absent_file, marked}
use Rattle.setchanges.proofs.Turning.{change_twice}
use Rattle.setchanges.specs.Changes.{erased_in, freed_in, marked_in}
use Rattle.tables.proofs.Operations.{turns_more, turns_then}
use Rattle.tables.specs.Packed.{unpack}
use Rattle.tables.specs.Views.{Turns, put_head, put_head_in}

marked_all : (f s : ℕ) (tb : Tables) → put_head_in f s marked 0 (erased_in f s (freed_in f s tb)) ≡ marked_in f s tb
unfolding erased_in put_head_in put_head marked_in freed_in
marked_all f s tb = change_twice f s (freed_in f s tb) (λ x. record { state = marked; size = 0; map = x.map }) (λ x. absent_file)

-- LAW: the whole of it
pub mark_turns : {t₀ t₁ t₂ t₃ : List ℕ} (f s : ℕ) (l : State) → l ≡ marked → Turns t₀ t₁ (freed_in f s) → Turns t₁ t₂ (erased_in f s) → Turns t₂ t₃ (put_head_in f s l 0)
    → Turns t₀ t₃ (marked_in f s)
mark_turns {t₀} f s l q a b d =
    turns_more (λ x. erased_in f s (freed_in f s x)) (put_head_in f s l 0) (marked_in f s) (turns_then a b) d
    (ap (λ (x : State). put_head_in f s x 0 (erased_in f s (freed_in f s (unpack t₀)))) q ∙ marked_all f s (unpack t₀))
