-- For the contracts of the code, not for a reader of document 01: which children have a turn at a page, and who takes it over.
use Rattle.std.specs.Prelude.{Bool, cond, true, Some, ◌≡◌, ◌<◌, ℕ, ◌≤◌}
use mathlib.Core.List.{List, Memᴰ}
use Rattle.rules.specs.Rules.{Work, each, give, hand}
use Rattle.rules.specs.State.{Tables, Tree, chain, tree_of}
use Rattle.rules.specs.Storage.{real}
use Rattle.copying.specs.Work.{hand_if}
use Rattle.copying.specs.declared.giving.InTurn.{InTurn}

-- page q of set s, handed over to the first of cs that needs it or copied to each
abbrev pub handed_or : Bool → Bool → Tree → ℕ → ℕ → List ℕ → Work real → Work real
handed_or over must t s q cs w = cond over (hand real t s q cs w) (each (give real t must s q) cs w)

-- page q of file f, of whatever set s: giving it to set c and those behind it in its chain, handed over or not, is giving it to `most` sets from `next` on and then
-- handing it over to the heir, if there is one; where it is handed over, copies of it are needed ones
pub record TurnsFound (tb : Tables) (f q c : ℕ) (over : Bool) (r : InTurn) : Type 0 where
  pub rule : (must : Bool) → (over ≡ true → must ≡ true) → (s : ℕ) (w : Work real) → w.files ≡ tb.files f → handed_or over must (tree_of tb.sets) s q (chain tb.sets 8 c) w
      ≡ hand_if (tree_of tb.sets) s q r.heir (each (give real (tree_of tb.sets) must s q) (chain tb.sets r.most r.next) w)
  -- these are of the chain
  pub within : (x : ℕ) → Memᴰ x (chain tb.sets r.most r.next) → Memᴰ x (chain tb.sets 8 c)
  pub few : r.most ≤ 8
  -- there is an heir, a set, only where the page is handed over
  pub heir_if_over : (d : ℕ) → r.heir ≡ Some d → (d < 8) × (over ≡ true)
