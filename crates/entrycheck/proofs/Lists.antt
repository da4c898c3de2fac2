-- Lists of numbers: all the same, and one place after the other put. Assumes nothing.
use mathlib.Core.List.{List}
use mathlib.Core.Path.{ap, sym, ◌∙◌, ◌≡◌}
use Prim.Native.Nat.{◌+◌, ◌<◌, ℕ}
use native.Mathlib.Omega.{arith}
use lib.ListN.{get_or, get_or-replicate, length, length-replicate, replicate, set}
use lib.Seq.{get_or-set_other, get_or-set_same}
use Rattle.base.specs.Logic.{same?}
use Rattle.entrycheck.specs.Records.{AllAre}

-- n numbers that are all v; shut, so that no list of many is written out
unfoldable pub filled : ℕ → ℕ → List ℕ
filled n v = replicate n v

pub all_are : (n v : ℕ) → AllAre n (filled n v) v
unfolding filled
all_are n v = (length-replicate {A = ℕ} n v, λ i l. get_or-replicate {A = ℕ} n i v 0 l)

-- LAW: a value of one place more
pub put_more : (l : List ℕ) (i v : ℕ) (g : ℕ → ℕ) → i < length l → ((x : ℕ) → x < i → get_or l x 0 ≡ g x) → v ≡ g i → (x : ℕ) → x < i + 1 → get_or (set l i v) x 0 ≡ g x
put_more l i v g li h e x lx =
    same? x i
    (λ q. ap (λ y. get_or (set l i v) y 0) q ∙ get_or-set_same l i v 0 li ∙ e ∙ sym (ap g q))
    (λ q. get_or-set_other l i x v 0 q ∙ h x (omega arith))
