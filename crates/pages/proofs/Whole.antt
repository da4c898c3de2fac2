-- The whole pages buffer and its pages: each gives the other. Assumes nothing.
use mathlib.Core.List.{List}
use mathlib.Core.Path.{ap, sym, ◌∙◌, ◌≡◌}
use Prim.Native.Nat.{◌%◌, ◌*◌, ◌/◌, ℕ}
use native.Mathlib.Nat.{div-add-mod'}
use native.Mathlib.Omega.{arith}
use lib.ListN.{get_or, length}
use Rattle.base.specs.Tabulate.{tab_of}
use Rattle.pages.proofs.PageRuns.{pages_in}
use Rattle.tables.specs.Calls.{pack_pages, pages_of}

-- a byte of the buffer by its page
byte_of : (p : List ℕ) (i : ℕ) → pages_of p (i / 512) (i % 512) ≡ get_or p i 0
byte_of p i = pages_in p (i / 512) (i % 512) (omega arith) ∙ ap (λ x. get_or p x 0) (div-add-mod' i 512)

-- LAW: a buffer of n pages is its pages, packed
pub pages_packed : (n : ℕ) (p : List ℕ) → length p ≡ n * 512 → pack_pages n (pages_of p) ≡ p
unfolding pack_pages
pages_packed n p h = tab_of 0 (n * 512) (λ i. pages_of p (i / 512) (i % 512)) p h (λ i b. sym (byte_of p i))
