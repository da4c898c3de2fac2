-- Blocks freed over `counting`. Assumes nothing.
use mathlib.Core.Bool.{cond}
use mathlib.Core.List.{List, ◌∷◌, []}
use mathlib.Core.Path.{ap, refl, sym, ◌∙◌, ◌≡◌}
use Prim.Native.Nat.{◌+◌, ℕ}
use native.Mathlib.Nat.{add-zero}
use native.Mathlib.Omega.{arith}
use Rattle.rules.proofs.Storages.Model.{counting}
use Rattle.rules.proofs.Tally.TallyLoops.{all_pages, count_pages}
use Rattle.rules.specs.Rules.{count_in, each, free_entry, free_map, from}
use Rattle.rules.specs.State.{hole, is_stored, page_count, stored, unmapped}
use Rattle.rules.specs.Tally.{Kind, TallyFile, stored_pages}

-- "frees the file's blocks"
pub free_one : (e : Kind) (m : ℕ) → free_entry counting e m ≡ m + cond (is_stored e) 1 0
unfolding free_entry
free_one unmapped m = sym (add-zero m)
free_one hole m = sym (add-zero m)
free_one (stored b) m = refl

free_list : (map : ℕ → Kind) (ps : List ℕ) (m : ℕ) → each (λ p. free_entry counting (map p)) ps m ≡ m + count_in ps (λ p. is_stored (map p))
unfolding each count_in
free_list map [] m = sym (add-zero m)
free_list map (p ∷ ps) m = rw (free_one (map p) m) (free_list map ps _ ∙ omega arith)

pub free_map_law : (x : TallyFile) (m : ℕ) → free_map counting x.map m ≡ m + stored_pages x
unfolding free_map stored_pages
free_map_law x m = free_list x.map (from 0 page_count) m ∙ ap (λ n. m + n) (sym (count_pages all_pages (λ p. is_stored (x.map p))))
