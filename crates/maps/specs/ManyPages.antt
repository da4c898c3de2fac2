-- Many pages resolved at once: an entry is kept for each of 64 pages, and a mask says which pages are meant. For contracts. Assumes nothing.
use Rattle.std.specs.Prelude.{◌&&◌, cond, false, true, List, ◌≡◌, ◌+◌, ◌<◌, ◌^◌, ℕ, ◌≤◌, length}
use Rattle.base.specs.Count.{sum}
use Rattle.masks.specs.Pages.{pages}
use Rattle.rules.specs.Reading.{looks, resolve}
use Rattle.rules.specs.Rules.{from, sum_in}
use Rattle.rules.specs.State.{Entry, Tables, hole, is_unmapped, page_count, tree_of}
use Rattle.tables.specs.Views.{entries_of}
use Rattle.tables.specs.declared.entries.Kept.{Kept}
use Rattle.maps.specs.Upward.{looks_from, resolve_from}
use Rattle.maps.specs.declared.resolving.ResolvedPages.{ResolvedPages}

-- the pages of m that the map leaves unmapped
pub record UnmappedIn (m : ℕ) (map : ℕ → Entry ℕ) (rest : ℕ) : Type 0 where
  pub below : rest < 2 ^ 64
  pub rest_is : (p : ℕ) → p < page_count → pages rest p ≡ (pages m p && is_unmapped (map p))

-- the map leaves no page of m unmapped
abbrev pub AllMapped : ℕ → (ℕ → Entry ℕ) → Type 0
AllMapped m map = (p : ℕ) → p < page_count → pages m p ≡ true → is_unmapped (map p) ≡ false

-- the entries of the pages of m are those of the map, the others stay
pub record EntriesKept (m : ℕ) (map : ℕ → Entry ℕ) (l l' : List Kept) : Type 0 where
  pub len : length l' ≡ page_count
  pub entries : (p : ℕ) → p < page_count → entries_of l' p ≡ cond (pages m p) (map p) (entries_of l p)

-- what the pages of m are in set s, at most `level` parents up, with the maps looked at for each; holes for the others
pub record PagesResolved (tb : Tables) (f s level m : ℕ) (r : ResolvedPages) : Type 0 where
  pub len : length r.kept ≡ page_count
  pub found : (p : ℕ) → p < page_count → entries_of r.kept p ≡ cond (pages m p) (resolve_from tb f p s level) hole
  pub looked : r.looks ≡ sum page_count (λ p. cond (pages m p) (looks_from tb f p s level) 0)

-- what the pages first, .., first + n - 1 resolve to in set s, with the maps looked at for each; holes for the others
pub record RangeResolved (tb : Tables) (f s first n : ℕ) (r : ResolvedPages) : Type 0 where
  pub len : length r.kept ≡ page_count
  pub found : (p : ℕ) → first ≤ p → p < first + n → entries_of r.kept p ≡ resolve (tree_of tb.sets) (tb.files f) s p
  pub others : (p : ℕ) → p < page_count → (first ≤ p → p < first + n → ⊥) → entries_of r.kept p ≡ hole
  pub looked : r.looks ≡ sum_in (from first n) (looks (tree_of tb.sets) (tb.files f) s)
