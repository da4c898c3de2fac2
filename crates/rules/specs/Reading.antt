-- What a page and a size are by reading, how many maps are looked at for a page, and who depends on whom. Document 01, "Reading a page", "needs" and "Marking";
-- document 02, Ask 3.
use Rattle.std.specs.Prelude.{◌&&◌, Bool, cond, false, ◌||◌, suc, zero, ℕ, eqb}
use Rattle.std.proofs.Math.Option.{Option, none, some}
use Rattle.base.specs.Logic.{pick}
use Rattle.rules.specs.State.{Entry, File, Files, State, Tree, absent, hole, is_unmapped, live, marked, own, page_count, stored, unmapped, virgin}

-- What a set's file shows itself, or the nearest of the sets above it that shows it; at most n parents up.
module _ {X Y : Type 0} (parent : ℕ → ℕ) (look : X → Option Y) (d : Y) where
  unfoldable pub walk : ℕ → (ℕ → X) → ℕ → Y
  walk zero files s = pick (look (files s)) d
  walk (suc n) files s = pick (look (files s)) (walk n files (parent s))

-- a virgin file shows no size: "a virgin file has the size of the parent's"
abbrev pub shown_size : State → ℕ → Option ℕ
shown_size absent n = some n
shown_size own n = some n
shown_size virgin n = none
shown_size marked n = some n

module _ {K : Type 0} where
  -- an unmapped entry shows nothing: "an unmapped page is what the same page is in the parent set"
  abbrev pub shown_entry : Entry K → Option (Entry K)
  shown_entry unmapped = none
  shown_entry hole = some hole
  shown_entry (stored b) = some (stored b)

  -- what page p of the file resolves to in set s, by recursion on the level
  unfoldable pub resolve : Tree → Files K → ℕ → ℕ → Entry K
  resolve t files s p = walk t.parent (λ (x : File K). shown_entry (x.map p)) hole (t.level s) files s

  -- Document 02, Ask 3: how many maps are looked at for page p of the file in set s, at most n parents up: "one for the file's own map and one for each parent
  -- map gone to, ending at the first that is not unmapped". With no parent left it ends too: that is set 0, where no entry of a present file is unmapped.
  unfoldable pub looks_up : (ℕ → ℕ) → ℕ → ℕ → Files K → ℕ → ℕ
  looks_up parent p zero files s = 1
  looks_up parent p (suc n) files s = suc (cond (is_unmapped ((files s).map p)) (looks_up parent p n files (parent s)) 0)

  -- how many maps are looked at for page p of the file in set s, up to set 0
  unfoldable pub looks : Tree → Files K → ℕ → ℕ → ℕ
  looks t files s p = looks_up t.parent p (t.level s) files s

  -- the size by reading
  unfoldable pub size_by_reading : Tree → Files K → ℕ → ℕ
  size_by_reading t files s = walk t.parent (λ (x : File K). shown_size x.state x.size) 0 (t.level s) files s

  -- "A child needs page p when its file is own or virgin and p is unmapped there."
  unfoldable pub needs : Files K → ℕ → ℕ → Bool
  needs files c p = live (files c).state && is_unmapped ((files c).map p)

  -- is one of the first n entries unmapped
  unfoldable pub some_unmapped : ℕ → (ℕ → Entry K) → Bool
  some_unmapped zero m = false
  some_unmapped (suc n) m = is_unmapped (m n) || some_unmapped n m

  -- "an own or virgin file depends on the parent set's file as long as it has any unmapped page, whatever its size"
  unfoldable pub dependent : File K → Bool
  dependent x = live x.state && some_unmapped page_count x.map

  -- is s the set c, or does its file depend on that of a set which is; at most n parents up
  unfoldable pub depends_on : Tree → Files K → ℕ → ℕ → ℕ → Bool
  depends_on t files c zero s = eqb c s
  depends_on t files c (suc n) s = eqb c s || (dependent (files s) && depends_on t files c n (t.parent s))

  -- is the file of set s marked when that of set c is
  unfoldable pub reaches : Tree → Files K → ℕ → ℕ → Bool
  reaches t files c s = depends_on t files c (t.level s) s
