-- What a walk up the parents shows of a page and of a size, from any set and at most n parents up, and how many maps it looks at.
use Rattle.std.specs.Prelude.{ℕ}
use Rattle.rules.specs.Reading.{looks_up, shown_entry, shown_size, walk}
use Rattle.rules.specs.State.{Entry, File, Tables, hole}

-- what page p of file f is in set s
unfoldable pub resolve_from : Tables → ℕ → ℕ → ℕ → ℕ → Entry ℕ
resolve_from tb f p s n = walk (λ x. (tb.sets x).parent) (λ (x : File ℕ). shown_entry (x.map p)) hole n (tb.files f) s

-- the size of file f in set s
unfoldable pub size_from : Tables → ℕ → ℕ → ℕ → ℕ
size_from tb f s n = walk (λ x. (tb.sets x).parent) (λ (x : File ℕ). shown_size x.state x.size) 0 n (tb.files f) s

-- how many maps are looked at for that page
unfoldable pub looks_from : Tables → ℕ → ℕ → ℕ → ℕ → ℕ
looks_from tb f p s n = looks_up (λ x. (tb.sets x).parent) p n (tb.files f) s
