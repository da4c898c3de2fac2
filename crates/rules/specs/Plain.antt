-- The plain store: endless room, whole copies. Document 01, "Demand 3".
use Rattle.std.specs.Prelude.{Bool, false, true, ◌++◌, List, ◌∷◌, [], ◌+◌, ◌-◌, ℕ, drop, length, replicate, take}
use Rattle.std.proofs.Math.Option.{Option, none, some}
use Rattle.base.specs.Update.{upd}
use Rattle.rules.specs.Numbers.{Call, create, delete, format, make, read, remove, tell_free, tell_size, truncate, write}
use Rattle.rules.specs.State.{Tree}
use Rattle.rules.specs.Trees.{add_child, root_tree, take_away}

-- "Its sets have parent, level, writeable, children in order of making and 16 files, each absent or a list of bytes, the size its length."
-- The files by number and set.
pub record Plain : Type 0 where
  pub tree : Tree
  pub files : ℕ → ℕ → Option (List ℕ)

-- "Format leaves set 0 alone, without files"
unfoldable pub plain_format : Plain
plain_format = record { tree = root_tree; files = λ f s. none }

-- "A write fills a shorter list with zeros up to its offset, then puts its bytes there, past the end if need be."
unfoldable pub overwrite : List ℕ → ℕ → List ℕ → List ℕ
overwrite l off bs = (take off l ++ replicate (off - length l) 0) ++ (bs ++ drop (off + length bs) l)

-- "Truncate cuts to t bytes or adds zeros up to t."
unfoldable pub cut_or_fill : List ℕ → ℕ → List ℕ
cut_or_fill l n = take n l ++ replicate (n - length l) 0

-- a change of the bytes of a present file
abbrev pub present : Option (List ℕ) → (List ℕ → List ℕ) → Option (List ℕ)
present none g = none
present (some l) g = some (g l)

-- file f of set s is o
unfoldable pub put_file : ℕ → ℕ → Option (List ℕ) → Plain → Plain
put_file s f o pl = record { tree = pl.tree; files = upd pl.files f (upd (pl.files f) s o) }

-- AN ACCEPTED CALL. "empty writes, read, size and free change nothing"; a write's group size g makes no difference
unfoldable pub plain_call : Call → Plain → Plain
plain_call format pl = plain_format
plain_call (create s f) pl = put_file s f (some []) pl
plain_call (write g s f off []) pl = pl
plain_call (write g s f off (x ∷ bs)) pl = put_file s f (present (pl.files f s) (λ l. overwrite l off (x ∷ bs))) pl
plain_call (read s f off buffer) pl = pl
plain_call (truncate s f n) pl = put_file s f (present (pl.files f s) (λ l. cut_or_fill l n)) pl
plain_call (delete s f) pl = put_file s f none pl
plain_call (make s c w) pl = record { tree = add_child pl.tree s c w; files = λ f. upd (pl.files f) c (pl.files f s) }
plain_call (remove s) pl = record { tree = take_away pl.tree s; files = λ f. upd (pl.files f) s none }
plain_call (tell_size s f) pl = pl
plain_call tell_free pl = pl

-- the bytes of a file, none where it is absent
abbrev pub bytes_in : Option (List ℕ) → List ℕ
bytes_in none = []
bytes_in (some l) = l

abbrev pub is_none : {A : Type 0} → Option A → Bool
is_none none = true
is_none (some a) = false
