-- For the contracts of the code: the owners of the blocks in a window of 256, the places of the entries that name them.
use Rattle.std.specs.Prelude.{Bool, ◌&&◌, cond, true, List, ◌≡◌, refl, ◌*◌, ◌+◌, ◌-◌, ◌/◌, ◌<◌, suc, zero, ℕ, ◌≤◌, leb, ltb, get_or, length, set}
use Rattle.compaction.specs.Compact.{entry_in, place_count}
use Rattle.rules.specs.State.{Entry, hole, stored, unmapped}
use Rattle.tables.specs.Packed.{unpack}
use Rattle.compacting.specs.declared.owners.Owners.{Owners}

-- is block b in the window from block w on?
unfoldable pub in_window : ℕ → ℕ → Bool
in_window w b = leb w b && ltb (b - w) 256

-- place o is noted as that of the owner of block b, where b is in the window from block w on
unfoldable pub noted : List ℕ → ℕ → ℕ → ℕ → List ℕ
noted owners w b o = cond (in_window w b) (set owners (b - w) o) owners

-- the same for an entry at place o
abbrev pub noted_entry : List ℕ → ℕ → Entry ℕ → ℕ → List ℕ
noted_entry owners w unmapped o = owners
noted_entry owners w hole o = owners
noted_entry owners w (stored b) o = noted owners w b o

-- the same for m entries from place n on
pub noted_from : List ℕ → List ℕ → ℕ → ℕ → ℕ → List ℕ
noted_from t owners w n zero = owners
noted_from t owners w n (suc m) = noted_entry (noted_from t owners w n m) w (entry_in (unpack t).files (n + m)) (n + m)

-- the window, and its owners, after it is moved to block k where k is not in it, with the entries from the file of place n on
unfoldable pub window_at : ℕ → ℕ → ℕ
window_at w k = cond (in_window w k) w k

unfoldable pub owners_at : List ℕ → List ℕ → ℕ → ℕ → ℕ → List ℕ
owners_at t owners w n k = cond (in_window w k) owners (noted_from t owners k (n / 64 * 64) (place_count - n / 64 * 64))

-- the owners of the window from block w on are those among the entries from place n on
pub record Tracked (t owners : List ℕ) (w n : ℕ) : Type 0 where
  pub long : length owners ≡ 256
  pub owner : (i b : ℕ) → n ≤ i → i < place_count → entry_in (unpack t).files i ≡ stored b → in_window w b ≡ true → get_or owners (b - w) 0 ≡ i

-- the same of the code's owners
abbrev pub OwnersOf : List ℕ → Owners → ℕ → Type 0
OwnersOf t o n = Tracked t o.places o.first n

-- the window stays, and its owners become l
pub record Become (o o' : Owners) (l : List ℕ) : Type 0 where
  pub first : o'.first ≡ o.first
  pub places : o'.places ≡ l

-- laws of the recursion
pub noted_none : (t owners : List ℕ) (w n : ℕ) → noted_from t owners w n 0 ≡ owners
unfolding noted_from
noted_none t owners w n = refl

pub noted_more : (t owners : List ℕ) (w n m : ℕ) → noted_from t owners w n (suc m) ≡ noted_entry (noted_from t owners w n m) w (entry_in (unpack t).files (n + m)) (n + m)
unfolding noted_from
noted_more t owners w n m = refl
