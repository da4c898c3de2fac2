-- The pass over the heads of the files of a number, set by set. Assumes nothing.
use Rattle.std.specs.Prelude.{Bool, cond, false, not, true, List, ◌≡◌, ◌-◌, ◌/◌, ◌<◌, ℕ, ◌≤◌, eqb, set}
use Rattle.std.specs.Int.Bits.{bit_or}
use Rattle.base.specs.Count.{all}
use Rattle.formed.specs.Files.{EndsTo, LivesTo, end_of, file_alone, head_formed}
use Rattle.rules.specs.State.{SetRecord, live, set_count}
use Rattle.tables.specs.Layout.{read_size, state_of}
use Rattle.tables.specs.Packed.{unpack}

-- sets from n on are unused
abbrev pub UnusedFrom : (ℕ → SetRecord) → ℕ → Type 0
UnusedFrom sets n = (s : ℕ) → n ≤ s → s < set_count → (sets s).used ≡ false

-- n is the number after that of the last used set, or 0 where no set is used
pub record UsedTo (sets : ℕ → SetRecord) (n : ℕ) : Type 0 where
  pub most : n ≤ set_count
  pub after : UnusedFrom sets n
  pub last : 0 < n → (sets (n - 1)).used ≡ true

-- the head w of a file of set s, which has the digit given and the unmapped pages u, has been looked at: the rules that concern no other file decide; the file's
-- end is kept, and whether it is own or virgin
pub record HeadPassed (older : Bool) (w u s digit : ℕ) (ends ends' : List ℕ) (lives lives' : ℕ) (ok : Bool) : Type 0 where
  pub decided : ok ≡ head_formed older w u (not (eqb digit 0)) (eqb s 0)
  pub ends_are : ends' ≡ set ends s (end_of (state_of (w / 1073741824)) (read_size w))
  pub lives_are : lives' ≡ bit_or lives (cond (live (state_of (w / 1073741824))) digit 0)

-- the heads of the files of number f have been looked at
pub record HeadsPassed (older : Bool) (t : List ℕ) (f : ℕ) (ends : List ℕ) (lives : ℕ) (ok : Bool) : Type 0 where
  pub decided : ok ≡ all set_count (file_alone t older f)
  pub ends_are : ok ≡ true → EndsTo ((unpack t).files f) set_count ends
  pub lives_are : ok ≡ true → LivesTo (unpack t).sets ((unpack t).files f) set_count lives
