-- WHAT COMPACTION DOES, as facts of a store and of the store after it, in document 02's words (Ask 9).
use Rattle.std.specs.Prelude.{true, ◌⊎◌, ◌≡◌, ◌%◌, ◌<◌, ℕ, ltb}
use Rattle.base.specs.Count.{count}
use Rattle.rules.specs.Calls.{Store}
use Rattle.rules.specs.State.{is_stored, is_unmapped, stored}
use Rattle.rules.specs.Storage.{real}

-- "the number of used blocks": of bits that are 1
abbrev pub used_in : Store real → ℕ
used_in r = count r.memory.blocks r.memory.bits

-- "by set number, then file, then page": the entry of page p of file f in set s comes before that of p' of f' in s'
abbrev pub ComesBefore : ℕ → ℕ → ℕ → ℕ → ℕ → ℕ → Type 0
ComesBefore s f p s' f' p' = (s < s') ⊎ ((s ≡ s') × ((f < f') ⊎ ((f ≡ f') × (p < p'))))

-- block b becomes block k: some entry names the one before and the other after
pub record Becomes (r r' : Store real) (b k : ℕ) : Type 0 where
  pub set : ℕ
  pub file : ℕ
  pub page : ℕ
  pub before : (r.files file set).map page ≡ stored b
  pub after : (r'.files file set).map page ≡ stored k

pub record Renumbered (r r' : Store real) : Type 0 where
  -- "renumbers used blocks from 0 up": afterwards the first blocks are used, as many as before, and no other
  pub from_0 : (b : ℕ) → r'.memory.bits b ≡ ltb b (used_in r)
  -- of two stored entries the one that comes before names the lower block
  pub in_turn_law : (s f p s' f' p' b b' : ℕ) → (r'.files f s).map p ≡ stored b → (r'.files f' s').map p' ≡ stored b' → ComesBefore s f p s' f' p' → b < b'
  -- "Next start becomes the number of used blocks modulo B."
  pub next : r'.memory.next ≡ used_in r % r.memory.blocks
  -- "none lost or doubled": used blocks before and after go together, one to one
  pub found : (b : ℕ) → r.memory.bits b ≡ true → (k : ℕ) × Becomes r r' b k
  pub made : (k : ℕ) → r'.memory.bits k ≡ true → (b : ℕ) × Becomes r r' b k
  pub alone : (b k k' : ℕ) → Becomes r r' b k → Becomes r r' b k' → k ≡ k'
  pub apart : (b b' k : ℕ) → Becomes r r' b k → Becomes r r' b' k → b ≡ b'
  -- "Each block's bytes are found again under the new number"
  pub bytes : (b k : ℕ) → Becomes r r' b k → r'.memory.pages k ≡ r.memory.pages b
  -- all else stays: B, the set records with their terms, of each file its state, its size and the kinds of its entries
  pub blocks : r'.memory.blocks ≡ r.memory.blocks
  pub sets : r'.sets ≡ r.sets
  pub state : (f s : ℕ) → (r'.files f s).state ≡ (r.files f s).state
  pub size : (f s : ℕ) → (r'.files f s).size ≡ (r.files f s).size
  pub kind : (f s p : ℕ) → (is_stored ((r'.files f s).map p) ≡ is_stored ((r.files f s).map p)) × (is_unmapped ((r'.files f s).map p) ≡ is_unmapped ((r.files f s).map p))
