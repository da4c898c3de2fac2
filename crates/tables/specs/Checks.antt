-- The well-formed check as two calls: its first part, and the whole. Both only look. Document 02, Ask 4.
use Rattle.std.specs.Prelude.{Bool, cond, List, [], ◌≡◌, ◌<◌, ℕ, length}
use Rattle.rules.specs.Numbers.{Answer, no_counts, refusal}
use Rattle.rules.specs.State.{file_count, largest_blocks, page_count, set_count}
use Rattle.tables.specs.Calls.{Outcome, looked_at}
use Rattle.tables.specs.Layout.{entry_word}
use Rattle.tables.specs.Packed.{block_rules, unpack, well_formed}

-- accepted where the rules hold, else refused with document 01's number for "tables not well formed or of wrong length"; the counts are 0
abbrev pub check_answer : Bool → Answer
check_answer holds = cond holds no_counts (refusal 1)

-- THE FIRST PART on any bytes: "That first part accepts exactly the tables of right length that meet the rules on B, next start, kinds, blocks and bits, whatever
-- else they hold". No pages are lent.
abbrev pub check_blocks_on : List ℕ → Outcome
check_blocks_on t = looked_at (check_answer (block_rules t)) t [] []

-- THE WHOLE CHECK on any bytes: "the whole check accepts what it did"
abbrev pub check_on : List ℕ → List ℕ → Outcome
check_on t p = looked_at (check_answer (well_formed t (length p))) t p []

-- "whatever else they hold": tables of the same length, with the same B, next start and bits, and the same words of all entries
pub record SameBlocks (t t' : List ℕ) : Type 0 where
  pub same_length : length t ≡ length t'
  pub same_blocks : (unpack t).blocks ≡ (unpack t').blocks
  pub same_next : (unpack t).next ≡ (unpack t').next
  pub same_bits : (b : ℕ) → b < largest_blocks → (unpack t).bits b ≡ (unpack t').bits b
  pub same_entries : (f s p : ℕ) → f < file_count → s < set_count → p < page_count → entry_word t f s p ≡ entry_word t' f s p

-- THE FIRST PART SEES NOTHING ELSE: it answers the same of two such tables
abbrev pub BlocksAloneClaim : Type 0
BlocksAloneClaim = (t t' : List ℕ) → SameBlocks t t' → (check_blocks_on t).answer ≡ (check_blocks_on t').answer
