-- COMPACTION ON BYTES: what the exported function does. Document 02, Ask 9.
use Rattle.std.specs.Prelude.{Bool, not, List, ◌∷◌, [], suc, zero, ℕ, eqb, length}
use Rattle.compaction.specs.Compact.{compacted}
use Rattle.rules.specs.Calls.{Store, tables_of}
use Rattle.rules.specs.Numbers.{View, lowest, no_counts, not_formed, refusal}
use Rattle.rules.specs.State.{page_bytes}
use Rattle.rules.specs.Storage.{PageData, real}
use Rattle.tables.specs.Calls.{Outcome, looked_at, pack_pages, pages_of, store_of, view_on}
use Rattle.tables.specs.Packed.{pack}

-- "free pages and the spare page may hold anything (named as free)": what they hold afterwards. It is an argument of the definition, not of the exported function: there
-- it is whatever the code leaves. A spare page keeps its length, as all that is lent does.
pub record Free : Type 0 where
  pub pages : ℕ → PageData
  pub spare : List ℕ

-- what is free, where pages and spare page hold these after the call: by this a contract names what the code left
abbrev pub free_in : List ℕ → List ℕ → Free
free_in p spare = record { pages = pages_of p; spare = spare }

-- "It refuses a spare page of other than 512 bytes with 16, after 1"
unfoldable pub compact_conditions : View → List ℕ → List (Bool × ℕ)
compact_conditions v spare = not_formed v ∷ (not (eqb (length spare) page_bytes), 16) ∷ []

-- what an accepted compaction leaves: every byte of the tables, and of the pages in used blocks, is fixed
abbrev pub left_by : Store real → List ℕ → Outcome
left_by st spare = record {
  answer = no_counts;
  tables = pack (tables_of st);
  pages = pack_pages st.memory.blocks st.memory.pages;
  buffer = spare;
}

-- what it leaves, by the number that it gives; "any refusal leaves the spare page too"
unfoldable pub compact_as : ℕ → List ℕ → Free → List ℕ → List ℕ → Outcome
compact_as zero spare free t p = left_by (compacted free.pages (store_of t p)) free.spare
compact_as (suc n) spare free t p = looked_at (refusal (suc n)) t p spare

-- A COMPACTION ON BYTES, of any contents and lengths; the buffer is the spare page, "one spare page of 512 bytes lent for it"
unfoldable pub compact_on : List ℕ → Free → List ℕ → List ℕ → Outcome
compact_on spare free t p = compact_as (lowest (compact_conditions (view_on t p) spare)) spare free t p
