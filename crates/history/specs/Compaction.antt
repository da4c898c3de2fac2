-- COMPACTION ON BYTES. Document 02, Ask 9: what it leaves of any well-formed tables and pages, and when it is refused.
use Rattle.std.specs.Prelude.{false, true, List, ◌≡◌, ◌<◌, ℕ, ◌≤◌, length}
use Rattle.compaction.specs.Call.{Free, compact_on}
use Rattle.compaction.specs.Renumbered.{Renumbered, used_in}
use Rattle.history.specs.Image.{Image, gave, image_left, store_in}
use Rattle.packing.specs.Words.{Bytes}
use Rattle.rules.specs.Numbers.{Call, no_counts, refusal}
use Rattle.rules.specs.State.{page_bytes}
use Rattle.tables.specs.Calls.{looked_at}
use Rattle.tables.specs.Packed.{well_formed}

-- the image after a compaction that is lent this spare page; `free` is what free pages and spare page hold afterwards
abbrev pub compacted_by : List ℕ → Free → Image → Image
compacted_by spare free m = image_left (compact_on spare free m.tables m.pages)

-- two images have the same tables, and the same pages in the blocks that the first one uses
pub record SameUsed (m m' : Image) : Type 0 where
  pub tables : m'.tables ≡ m.tables
  pub pages : (b : ℕ) → (store_in m).memory.bits b ≡ true → (store_in m').memory.pages b ≡ (store_in m).memory.pages b

-- of well-formed tables and pages, and a spare page of 512 bytes
pub record Compaction (m : Image) (spare : List ℕ) (free : Free) : Type 0 where
  -- it is accepted, and leaves well-formed tables
  pub answer : (compact_on spare free m.tables m.pages).answer ≡ no_counts
  pub formed : let m' : Image = compacted_by spare free m in well_formed m'.tables (length m'.pages) ≡ true
  -- the used blocks are renumbered, and nothing else changes but what is free
  pub renumbered : Renumbered (store_in m) (store_in (compacted_by spare free m))
  -- "a reader of any file sees no difference": none of the ten calls gives anything else, a read no other byte
  pub reader : (c : Call) → gave c (compacted_by spare free m) ≡ gave c m
  -- "free pages and the spare page may hold anything (named as free)": they hold what was told, which is anything
  pub free_pages : (b i : ℕ) → used_in (store_in m) ≤ b → b < (store_in m).memory.blocks → i < page_bytes → (store_in (compacted_by spare free m)).memory.pages b i ≡ free.pages b i
  pub free_spare : (compact_on spare free m.tables m.pages).buffer ≡ free.spare
  -- twice is once, which follows: a second one is accepted and changes nothing but what is free
  pub twice : (spare' : List ℕ) → length spare' ≡ page_bytes → (free' : Free) → let m' : Image = compacted_by spare free m in
      ((compact_on spare' free' m'.tables m'.pages).answer ≡ no_counts) × SameUsed m' (compacted_by spare' free' m')

-- of any well-formed bytes, and whatever free pages and spare page hold afterwards
abbrev pub CompactionClaim : Type 0
CompactionClaim =
    (m : Image) → Bytes m.tables → well_formed m.tables (length m.pages) ≡ true → (spare : List ℕ) → length spare ≡ page_bytes → (free : Free)
    → Compaction m spare free

-- WHEN IT IS REFUSED, of any bytes: "It refuses a spare page of other than 512 bytes with 16, after 1; any refusal leaves the spare page too."
pub record CompactionRefused (m : Image) (spare : List ℕ) (free : Free) : Type 0 where
  pub unformed : well_formed m.tables (length m.pages) ≡ false → compact_on spare free m.tables m.pages ≡ looked_at (refusal 1) m.tables m.pages spare
  pub bad_spare : well_formed m.tables (length m.pages) ≡ true → (length spare ≡ page_bytes → ⊥)
      → compact_on spare free m.tables m.pages ≡ looked_at (refusal 16) m.tables m.pages spare

abbrev pub CompactionRefusedClaim : Type 0
CompactionRefusedClaim = (m : Image) (spare : List ℕ) (free : Free) → CompactionRefused m spare free
