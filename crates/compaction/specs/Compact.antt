-- COMPACTION of a store. Document 02, Ask 9: "Compaction renumbers used blocks from 0 up, by set number, then file, then page, and moves the pages to suit".
use Rattle.std.specs.Prelude.{◌&&◌, cond, refl, ◌≡◌, ◌%◌, ◌*◌, ◌+◌, ◌/◌, suc, zero, ℕ, ltb}
use Rattle.base.specs.Count.{count}
use Rattle.base.specs.Update.{upd}
use Rattle.rules.specs.Calls.{Store}
use Rattle.rules.specs.State.{Entry, Files, file_count, hole, is_stored, page_bytes, page_count, set_count, stored, unmapped}
use Rattle.rules.specs.Storage.{PageData, real}

-- "by set number, then file, then page": the entries of all maps in this order. The place of an entry, and the set, file and page of a place.
abbrev pub place_count : ℕ
place_count = set_count * file_count * page_count

abbrev pub place_of : ℕ → ℕ → ℕ → ℕ
place_of s f p = (s * file_count + f) * page_count + p

abbrev pub set_at : ℕ → ℕ
set_at n = (n / page_count) / file_count

abbrev pub file_at : ℕ → ℕ
file_at n = (n / page_count) % file_count

abbrev pub page_at : ℕ → ℕ
page_at n = n % page_count

-- the entry at a place
abbrev pub entry_in : {K : Type 0} → (ℕ → Files K) → ℕ → Entry K
entry_in files n = (files (file_at n) (set_at n)).map (page_at n)

-- how many stored entries stand before a place
unfoldable pub stored_before : {K : Type 0} → (ℕ → Files K) → ℕ → ℕ
stored_before files n = count n (λ i. is_stored (entry_in files i))

-- "the number of used blocks": as many as there are stored entries
abbrev pub used_blocks : {K : Type 0} → (ℕ → Files K) → ℕ
used_blocks files = stored_before files place_count

-- the files with the pages themselves in place of the blocks' numbers: what compaction keeps
abbrev pub with_page : (ℕ → PageData) → Entry ℕ → Entry PageData
with_page pages unmapped = unmapped
with_page pages hole = hole
with_page pages (stored b) = stored (pages b)

unfoldable pub contents : Store real → ℕ → Files PageData
contents st f s = record { state = (st.files f s).state; size = (st.files f s).size; map = λ p. with_page st.memory.pages ((st.files f s).map p) }

-- "renumbers used blocks from 0 up": a stored entry before which k others stand names block k
abbrev pub entry_anew : ℕ → Entry PageData → Entry ℕ
entry_anew k unmapped = unmapped
entry_anew k hole = hole
entry_anew k (stored v) = stored k

unfoldable pub files_anew : (ℕ → Files PageData) → ℕ → Files ℕ
files_anew files f s = record { state = (files f s).state; size = (files f s).size; map = λ p. entry_anew (stored_before files (place_of s f p)) ((files f s).map p) }

-- "and moves the pages to suit": its page is put into block k
abbrev pub lay_page : ℕ → Entry PageData → (ℕ → PageData) → ℕ → PageData
lay_page k unmapped pages = pages
lay_page k hole pages = pages
lay_page k (stored v) pages = upd pages k v

-- the pages of the entries before place n, laid over other pages
pub pages_anew : (ℕ → Files PageData) → (ℕ → PageData) → ℕ → ℕ → PageData
pages_anew files pages zero = pages
pages_anew files pages (suc n) = lay_page (stored_before files n) (entry_in files n) (pages_anew files pages n)

-- "free pages … may hold anything (named as free)": what pages hold afterwards where no other is laid over them, as far as there are pages
abbrev pub free_pages : ℕ → (ℕ → PageData) → ℕ → PageData
free_pages blocks free b i = cond (ltb b blocks && ltb i page_bytes) (free b i) 0

-- a store laid down anew from its contents. "Next start becomes the number of used blocks modulo B."
abbrev pub laid_anew : (ℕ → PageData) → Store real → (ℕ → Files PageData) → Store real
laid_anew free st files = record {
  memory = record {
    blocks = st.memory.blocks;
    next = used_blocks files % st.memory.blocks;
    bits = λ b. ltb b (used_blocks files);
    pages = pages_anew files (free_pages st.memory.blocks free) place_count;
  };
  sets = st.sets;
  files = files_anew files;
}

-- THE COMPACTED STORE
unfoldable pub compacted : (ℕ → PageData) → Store real → Store real
compacted free st = laid_anew free st (contents st)

-- laws of the recursion
pub pages_none : (files : ℕ → Files PageData) (pages : ℕ → PageData) → pages_anew files pages 0 ≡ pages
unfolding pages_anew
pages_none files pages = refl

pub pages_more : (files : ℕ → Files PageData) (pages : ℕ → PageData) (n : ℕ) → pages_anew files pages (suc n) ≡ lay_page (stored_before files n) (entry_in files n) (pages_anew files pages n)
unfolding pages_anew
pages_more files pages n = refl
