-- Where pages are kept. The rules are stated once over any storage; the store's own is `real`.
use Rattle.std.specs.Prelude.{◌&&◌, Bool, cond, false, not, true, List, ◌%◌, ◌*◌, ◌+◌, ◌-◌, ℕ, leb, ltb, get_or, length}
use Rattle.base.specs.Count.{count}
use Rattle.base.specs.Logic.{pick}
use Rattle.base.specs.Search.{first_free}
use Rattle.base.specs.Update.{upd}
use Rattle.rules.specs.State.{page_bytes}

-- A storage: its blocks, its memory, its pages; what the rules do with them.
pub record Storage : Type 1 where
  pub Block : Type 0
  pub Memory : Type 0
  pub Page : Type 0
  -- how many blocks are free
  pub free : Memory → ℕ
  -- a page of 512 zeros: "A hole is 512 zeros"
  pub zeros : Page
  pub get : Memory → Block → Page
  -- "Taking a block"
  pub take : Memory → Block × Memory
  pub put : Memory → Block → Page → Block × Memory
  -- the block is free again; "A freed block keeps its bytes"
  pub release : Memory → Block → Memory
  -- bytes from an offset of the file on, laid over page p; a page zeroed from a place on
  pub over : ℕ → List ℕ → ℕ → Page → Page
  pub cut : ℕ → Page → Page

-- a page by its bytes; 0 from 512 on
abbrev pub PageData : Type 0
PageData = ℕ → ℕ

-- the memory of the store: header, bitmap, pages
pub record Memory : Type 0 where
  pub blocks : ℕ
  pub next : ℕ
  pub bits : ℕ → Bool
  pub pages : ℕ → PageData

unfoldable pub free_blocks : Memory → ℕ
free_blocks m = count m.blocks (λ b. not (m.bits b))

-- "the first free one from next start, going round; next start then is that block plus one, modulo B"
unfoldable pub take_block : Memory → ℕ × Memory
take_block m =
    let b : ℕ = pick (first_free m.blocks m.bits m.next) 0 in
    (b, record { blocks = m.blocks; next = (b + 1) % m.blocks; bits = upd m.bits b true; pages = m.pages })

-- byte i of page p, where the bytes bs, which begin at off in the file, are laid over the page v
unfoldable pub overlay : ℕ → List ℕ → ℕ → PageData → PageData
overlay off bs p v i =
    let k : ℕ = p * page_bytes + i in
    cond (ltb i page_bytes && leb off k && ltb k (off + length bs)) (get_or bs (k - off) 0) (v i)

unfoldable pub zero_from : ℕ → PageData → PageData
zero_from n v i = cond (ltb i n) (v i) 0

-- THE STORE'S: blocks are numbers
abbrev pub real : Storage
real = record {
  Block = ℕ;
  Memory = Memory;
  Page = PageData;
  free = free_blocks;
  zeros = λ i. 0;
  get = λ m b. m.pages b;
  take = take_block;
  put = λ m b v. (b, record { blocks = m.blocks; next = m.next; bits = m.bits; pages = upd m.pages b v });
  release = λ m b. record { blocks = m.blocks; next = m.next; bits = upd m.bits b false; pages = m.pages };
  over = overlay;
  cut = zero_from;
}
