-- "Well formed means all of", for what the unpacked tables hold. The rules on how the words are packed stand with the layout of the tables.
use Rattle.std.specs.Prelude.{◌&&◌, Bool, cond, false, not, true, ◌||◌, List, ◌∷◌, [], ◌*◌, suc, zero, ℕ, eqb, leb, ltb}
use Rattle.base.specs.Count.{all, count, sum}
use Rattle.base.specs.Logic.{digit}
use Rattle.rules.specs.Reading.{dependent, resolve, some_unmapped}
use Rattle.rules.specs.Rules.{count_in}
use Rattle.rules.specs.State.{Entry, File, SetRecord, Tables, Term, children_of, file_count, highest_level, hole, is_absent, is_marked, is_own, is_stored, is_unmapped, is_virgin, largest_blocks, largest_size, live, no_set, page_bytes, page_count, set_count, stored, tree_of, unmapped}
use Rattle.rules.specs.Terms.{last_end}

-- does the entry name block b
abbrev pub names : ℕ → Entry ℕ → Bool
names b unmapped = false
names b hole = false
names b (stored c) = eqb b c

-- is the block of an entry below n
abbrev pub block_below : ℕ → Entry ℕ → Bool
block_below n unmapped = true
block_below n hole = true
block_below n (stored b) = ltb b n

-- every set below 8, every file below 16 of every set, every page below 64 of every file
unfoldable pub all_sets : (ℕ → Bool) → Bool
all_sets f = all set_count f

unfoldable pub all_files : (ℕ → ℕ → Bool) → Bool
all_files g = all set_count (λ s. all file_count (λ f. g f s))

unfoldable pub all_pages : (ℕ → Bool) → Bool
all_pages f = all page_count f

-- an unused set, an absent file: all zero
abbrev pub zero_set : SetRecord → Bool
zero_set r =
    not r.writeable && eqb r.level 0 && eqb r.parent 0 && eqb r.first_child 0 && eqb r.next_sibling 0
    && eqb r.term.first_day 0 && eqb r.term.end_day 0

abbrev pub zero_file : File ℕ → Bool
zero_file x = eqb x.size 0 && all_pages (λ p. is_unmapped (x.map p))

-- does every set of a list pass
unfoldable pub all_in : List ℕ → (ℕ → Bool) → Bool
all_in [] f = true
all_in (x ∷ xs) f = f x && all_in xs f

-- "No file's size is over 32,768."
abbrev pub size_formed : File ℕ → Bool
size_formed x = leb x.size largest_size

-- "A virgin file has size 0 and only unmapped entries."
abbrev pub virgin_formed : File ℕ → Bool
virgin_formed x = not (is_virgin x.state) || zero_file x

-- "Set 0 has no virgin or marked file and no unmapped entry outside absent files."
abbrev pub root_file_formed : File ℕ → Bool
root_file_formed x = is_absent x.state || (not (is_virgin x.state) && not (is_marked x.state) && not (some_unmapped page_count x.map))

-- "first below end and end at most 36,525"
unfoldable pub term_formed : Term → Bool
term_formed x = ltb x.first_day x.end_day && leb x.end_day last_end

module _ (tb : Tables) where
  -- "B is 1 to 4,096, next start is below B, .."
  unfoldable pub header_formed : Bool
  header_formed = leb 1 tb.blocks && leb tb.blocks largest_blocks && ltb tb.next tb.blocks

  -- ".. the pages buffer is B × 512 bytes.": of tables and pages, so it stands apart
  abbrev pub pages_fit : ℕ → Bool
  pages_fit pagesLength = eqb pagesLength (tb.blocks * page_bytes)

  -- how many entries name block b
  unfoldable pub times_named : ℕ → ℕ
  times_named b = sum set_count (λ s. sum file_count (λ f. count page_count (λ p. names b ((tb.files f s).map p))))

  -- "A bit is 1 exactly when one stored entry names that block. No block is named twice, or is B or more."
  unfoldable pub bits_formed : Bool
  bits_formed =
      all largest_blocks (λ b. eqb (times_named b) (digit (tb.bits b)))
      && all_files (λ f s. all_pages (λ p. block_below tb.blocks ((tb.files f s).map p)))

  -- "Unused sets and absent files are all zero; an unused set has no files."
  unfoldable pub zeros_formed : Bool
  zeros_formed =
      all_sets (λ s. (tb.sets s).used || zero_set (tb.sets s))
      && all_files (λ f s. not (is_absent (tb.files f s).state) || zero_file (tb.files f s))
      && all_files (λ f s. (tb.sets s).used || is_absent (tb.files f s).state)

  -- "Set 0 is used, writeable, level 0, with no parent or sibling."
  unfoldable pub root_formed : Bool
  root_formed =
      (tb.sets 0).used && (tb.sets 0).writeable && eqb (tb.sets 0).level 0 && eqb (tb.sets 0).parent no_set && eqb (tb.sets 0).next_sibling no_set

  -- "links are 8 or used sets"
  abbrev pub link_formed : ℕ → Bool
  link_formed k = eqb k no_set || (ltb k set_count && (tb.sets k).used)

  -- "Chains end": within n sets from k on
  unfoldable pub chain_ends : ℕ → ℕ → Bool
  chain_ends zero k = not (ltb k set_count)
  chain_ends (suc n) k = cond (ltb k set_count) (chain_ends n (tb.sets k).next_sibling) true

  -- the links and the child chain of a used set: "Chains end and hold only that parent's children"
  unfoldable pub chain_formed : ℕ → Bool
  chain_formed s =
      link_formed (tb.sets s).first_child && link_formed (tb.sets s).next_sibling
      && chain_ends set_count (tb.sets s).first_child && all_in (children_of tb.sets s) (λ c. eqb (tb.sets c).parent s)

  -- "Each other used set stands once, in its parent's child chain, with the right level, at most 5."
  unfoldable pub place_formed : ℕ → Bool
  place_formed c =
      let s : ℕ = (tb.sets c).parent in
      ltb s set_count && eqb (count_in (children_of tb.sets s) (λ x. eqb c x)) 1 && eqb (tb.sets c).level (suc (tb.sets s).level) && leb (tb.sets c).level highest_level

  unfoldable pub tree_formed : Bool
  tree_formed = root_formed && all_sets (λ s. not (tb.sets s).used || (chain_formed s && (eqb s 0 || place_formed s)))

  -- "Well formed now also asks, of a used set, first below end and end at most 36,525." (document 02, Ask 8)
  unfoldable pub terms_formed : Bool
  terms_formed = all_sets (λ s. not (tb.sets s).used || term_formed (tb.sets s).term)

  -- "An own or virgin file with an unmapped entry has an own or virgin file of its number in the parent set."
  abbrev pub above_formed : ℕ → ℕ → Bool
  above_formed f s = not (dependent (tb.files f s)) || live (tb.files f (tb.sets s).parent).state

  -- "In an own file, no page wholly past the size resolves to stored."
  unfoldable pub past_formed : ℕ → ℕ → Bool
  past_formed f s =
      not (is_own (tb.files f s).state)
      || all_pages (λ p. ltb (p * page_bytes) (tb.files f s).size || not (is_stored (resolve (tree_of tb.sets) (tb.files f) s p)))

  unfoldable pub files_formed : Bool
  files_formed =
      all_files (λ f s. size_formed (tb.files f s) && virgin_formed (tb.files f s))
      && all file_count (λ f. root_file_formed (tb.files f 0))
      && all_files above_formed
      && all_files past_formed

  -- "leaves size 0 and all entries unmapped ... Well formed asks the same of marked files" (document 02, Ask 10)
  unfoldable pub marks_formed : Bool
  marks_formed = all_files (λ f s. not (is_marked (tb.files f s).state) || zero_file (tb.files f s))

  -- the rules on B, next start, blocks and bits
  abbrev pub blocks_formed : Bool
  blocks_formed = header_formed && bits_formed

  -- those on sets and files before Ask 10, which let a marked file keep its record
  abbrev pub older_sets_formed : Bool
  older_sets_formed = zeros_formed && tree_formed && terms_formed && files_formed

  -- those on sets and files
  abbrev pub sets_formed : Bool
  sets_formed = older_sets_formed && marks_formed
