-- HOW MUCH ROOM A WRITE CAN TAKE. Document 02, Ask 7: "Planners size a store by it. An accepted narrow write of k touched pages in a set with c children takes at most
-- k + k × c blocks, and never more than were free. For a grouped write the copied pages are at most those of the touched groups, times c. With k + k × c blocks
-- free, neither kind marks a file or is refused with 8. State it of the counts and of the bitmap before and after." And Ask 10: "The room bound of Ask 7 then counts the
-- blocks that marking freed among the free ones, a block as often as it was freed."
--
-- It is claimed of the definition `call_on` that the contracts of the two exported writes cite, for all tables and pages. Well-formed ones need not come from a format.
-- On others every write is refused with 1, gives counts of 0 and changes nothing. An image is tables and pages; `gave` is what a call answers, `after` the image that it
-- leaves.
use Rattle.std.specs.Prelude.{◌&&◌, Bool, false, not, true, List, ◌∷◌, [], ◌≡◌, ◌*◌, ◌+◌, ◌-◌, ◌/◌, ◌<◌, suc, zero, ℕ, ◌≤◌, length, replicate}
use Rattle.base.specs.Count.{count}
use Rattle.history.specs.Image.{Image, after, gave, store_in}
use Rattle.rules.specs.Agreement.{tally_in}
use Rattle.rules.specs.Freed.{freed_given}
use Rattle.rules.specs.Numbers.{Answer, Call, create, format, grouped_write, make, narrow_write, refusal, write}
use Rattle.rules.specs.Rows.{with_children, gives}
use Rattle.rules.specs.Rules.{each, group_end, group_first}
use Rattle.rules.specs.State.{children_of, is_marked, is_virgin, largest_blocks, page_bytes, stored}
use Rattle.rules.specs.Storage.{free_blocks}
use Rattle.tables.specs.Layout.{table_bytes}

-- ---- what a planner counts

-- "k touched pages", of a write of n bytes at offset off: from the page of its first byte to that of its last one; none if it has no byte
unfoldable pub touched_pages : ℕ → ℕ → ℕ
touched_pages off zero = 0
touched_pages off (suc n) = (off + n) / page_bytes + 1 - off / page_bytes

-- the pages "of the touched groups", in groups of g pages (0 counts as 1): from the first page of the first touched group to the last page of the last one, which
-- is page 63 at most
unfoldable pub group_pages : ℕ → ℕ → ℕ → ℕ
group_pages g off zero = 0
group_pages g off (suc n) = group_end g ((off + n) / page_bytes) - group_first g (off / page_bytes)

-- "a set with c children": all of them, whatever they have of the file
abbrev pub child_count : ℕ → Image → ℕ
child_count s m = length (children_of (store_in m).sets s)

-- the free blocks, as `sweep_free` tells them of well-formed tables: the bits that are 0, of the blocks that there are
abbrev pub free_in : Image → ℕ
free_in m = free_blocks (store_in m).memory

-- "bit b is 1 when block b is used"
abbrev pub used_in : Image → ℕ → Bool
used_in m b = (store_in m).memory.bits b

-- how many bits are 1 in m' and were 0 in m, of all 4,096
abbrev pub new_bits : Image → Image → ℕ
new_bits m m' = count largest_blocks (λ b. used_in m' b && not (used_in m b))

-- how many bits are 0 in m' and were 1 in m
abbrev pub lost_bits : Image → Image → ℕ
lost_bits m m' = new_bits m' m

-- "the blocks that marking freed", "a block as often as it was freed", by a write of bs: counted turn after turn on the tally that the bytes show (`freed_by_write`)
abbrev pub freed_by : ℕ → ℕ → ℕ → ℕ → List ℕ → Image → ℕ
freed_by g s f off bs m = freed_given (gave (write g s f off bs) m).answer.number (tally_in (store_in m)) s f off (length bs)

-- block b is given up: file f of a set held it at a page in m, was not marked then, and is in m'
pub record GivenUp (f : ℕ) (m m' : Image) (b : ℕ) : Type 0 where
  pub set : ℕ
  pub page : ℕ
  pub held : ((store_in m).files f set).map page ≡ stored b
  pub was_unmarked : is_marked ((store_in m).files f set).state ≡ false
  pub is_marked_law : is_marked ((store_in m').files f set).state ≡ true

-- the blocks that a write takes, by its counts: own blocks and copies
abbrev pub blocks_taken : Answer → ℕ
blocks_taken a = a.first + a.second

-- ---- the bounds

-- A WRITE OF FILE f THAT GAVE a AND LED FROM m TO m': k pages are touched, the touched groups have p pages, the set has c children, marking freed so many blocks. A refused one
-- gives counts of 0, and frees none.
pub record Room (k p c freed f : ℕ) (a : Answer) (m m' : Image) : Type 0 where
  -- of the counts: at most one own block for each touched page; "the copied pages are at most those of the touched groups, times c"; "never more than were free", with "the
  -- blocks that marking freed among the free ones"
  pub own : a.first ≤ k
  pub copies : a.second ≤ p * c
  pub within_free : blocks_taken a ≤ free_in m + freed
  -- "and of the bitmap before and after": the free blocks after, with the blocks taken, are the free blocks before and those freed; no more bits are newly 1 than blocks were
  -- taken; and what is newly 1, with the blocks freed, is what was taken and what was 1 and is 0 now
  pub free_after : free_in m' + blocks_taken a ≡ free_in m + freed
  pub new_bits_law : new_bits m m' ≤ blocks_taken a
  pub balance : new_bits m m' + freed ≡ blocks_taken a + lost_bits m m'
  -- a bit that was 1 is 0 only where a file that the write marked held the block
  pub falls : (b : ℕ) → used_in m b ≡ true → used_in m' b ≡ false → GivenUp f m m' b
  -- where no file is counted as newly marked none is freed: a used bit stays used, and the bits newly 1 are as many as the blocks taken
  pub none_freed : a.third ≡ 0 → freed ≡ 0
  pub stays_used : a.third ≡ 0 → (b : ℕ) → used_in m b ≡ true → used_in m' b ≡ true
  pub as_taken : a.third ≡ 0 → new_bits m m' ≡ blocks_taken a
  -- "With k + k × c blocks free, neither kind marks a file or is refused with 8": k counts the touched pages alone, in a grouped write too, as a copy of another page
  -- of a group never marks a file. No file newly marked is counted, and none is marked that was not.
  pub not_refused : k + k * c ≤ free_in m → a.number ≡ 8 → ⊥
  pub none_counted : k + k * c ≤ free_in m → a.third ≡ 0
  pub none_marked : k + k * c ≤ free_in m → (j s : ℕ) → is_marked ((store_in m).files j s).state ≡ false → is_marked ((store_in m').files j s).state ≡ false

-- the same of a write of bs by groups of g pages
abbrev pub RoomOf : ℕ → ℕ → ℕ → ℕ → List ℕ → Image → Type 0
RoomOf g s f off bs m =
    let w : Call = write g s f off bs in
    Room (touched_pages off (length bs)) (group_pages g off (length bs)) (child_count s m) (freed_by g s f off bs m) f (gave w m).answer m (after w m)

-- "takes at most" n blocks, of the counts and of the bitmap
pub record TakesAtMost (n : ℕ) (w : Call) (m : Image) : Type 0 where
  pub counts : blocks_taken (gave w m).answer ≤ n
  pub bits : new_bits m (after w m) ≤ n

-- ---- each bound is met, by examples that are computed

-- THE EXAMPLES: file 0 of set 0 has 16 pages stored, and so many blocks are free. Set 1 is made from set 0, sets 2 and 3 from set 1, and file 0 is virgin in these three.
abbrev pub example_calls : List Call
example_calls = create 0 0 ∷ narrow_write 0 0 0 (replicate 8192 7) ∷ make 0 1 true ∷ make 1 2 true ∷ make 1 3 true ∷ []

abbrev pub example : ℕ → Image
example free = each after (format ∷ example_calls) (record { tables = replicate table_bytes 0; pages = replicate ((16 + free) * page_bytes) 0 })

-- pages 7 and 8 of file 0 are written in set s, by groups of g pages; page 7 begins at byte 3,584
abbrev pub two_pages : ℕ → ℕ → Call
two_pages g s = write g s 0 3584 (replicate 1024 9)

abbrev pub answer_for : ℕ → ℕ → Image → Answer
answer_for g s m = (gave (two_pages g s) m).answer

-- k + k × c of that write
abbrev pub enough_for : ℕ → Image → ℕ
enough_for s m = touched_pages 3584 1024 + touched_pages 3584 1024 * child_count s m

-- THE CROWDED EXAMPLE: file 0 of set 0 has 4 pages stored, sets 1 to 4 are made from it, 4 of 8 blocks are free; the 4 pages are written
abbrev pub crowded : Image
crowded = each after (format ∷ with_children 2048 4) (record { tables = replicate table_bytes 0; pages = replicate (8 * page_bytes) 0 })

abbrev pub four_pages : List ℕ
four_pages = replicate 2048 9

pub record Tight : Type 0 where
  -- six blocks are free, k + k × c, where the two children of set 1 are virgin. A narrow write in set 1 takes an own block for each touched page, k + k × c blocks in
  -- all, every free one. One by groups of eight does the same: no block is left for the other pages of its groups
  pub virgins : (is_virgin ((store_in (example 6)).files 0 2).state && is_virgin ((store_in (example 6)).files 0 3).state) ≡ true
  pub own : (answer_for 1 1 (example 6)).first ≡ touched_pages 3584 1024
  pub narrow : blocks_taken (answer_for 1 1 (example 6)) ≡ enough_for 1 (example 6)
  pub narrow_free : blocks_taken (answer_for 1 1 (example 6)) ≡ free_in (example 6)
  pub narrow_enough : answer_for 1 1 (example 6) ≡ gives 0 2 4 0
  pub eights_enough : answer_for 8 1 (example 6) ≡ gives 0 2 4 0
  -- 34 are free: a write by groups of eight copies every page of its two groups, 14 more than it touches, for both children. So it takes every free block, and more than
  -- k + k × c
  pub groups : group_pages 8 3584 1024 ≡ touched_pages 3584 1024 + 14
  pub copies : (answer_for 8 1 (example 34)).second ≡ group_pages 8 3584 1024 * child_count 1 (example 34)
  pub eights : blocks_taken (answer_for 8 1 (example 34)) ≡ touched_pages 3584 1024 + (touched_pages 3584 1024 + 14) * child_count 1 (example 34)
  pub eights_free : blocks_taken (answer_for 8 1 (example 34)) ≡ free_in (example 34)
  pub eights_more : enough_for 1 (example 34) < blocks_taken (answer_for 8 1 (example 34))
  -- five are free, one less than k + k × c: a write of either kind counts a file newly marked, and marks file 0 of set 3; the block that this frees serves the write by
  -- groups for one more copy
  pub one_less : free_in (example 5) + 1 ≡ enough_for 1 (example 5)
  pub narrow_less : answer_for 1 1 (example 5) ≡ gives 0 2 3 1
  pub eights_less : answer_for 8 1 (example 5) ≡ gives 0 2 4 1
  pub unmarked : is_marked ((store_in (example 5)).files 0 3).state ≡ false
  pub narrow_marked : is_marked ((store_in (after (two_pages 1 1) (example 5))).files 0 3).state ≡ true
  pub eights_marked : is_marked ((store_in (after (two_pages 8 1) (example 5))).files 0 3).state ≡ true
  -- one is free, and the write is in set 2. Number 8 is about own blocks alone, so this set has no children; again it is one less than k + k × c, and either kind is
  -- refused with 8
  pub childless : free_in (example 1) + 1 ≡ enough_for 2 (example 1)
  pub narrow_full : answer_for 1 2 (example 1) ≡ refusal 8
  pub eights_full : answer_for 8 2 (example 1) ≡ refusal 8
  -- the crowded example: four blocks are free, and four times marking frees a block, one of three blocks twice. Eight copies are made: all that were free or came free are
  -- taken; with each of the three counted once they would be seven
  pub crowded_free : free_in crowded ≡ 4
  pub crowded_freed : freed_by 1 0 0 0 four_pages crowded ≡ 4
  pub crowded_gives : (gave (narrow_write 0 0 0 four_pages) crowded).answer ≡ gives 0 0 8 3

-- ---- THE CLAIM

pub record RoomClaim : Type 0 where
  -- both kinds: `sweep_write` is by groups of 8 pages, `sweep_write_narrow` of 1; and any group size (more than 64 comes to the same as 64)
  pub writes : (g s f off : ℕ) (bs : List ℕ) (m : Image) → RoomOf g s f off bs m
  -- "An accepted narrow write of k touched pages in a set with c children takes at most k + k × c blocks"
  pub narrow : (s f off : ℕ) (bs : List ℕ) (m : Image) →
      let k : ℕ = touched_pages off (length bs) in TakesAtMost (k + k * child_count s m) (narrow_write s f off bs) m
  -- the pages of the touched groups: of a narrow write the touched ones; groups of eight add at most seven pages before these and seven behind them
  pub narrow_pages : (off n : ℕ) → group_pages 1 off n ≤ touched_pages off n
  pub eights_pages : (off n : ℕ) → group_pages 8 off n ≤ touched_pages off n + 14
  pub eights : (s f off : ℕ) (bs : List ℕ) (m : Image) →
      let k : ℕ = touched_pages off (length bs) in TakesAtMost (k + (k + 14) * child_count s m) (grouped_write s f off bs) m
  pub tight : Tight
