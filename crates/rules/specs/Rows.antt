-- Rows M1 to M12 of document 01, "Marked rows", in one table; M11 and M12 as document 02, Ask 2, changes them. "the rows of document 01 relied on the old
-- default and now ask for narrow writes" (Ask 5). Rows of writes by groups, in a second table; of what marking frees (Ask 10), in a third.
use Rattle.std.specs.Prelude.{false, true, ◌++◌, List, ◌∷◌, [], ◌≡◌, ◌+◌, ◌<◌, suc, zero, ℕ, ◌≤◌, length, replicate}
use Rattle.rules.specs.Calls.{Store, blank_memory, formatted, step}
use Rattle.rules.specs.Numbers.{Answer, Call, View, create, delete, grouped_write, make, narrow_write, number_of, read, refusal, remove, tell_free, truncate, write}
use Rattle.rules.specs.State.{file_count, largest_size, live, set_count}
use Rattle.rules.specs.Storage.{Memory, real}

-- a store of so many blocks, formatted; the calls made on it; the answer to the last of them
pub record Row : Type 0 where
  pub blocks : ℕ
  pub calls : List Call
  pub gives : Answer

abbrev pub gives : ℕ → ℕ → ℕ → ℕ → Answer
gives n a b c = record { number = n; first = a; second = b; third = c }

-- the answer to the last call of a list, by the definitions of the calls
unfoldable pub last_answer : Memory → Answer → List Call → Store real → Answer
last_answer fresh a [] st = a
last_answer fresh a (c ∷ cs) st = last_answer fresh (step real fresh c st).answer cs (step real fresh c st).store

abbrev pub answered : Row → Answer
answered r = last_answer (blank_memory r.blocks) (refusal 0) r.calls (formatted real (blank_memory r.blocks))

abbrev write_once : List Call
write_once = create 0 0 ∷ narrow_write 0 0 0 (7 ∷ []) ∷ []

abbrev make_down : ℕ → ℕ → List Call
make_down zero s = []
make_down (suc n) s = make s (suc s) true ∷ make_down n (suc s)

unfoldable pub rows : List Row
rows =
    -- M1: write ends at 32,768, room enough
    record { blocks = 64; calls = create 0 0 ∷ narrow_write 0 0 0 (replicate 32768 7) ∷ []; gives = gives 0 64 0 0 }
    -- M2: ends at 32,769
    ∷ record { blocks = 64; calls = create 0 0 ∷ narrow_write 0 0 1 (replicate 32768 7) ∷ []; gives = refusal 7 }
    -- M3: length 0 at 32,768
    ∷ record { blocks = 1; calls = create 0 0 ∷ narrow_write 0 0 32768 [] ∷ []; gives = gives 0 0 0 0 }
    -- M4: length 0 at 32,769
    ∷ record { blocks = 1; calls = create 0 0 ∷ narrow_write 0 0 32769 [] ∷ []; gives = refusal 7 }
    -- M5: B = 1, new file, write 1 byte at 0
    ∷ record { blocks = 1; calls = write_once; gives = gives 0 1 0 0 }
    -- M6: then set 1 made, same write in set 0
    ∷ record { blocks = 1; calls = write_once ++ (make 0 1 false ∷ narrow_write 0 0 0 (7 ∷ []) ∷ []); gives = gives 0 0 0 1 }
    -- M7: then read in set 1
    ∷ record { blocks = 1; calls = write_once ++ (make 0 1 false ∷ narrow_write 0 0 0 (7 ∷ []) ∷ read 1 0 0 (0 ∷ []) ∷ []); gives = refusal 6 }
    -- M8: B = 1, new file, set 1 made, write 1 byte in set 0
    ∷ record { blocks = 1; calls = create 0 0 ∷ make 0 1 false ∷ narrow_write 0 0 0 (7 ∷ []) ∷ []; gives = gives 0 1 0 0 }
    -- M9: make from level 4 / from level 5
    ∷ record { blocks = 1; calls = make_down 5 0; gives = gives 0 0 0 0 }
    ∷ record { blocks = 1; calls = make_down 6 0; gives = refusal 10 }
    -- M10: remove set 0 with / without a child
    ∷ record { blocks = 1; calls = make 0 1 true ∷ remove 0 ∷ []; gives = refusal 11 }
    ∷ record { blocks = 1; calls = make 0 1 true ∷ remove 1 ∷ remove 0 ∷ []; gives = refusal 12 }
    -- M11: 1,024 bytes stored, virgin child, room, truncate to 512
    ∷ record { blocks = 3; calls = create 0 0 ∷ narrow_write 0 0 0 (replicate 1024 7) ∷ make 0 1 true ∷ truncate 0 0 512 ∷ []; gives = gives 0 0 0 0 }
    -- M12: B = 2 full with one file, set 1 made, delete in set 0; then none free
    ∷ record { blocks = 2; calls = create 0 0 ∷ narrow_write 0 0 0 (replicate 1024 7) ∷ make 0 1 true ∷ delete 0 0 ∷ []; gives = gives 0 0 0 0 }
    ∷ record { blocks = 2; calls = create 0 0 ∷ narrow_write 0 0 0 (replicate 1024 7) ∷ make 0 1 true ∷ delete 0 0 ∷ tell_free ∷ []; gives = gives 0 0 0 0 }
    ∷ []

-- a file of which pages 0, 6, 7, 13, 14, 62 and 63 are stored and the others holes, and a virgin child of its set
unfoldable pub scattered : List Call
scattered =
    create 0 0 ∷ narrow_write 0 0 0 (7 ∷ []) ∷ narrow_write 0 0 3583 (7 ∷ 7 ∷ []) ∷ narrow_write 0 0 7167 (7 ∷ 7 ∷ []) ∷ narrow_write 0 0 32255 (7 ∷ 7 ∷ [])
    ∷ make 0 1 true ∷ []

-- then two bytes, of pages 6 and 7, by groups of g pages
abbrev two_pages : ℕ → List Call
two_pages g = scattered ++ (write g 0 0 3583 (9 ∷ 9 ∷ []) ∷ [])

-- or one byte of page 63
abbrev last_page : ℕ → List Call
last_page g = scattered ++ (write g 0 0 32256 (9 ∷ []) ∷ [])

-- or that with two children
abbrev last_page_of_two : ℕ → List Call
last_page_of_two g = scattered ++ (make 0 2 false ∷ write g 0 0 32256 (9 ∷ []) ∷ [])

-- or one byte of page 0, where the file has only that; the child's file then grows, so that page 7 can be read there
abbrev grown : ℕ → List Call
grown g = write_once ++ (make 0 1 true ∷ write g 0 0 0 (9 ∷ []) ∷ truncate 1 0 4096 ∷ [])

-- or a file of n bytes, all stored, and a virgin child of its set
abbrev whole_pages : ℕ → List Call
whole_pages n = create 0 0 ∷ narrow_write 0 0 0 (replicate n 7) ∷ make 0 1 true ∷ []

-- ROWS OF GROUPS
unfoldable pub group_rows : List Row
group_rows =
    -- pages 6 and 7. Groups of 1: these two are copied; of 7 (0 to 6, 7 to 13): pages 0 and 13 too; of 8 (0 to 7): page 0 too; of 64: all seven
    record { blocks = 16; calls = two_pages 1; gives = gives 0 0 2 0 }
    ∷ record { blocks = 16; calls = two_pages 7; gives = gives 0 0 4 0 }
    ∷ record { blocks = 16; calls = two_pages 8; gives = gives 0 0 3 0 }
    ∷ record { blocks = 16; calls = two_pages 64; gives = gives 0 0 7 0 }
    -- the last group: page 63 alone in groups of 7, 60 to 63 in groups of 12, 56 to 63 in groups of 8, all pages in groups of 64
    ∷ record { blocks = 16; calls = last_page 7; gives = gives 0 0 1 0 }
    ∷ record { blocks = 16; calls = last_page 12; gives = gives 0 0 2 0 }
    ∷ record { blocks = 16; calls = last_page 8; gives = gives 0 0 2 0 }
    ∷ record { blocks = 16; calls = last_page 64; gives = gives 0 0 7 0 }
    -- a group of none counts as one of one page, one of more than 64 as one of 64
    ∷ record { blocks = 16; calls = last_page 0; gives = gives 0 0 1 0 }
    ∷ record { blocks = 16; calls = last_page 100; gives = gives 0 0 7 0 }
    -- room for one copy: the touched page has it; the extra page 62 stays unmapped, and nothing is marked; its own narrow write then marks
    ∷ record { blocks = 8; calls = last_page 8; gives = gives 0 0 1 0 }
    ∷ record { blocks = 8; calls = last_page 8 ++ (tell_free ∷ []); gives = gives 0 0 0 0 }
    ∷ record { blocks = 8; calls = last_page 8 ++ (narrow_write 0 0 31744 (9 ∷ []) ∷ []); gives = gives 0 0 0 1 }
    -- room for both: the narrow write finds page 62 copied
    ∷ record { blocks = 9; calls = last_page 8 ++ (narrow_write 0 0 31744 (9 ∷ []) ∷ []); gives = gives 0 0 0 0 }
    -- no room: the touched page is a needed copy
    ∷ record { blocks = 7; calls = last_page 8; gives = gives 0 0 0 1 }
    -- an extra page that is a hole becomes one in the child, in a full store too: a read there looks at one map, at page 62 at two
    ∷ record { blocks = 8; calls = last_page 8 ++ (read 1 0 28672 (0 ∷ []) ∷ []); gives = gives 0 1 1 0 }
    ∷ record { blocks = 8; calls = last_page 8 ++ (read 1 0 31744 (0 ∷ []) ∷ []); gives = gives 0 1 2 0 }
    -- and past the size: page 7 of a file of one byte, which a narrow write leaves unmapped in the child
    ∷ record { blocks = 2; calls = grown 8 ++ (read 1 0 3584 (0 ∷ []) ∷ []); gives = gives 0 1 1 0 }
    ∷ record { blocks = 2; calls = grown 1 ++ (read 1 0 3584 (0 ∷ []) ∷ []); gives = gives 0 1 2 0 }
    -- two children and one block over: the first child made has a copy of the extra page 62, the second has none, and the narrow write of that page marks it
    ∷ record { blocks = 10; calls = last_page_of_two 8; gives = gives 0 0 3 0 }
    ∷ record { blocks = 10; calls = last_page_of_two 8 ++ (narrow_write 0 0 31744 (9 ∷ []) ∷ read 1 0 31744 (0 ∷ []) ∷ []); gives = gives 0 1 1 0 }
    ∷ record { blocks = 10; calls = last_page_of_two 8 ++ (narrow_write 0 0 31744 (9 ∷ []) ∷ read 2 0 31744 (0 ∷ []) ∷ []); gives = refusal 6 }
    -- the extra pages page by page, ascending, the children in order of making: two copies of page 63 and two of page 0 take the four free blocks. Then a
    -- write of page 0 finds it copied for both; one of page 6 marks the first, whose two blocks are free then, and the second has its copy
    ∷ record { blocks = 11; calls = last_page_of_two 64; gives = gives 0 0 4 0 }
    ∷ record { blocks = 11; calls = last_page_of_two 64 ++ (narrow_write 0 0 0 (9 ∷ []) ∷ []); gives = gives 0 0 0 0 }
    ∷ record { blocks = 11; calls = last_page_of_two 64 ++ (narrow_write 0 0 3072 (9 ∷ []) ∷ []); gives = gives 0 0 1 1 }
    -- extra pages on both sides of the touched ones, with one block for them: page 0 is copied, page 13 not
    ∷ record { blocks = 10; calls = two_pages 7 ++ (narrow_write 0 0 0 (9 ∷ []) ∷ []); gives = gives 0 0 0 0 }
    ∷ record { blocks = 10; calls = two_pages 7 ++ (narrow_write 0 0 6656 (9 ∷ []) ∷ []); gives = gives 0 0 0 1 }
    -- the touched page comes before the extra page, though its number is higher: one block is free, and page 1 is written
    ∷ record { blocks = 3; calls = whole_pages 1024 ++ (grouped_write 0 0 512 (9 ∷ []) ∷ []); gives = gives 0 0 1 0 }
    -- a truncate does not go by groups: page 2, in which it ends, is copied alone
    ∷ record { blocks = 8; calls = whole_pages 1536 ++ (truncate 0 0 1100 ∷ []); gives = gives 0 0 1 0 }
    -- an extra page that the child has is left: page 0, which was written there
    ∷ record { blocks = 16; calls = scattered ++ (narrow_write 1 0 0 (9 ∷ []) ∷ write 8 0 0 3583 (9 ∷ 9 ∷ []) ∷ []); gives = gives 0 0 2 0 }
    -- the writer takes no block for an extra page: set 1 reads page 0 through set 0, and still does so; its child has a copy
    ∷ record { blocks = 16; calls = scattered ++ (make 1 2 false ∷ write 8 1 0 3583 (9 ∷ 9 ∷ []) ∷ []); gives = gives 0 2 3 0 }
    ∷ record { blocks = 16; calls = scattered ++ (make 1 2 false ∷ write 8 1 0 3583 (9 ∷ 9 ∷ []) ∷ read 1 0 0 (0 ∷ []) ∷ []); gives = gives 0 1 2 0 }
    ∷ record { blocks = 16; calls = scattered ++ (make 1 2 false ∷ write 8 1 0 3583 (9 ∷ 9 ∷ []) ∷ read 2 0 0 (0 ∷ []) ∷ []); gives = gives 0 1 1 0 }
    -- own need does not see extra pages: one block is free, and all eight pages of the group are holes
    ∷ record { blocks = 1; calls = create 0 0 ∷ make 0 1 true ∷ grouped_write 0 0 0 (7 ∷ []) ∷ []; gives = gives 0 1 0 0 }
    ∷ []

-- a file of n bytes, all stored, and so many virgin children of its set
unfoldable pub with_children : ℕ → ℕ → List Call
with_children n zero = create 0 0 ∷ narrow_write 0 0 0 (replicate n 7) ∷ []
with_children n (suc c) = with_children n c ++ (make 0 (suc c) true ∷ [])

-- that file written whole
abbrev rewritten : ℕ → ℕ → List Call
rewritten n c = with_children n c ++ (narrow_write 0 0 0 (replicate n 9) ∷ [])

-- set 1 has page 0 of the file stored, and reads page 1 through set 0; sets 2 and 3 are made from it, and set 3 has page 0 stored too: three blocks
abbrev through_two : List Call
through_two =
    create 0 0 ∷ narrow_write 0 0 512 (7 ∷ []) ∷ make 0 1 true ∷ narrow_write 1 0 0 (8 ∷ []) ∷ make 1 2 true ∷ make 1 3 true ∷ narrow_write 3 0 0 (9 ∷ []) ∷ []

-- the file of one page has a copy in set 1, and a copy of that in set 2, which has page 1 stored; then page 0 is written in set 0
abbrev dependent_marked : List Call
dependent_marked = write_once ++ (make 0 1 true ∷ make 1 2 true ∷ narrow_write 2 0 512 (8 ∷ []) ∷ narrow_write 0 0 0 (9 ∷ []) ∷ [])

-- ROWS OF MARKING (document 02, Ask 10)
unfoldable pub marking_rows : List Row
marking_rows =
    -- one child, two pages, one block free: page 0 is copied, page 1 finds none, and the child is marked; its copy is free then, still counts, and page 1 is not tried again
    record { blocks = 3; calls = rewritten 1024 1; gives = gives 0 0 1 1 }
    ∷ record { blocks = 3; calls = rewritten 1024 1 ++ (tell_free ∷ []); gives = gives 0 1 0 0 }
    -- its record is empty: another file takes that block, and deleting the marked file does not free it
    ∷ record { blocks = 3; calls = rewritten 1024 1 ++ (create 0 1 ∷ narrow_write 0 1 0 (7 ∷ []) ∷ delete 1 0 ∷ tell_free ∷ []); gives = gives 0 0 0 0 }
    -- two children, two blocks free: at page 1 the first is marked, and the second takes the block that this frees
    ∷ record { blocks = 4; calls = rewritten 1024 2; gives = gives 0 0 3 1 }
    ∷ record { blocks = 4; calls = rewritten 1024 2 ++ (read 1 0 512 (0 ∷ []) ∷ []); gives = refusal 6 }
    ∷ record { blocks = 4; calls = rewritten 1024 2 ++ (read 2 0 512 (0 ∷ []) ∷ []); gives = gives 0 1 1 0 }
    -- four children, four pages, four blocks free: four times a block comes free, one block twice, and eight copies are made
    ∷ record { blocks = 8; calls = rewritten 2048 4; gives = gives 0 0 8 3 }
    -- two children, pages 0 and 1 of three written by groups of three: a block that marking freed serves the extra page 2
    ∷ record { blocks = 6; calls = with_children 1536 2 ++ (write 3 0 0 0 (replicate 1024 9) ∷ []); gives = gives 0 0 4 1 }
    -- a delete: set 2 takes page 0 over, is marked at page 1, and set 3 takes that block for page 1; the delete does not free it
    ∷ record { blocks = 3; calls = through_two ++ (delete 1 0 ∷ []); gives = gives 0 0 1 1 }
    ∷ record { blocks = 3; calls = through_two ++ (delete 1 0 ∷ tell_free ∷ []); gives = gives 0 0 0 0 }
    ∷ record { blocks = 3; calls = through_two ++ (delete 1 0 ∷ read 3 0 512 (0 ∷ []) ∷ []); gives = gives 0 1 1 0 }
    -- a truncate: set 1 is marked at the part page 0, and holds nothing; set 2, which has page 0, takes page 1 over
    ∷ record { blocks = 3; calls = with_children 1024 2 ++ (narrow_write 2 0 0 (8 ∷ []) ∷ truncate 0 0 100 ∷ []); gives = gives 0 0 0 1 }
    -- the blocks of dependents too
    ∷ record { blocks = 2; calls = dependent_marked; gives = gives 0 0 0 2 }
    ∷ record { blocks = 2; calls = dependent_marked ++ (tell_free ∷ []); gives = gives 0 1 0 0 }
    ∷ []

-- each row's answer is the one given
abbrev pub AllRows : List Row → Type 0
AllRows [] = Unit {0}
AllRows (r ∷ rs) = (answered r ≡ r.gives) × AllRows rs

-- THE ROWS: M1 to M12; those of groups and of marking; and row M1 in general: whatever the table of numbers looks at, a write that ends at 32,768, with room
-- enough, gets number 0
pub record RowsClaim : Type 0 where
  pub table : AllRows rows
  pub groups : AllRows group_rows
  pub marking : AllRows marking_rows
  pub m1 : (v : View) (g s f off : ℕ) (bs : List ℕ) → v.formed ≡ true → s < set_count → v.tree.used s ≡ true → f < file_count → v.tree.writeable s ≡ true
      → live (v.state f s) ≡ true → off + length bs ≡ largest_size → v.write_need s f off (length bs) ≤ v.free → number_of v (write g s f off bs) ≡ 0
