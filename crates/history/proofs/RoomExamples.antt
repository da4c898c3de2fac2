-- The examples that meet the bounds on the room of a write, by computing the definitions of the calls. Assumes nothing.
use mathlib.Core.Bool.{◌&&◌, Bool, false, true}
use mathlib.Core.List.{List, ◌∷◌, []}
use mathlib.Core.Path.{ap, ap₂, refl, subst₂, sym, ◌∙◌, ◌≡◌}
use Prim.Native.Nat.{◌*◌, ◌+◌, ◌/◌, ◌<◌, ℕ, ◌≤◌}
use native.Mathlib.Omega.{arith}
use lib.ListN.{length, length-replicate, replicate}
use Rattle.history.proofs.CallImage.{after_image, gave_image, lengths_of, store_after}
use Rattle.history.proofs.Demand3.{format_image}
use Rattle.history.proofs.Image.{image_store, image_of}
use Rattle.history.specs.Image.{Image, after, gave, store_in}
use Rattle.history.specs.Room.{Tight, answer_for, blocks_taken, child_count, crowded, enough_for, example, example_calls, four_pages, free_in, freed_by, group_pages, touched_pages, two_pages}
use Rattle.rules.proofs.Whole.Order.{InOrder, order_format, order_step}
use Rattle.rules.proofs.Whole.Rows.{computed}
use Rattle.base.specs.Count.{sum}
use Rattle.rules.specs.Agreement.{tally_in}
use Rattle.rules.specs.Calls.{Result, Store, blank_memory, formatted, step}
use Rattle.rules.specs.Freed.{freed_at, freed_by_children, freed_by_pages, freed_by_write, freed_given}
use Rattle.rules.specs.Numbers.{Answer, Call, format, narrow_write, refusal}
use Rattle.rules.specs.Rows.{with_children, gives}
use Rattle.rules.specs.Rules.{each}
use Rattle.rules.specs.State.{children_of, is_marked, is_virgin}
use Rattle.rules.specs.Storage.{free_blocks, real}
use Rattle.rules.specs.Tally.{any_of, any_unmapped, child_page, child_turn, depends_above, each_child, each_page, holds_byte, kind_at, kind_in, mark_frees, needed_copy, page_turns, reached_down, size_in, stored_pages, tally_kind, tally_mark, tally_settle, tally_size, tally_write_need}
use Rattle.tables.specs.Calls.{format_lengths}
use Rattle.tables.specs.Layout.{table_bytes}

-- ON BYTES AS ON THE STORE

-- the store after a list of calls
unfoldable steps_on : ℕ → List Call → Store real → Store real
steps_on B [] r = r
steps_on B (c ∷ cs) r = steps_on B cs (step real (blank_memory B) c r).store

module _ (B : ℕ) (least : 1 ≤ B) (most : B ≤ 4096) where
  -- the image and the order after it
  steps_image : (cs : List Call) (r : Store real) → InOrder B r → (each after cs (image_of r) ≡ image_of (steps_on B cs r)) × InOrder B (steps_on B cs r)
  unfolding steps_on each
  steps_image [] r o = (refl, o)
  steps_image (c ∷ cs) r o =
      let q = steps_image cs (step real (blank_memory B) c r).store (order_step B least r o c) in
      (ap (each after cs) (after_image B least most r o c) ∙ q.0, q.1)

  abbrev blank : Image
  blank = record { tables = replicate table_bytes 0; pages = replicate (B * 512) 0 }

  blank_length : length blank.pages ≡ B * 512
  blank_length = length-replicate (B * 512) 0

  format_blank : after format blank ≡ image_of (formatted real (blank_memory B))
  format_blank =
      let lengths : format_lengths (length blank.tables) (length blank.pages) ≡ true = ap₂ format_lengths (length-replicate {A = ℕ} table_bytes 0) blank_length ∙ lengths_of B least most in
      let n : length blank.pages / 512 ≡ B = ap (λ x. x / 512) blank_length ∙ (let e : B * 512 / 512 ≡ B = omega arith in e) in
      format_image blank lengths ∙ ap (λ k. image_of (formatted real (blank_memory k))) n

  module _ (cs : List Call) where
    abbrev image : Image
    image = each after (format ∷ cs) blank

    abbrev store : Store real
    store = steps_on B cs (formatted real (blank_memory B))

    order : InOrder B store
    order = (steps_image cs _ (order_format B least)).1

    image_is : image ≡ image_of store
    unfolding each
    image_is = ap (each after cs) format_blank ∙ (steps_image cs _ (order_format B least)).0

    -- what a call on it gives, and the stores before and after it
    gave_is : (c : Call) → (gave c image).answer ≡ (step real (blank_memory B) c store).answer
    gave_is c = ap (λ m. (gave c m).answer) image_is ∙ ap (λ x. x.answer) (gave_image B least most store order c)

    store_is : store_in image ≡ store
    store_is = ap store_in image_is ∙ image_store B most store order

    after_is : (c : Call) → store_in (after c image) ≡ (step real (blank_memory B) c store).store
    after_is c = ap (λ m. store_in (after c m)) image_is ∙ store_after B least most store order c

-- THE EXAMPLES, with n blocks free: the store, what the write of two pages gives on it, and k + k × c of that write
abbrev store_with : ℕ → Store real
store_with n = steps_on (16 + n) example_calls (formatted real (blank_memory (16 + n)))

abbrev step_with : ℕ → ℕ → ℕ → Result real
step_with g s n = step real (blank_memory (16 + n)) (two_pages g s) (store_with n)

abbrev enough_with : ℕ → ℕ → ℕ
enough_with s n = touched_pages 3584 1024 + touched_pages 3584 1024 * length (children_of (store_with n).sets s)

module _ (n : ℕ) (low : n ≤ 4080) where
  answer_is : (g s : ℕ) → answer_for g s (example n) ≡ (step_with g s n).answer
  answer_is g s = gave_is (16 + n) (omega arith) (omega arith) example_calls (two_pages g s)

  here : store_in (example n) ≡ store_with n
  here = store_is (16 + n) (omega arith) (omega arith) example_calls

  there : (g s : ℕ) → store_in (after (two_pages g s) (example n)) ≡ (step_with g s n).store
  there g s = after_is (16 + n) (omega arith) (omega arith) example_calls (two_pages g s)

  free_is : free_in (example n) ≡ free_blocks (store_with n).memory
  free_is = ap (λ (x : Store real). free_blocks x.memory) here

  children_are : (s : ℕ) → child_count s (example n) ≡ length (children_of (store_with n).sets s)
  children_are s = ap (λ (x : Store real). length (children_of x.sets s)) here

  enough_is : (s : ℕ) → enough_for s (example n) ≡ enough_with s n
  enough_is s = ap (λ c. touched_pages 3584 1024 + touched_pages 3584 1024 * c) (children_are s)

-- BY COMPUTING
pages_two : (touched_pages 3584 1024 ≡ 2) × (group_pages 8 3584 1024 ≡ 16)
unfolding touched_pages group_pages
pages_two = (refl, refl)

with_six : ((step_with 1 1 6).answer ≡ gives 0 2 4 0) × ((step_with 8 1 6).answer ≡ gives 0 2 4 0) × (free_blocks (store_with 6).memory ≡ 6) × (enough_with 1 6 ≡ 6)
    × ((is_virgin ((store_with 6).files 0 2).state && is_virgin ((store_with 6).files 0 3).state) ≡ true)
unfolding computed steps_on touched_pages
with_six = (refl, refl, refl, refl, refl)

with_34 : ((step_with 8 1 34).answer ≡ gives 0 2 32 0) × (free_blocks (store_with 34).memory ≡ 34) × (length (children_of (store_with 34).sets 1) ≡ 2)
unfolding computed steps_on
with_34 = (refl, refl, refl)

-- is file 0 of set 3 marked
abbrev third_marked : Store real → Bool
third_marked x = is_marked (x.files 0 3).state

with_five : ((step_with 1 1 5).answer ≡ gives 0 2 3 1) × ((step_with 8 1 5).answer ≡ gives 0 2 4 1) × (free_blocks (store_with 5).memory ≡ 5) × (enough_with 1 5 ≡ 6)
    × (third_marked (store_with 5) ≡ false) × (third_marked (step_with 1 1 5).store ≡ true) × (third_marked (step_with 8 1 5).store ≡ true)
unfolding computed steps_on touched_pages
with_five = (refl, refl, refl, refl, refl, refl, refl)

with_one : ((step_with 1 2 1).answer ≡ refusal 8) × ((step_with 8 2 1).answer ≡ refusal 8) × (free_blocks (store_with 1).memory ≡ 1) × (enough_with 2 1 ≡ 2)
unfolding computed steps_on touched_pages
with_one = (refl, refl, refl, refl)

-- the crowded example
abbrev crowded_store : Store real
crowded_store = steps_on 8 (with_children 2048 4) (formatted real (blank_memory 8))

-- the definitions of the tally that are computed
unfoldable tallied : Unit {0}
unfolding freed_by_write freed_by_pages freed_by_children freed_at tally_write_need holds_byte each_child each_page tally_settle tally_size size_in page_turns child_turn child_page needed_copy kind_at kind_in tally_kind tally_mark mark_frees stored_pages reached_down any_of depends_above any_unmapped sum
tallied = tt

with_crowd : ((step real (blank_memory 8) (narrow_write 0 0 0 four_pages) crowded_store).answer ≡ gives 0 0 8 3) × (free_blocks crowded_store.memory ≡ 4)
    × (freed_by_write (tally_in crowded_store) 0 0 0 2048 ≡ 4)
unfolding computed steps_on tallied
with_crowd = (refl, refl, refl)

crowd_gives : (gave (narrow_write 0 0 0 four_pages) crowded).answer ≡ gives 0 0 8 3
crowd_gives = gave_is 8 (omega arith) (omega arith) (with_children 2048 4) (narrow_write 0 0 0 four_pages) ∙ with_crowd.0

crowd_store : store_in crowded ≡ crowded_store
crowd_store = store_is 8 (omega arith) (omega arith) (with_children 2048 4)

crowd_freed : freed_by 1 0 0 0 four_pages crowded ≡ 4
crowd_freed =
    ap (λ (a : Answer). freed_given a.number (tally_in (store_in crowded)) 0 0 0 (length four_pages)) crowd_gives
    ∙ ap₂ (λ (r : Store real) n. freed_by_write (tally_in r) 0 0 0 n) crowd_store (length-replicate {A = ℕ} 2048 9) ∙ with_crowd.2

-- THEOREM
pub tight : Tight
tight =
    let a₆ : answer_for 1 1 (example 6) ≡ gives 0 2 4 0 = answer_is 6 (omega arith) 1 1 ∙ with_six.0 in
    let a₃₄ : answer_for 8 1 (example 34) ≡ gives 0 2 32 0 = answer_is 34 (omega arith) 8 1 ∙ with_34.0 in
    let f₃₄ : free_in (example 34) ≡ 34 = free_is 34 (omega arith) ∙ with_34.1 in
    let c₃₄ : child_count 1 (example 34) ≡ 2 = children_are 34 (omega arith) 1 ∙ with_34.2 in
    let k = pages_two.0 in
    let p = pages_two.1 in
    record {
      virgins = ap (λ (x : Store real). is_virgin (x.files 0 2).state && is_virgin (x.files 0 3).state) (here 6 (omega arith)) ∙ with_six.4;
      own = ap (λ (a : Answer). a.first) a₆ ∙ sym k;
      narrow = ap blocks_taken a₆ ∙ sym (enough_is 6 (omega arith) 1 ∙ with_six.3);
      narrow_free = ap blocks_taken a₆ ∙ sym (free_is 6 (omega arith) ∙ with_six.2);
      narrow_enough = a₆;
      eights_enough = answer_is 6 (omega arith) 8 1 ∙ with_six.1;
      groups = p ∙ sym (ap (λ n. n + 14) k);
      copies = ap (λ (a : Answer). a.second) a₃₄ ∙ sym (ap₂ (λ n c. n * c) p c₃₄);
      eights = ap blocks_taken a₃₄ ∙ sym (ap₂ (λ n c. n + (n + 14) * c) k c₃₄);
      eights_free = ap blocks_taken a₃₄ ∙ sym f₃₄;
      eights_more = let l : 6 < 34 = omega arith in subst₂ (λ x y. x < y) (sym (ap₂ (λ n c. n + n * c) k c₃₄)) (sym (ap blocks_taken a₃₄)) l;
      one_less = ap (λ n. n + 1) (free_is 5 (omega arith) ∙ with_five.2) ∙ sym (enough_is 5 (omega arith) 1 ∙ with_five.3);
      narrow_less = answer_is 5 (omega arith) 1 1 ∙ with_five.0;
      eights_less = answer_is 5 (omega arith) 8 1 ∙ with_five.1;
      unmarked = ap third_marked (here 5 (omega arith)) ∙ with_five.4;
      narrow_marked = ap third_marked (there 5 (omega arith) 1 1) ∙ with_five.5;
      eights_marked = ap third_marked (there 5 (omega arith) 8 1) ∙ with_five.6;
      childless = ap (λ n. n + 1) (free_is 1 (omega arith) ∙ with_one.2) ∙ sym (enough_is 1 (omega arith) 2 ∙ with_one.3);
      narrow_full = answer_is 1 (omega arith) 1 2 ∙ with_one.0;
      eights_full = answer_is 1 (omega arith) 8 2 ∙ with_one.1;
      crowded_free = ap (λ (x : Store real). free_blocks x.memory) crowd_store ∙ with_crowd.1;
      crowded_freed = crowd_freed;
      crowded_gives = crowd_gives;
    }
