-- How much room a write can take, on bytes. Assumes nothing.
use mathlib.Core.Bool.{◌&&◌, false, not, true, true≢false}
use mathlib.Core.List.{List, []}
use mathlib.Core.Path.{ap, refl, subst, subst₂, sym, ◌∙◌, ◌≡◌}
use Prim.Native.Nat.{◌*◌, ◌+◌, ◌/◌, suc, zero, ℕ, ◌≤◌}
use native.Mathlib.Nat.{mul-le-mul_right}
use native.Mathlib.Omega.{arith}
use lib.Dec.{ltb}
use lib.ListN.{length, length-append}
use borrow.Author.Tests.{ltb-false, ltb-true}
use Rattle.base.specs.Count.{count_here}
use Rattle.base.specs.Logic.{test?}
use Rattle.history.proofs.Formed.{formed, order_of}
use Rattle.history.proofs.Image.{image_store}
use Rattle.history.proofs.RoomExamples.{tight}
use Rattle.history.specs.Image.{Image, after, gave, store_in}
use Rattle.history.specs.Room.{RoomClaim, RoomOf, TakesAtMost, child_count, freed_by, group_pages, lost_bits, touched_pages, used_in}
use Rattle.rules.proofs.Room.RoomStore.{StoreTakes, store_nothing, store_room}
use Rattle.rules.proofs.Steps.Groups.{group_high, group_low}
use Rattle.rules.proofs.Tally.TallyLoops.{from_length}
use Rattle.rules.proofs.Whole.Order.{InOrder, order_step}
use Rattle.rules.specs.Agreement.{tally_in}
use Rattle.rules.specs.Calls.{Result, Store, blank_memory, result_of, step, view_of}
use Rattle.rules.specs.Freed.{freed_given}
use Rattle.rules.specs.Numbers.{Answer, Call, conditions, lowest, number_of, refusal, write}
use Rattle.rules.specs.Rules.{extra_pages, touched}
use Rattle.rules.specs.State.{largest_size, page_bytes}
use Rattle.rules.specs.Storage.{real}
use Rattle.tables.proofs.ReadParts.{bit_default}
use Rattle.tables.specs.Calls.{accepted_on, call_on, fresh_of, looked_at, outcome_of, store_of, view_on}
use Rattle.tables.specs.Packed.{unpack, well_formed}

-- THE PAGES, counted by planners and in the rules
touched_count : (off n : ℕ) → length (touched off n) ≡ touched_pages off n
unfolding touched touched_pages
touched_count off zero = refl
touched_count off (suc n) = rw (from_length) (omega arith)

group_count : (g off n : ℕ) → off + n ≤ largest_size → length (touched off n) + length (extra_pages g off n) ≤ group_pages g off n
unfolding touched extra_pages group_pages
group_count g off zero l = omega arith
group_count g off (suc n) l =
    let a : ℕ = off / page_bytes in
    let b : ℕ = (off + n) / page_bytes in
    let x = group_low g a in
    let y = group_high g b in
    simp (length-append, from_length) (omega arith)

-- a narrow write has no pages but the touched ones; groups of eight add fourteen at most
group_narrow : (off n : ℕ) → group_pages 1 off n ≤ touched_pages off n
unfolding group_pages touched_pages
group_narrow off zero = omega arith
group_narrow off (suc n) = omega arith

group_eights : (off n : ℕ) → group_pages 8 off n ≤ touched_pages off n + 14
unfolding group_pages touched_pages
group_eights off zero = omega arith
group_eights off (suc n) = omega arith

-- A WRITE ON BYTES is the write on the store that they hold
module _ (m : Image) (g s f off : ℕ) (bs : List ℕ) where
  abbrev call : Call
  call = write g s f off bs

  abbrev t : List ℕ
  t = m.tables

  abbrev p : List ℕ
  p = m.pages

  abbrev Takes : Type 0
  Takes = StoreTakes (touched_pages off (length bs)) (group_pages g off (length bs)) (child_count s m) (freed_by g s f off bs m) f (gave call m).answer (store_in m) (store_in (after call m))

  -- bytes that are not well formed
  refused_one : well_formed t (length p) ≡ false → call_on call t p ≡ looked_at (refusal 1) t p []
  unfolding call_on number_of conditions lowest outcome_of
  refused_one e = rw e

  broken_takes : well_formed t (length p) ≡ false → Takes
  broken_takes e = rw (refused_one e) (store_nothing _ _ _ f 1 (λ z. omega arith) (store_in m))

  -- well-formed bytes
  module _ (h : well_formed t (length p) ≡ true) where
    abbrev B : ℕ
    B = (unpack t).blocks

    abbrev r : Store real
    r = store_in m

    o : InOrder B r
    o = order_of t p h

    least : 1 ≤ B
    least = (formed t p h).header.at_least

    most : B ≤ 4096
    most = (formed t p h).header.most

    fresh_same : fresh_of p ≡ blank_memory B
    fresh_same = ap (λ n. blank_memory (n / 512)) (formed t p h).pages ∙ (let e : B * 512 / 512 ≡ B = omega arith in ap blank_memory e)

    number_same : number_of (view_on t p) call ≡ number_of (view_of real true true r) call
    unfolding number_of conditions lowest
    number_same = rw h

    -- answer and store
    outcome_same : (n : ℕ) → InOrder B (result_of real n (blank_memory B) call r).store →
        ((outcome_of n call t p).answer ≡ (result_of real n (blank_memory B) call r).answer)
        × (store_of (outcome_of n call t p).tables (outcome_of n call t p).pages ≡ (result_of real n (blank_memory B) call r).store)
    unfolding outcome_of result_of accepted_on
    outcome_same zero v = rw fresh_same (refl, image_store B most _ v)
    outcome_same (suc n) v = (refl, refl)

    call_same : ((gave call m).answer ≡ (step real (blank_memory B) call r).answer) × (store_in (after call m) ≡ (step real (blank_memory B) call r).store)
    unfolding call_on step
    call_same = rw number_same (outcome_same (number_of (view_of real true true r) call) (order_step B least r o call))

    formed_takes : Takes
    formed_takes =
        let all : ℕ = group_pages g off (length bs) in
        let made : Result real = step real (blank_memory B) call r in
        let freed : Answer → ℕ = λ a. freed_given a.number (tally_in r) s f off (length bs) in
        subst₂ (λ a st. StoreTakes (touched_pages off (length bs)) all (child_count s m) (freed a) f a r st) (sym call_same.0) (sym call_same.1)
        (subst (λ k. StoreTakes k all (child_count s m) (freed made.answer) f made.answer r made.store) (touched_count off (length bs))
        (store_room B least r o g s f off bs all (group_count g off (length bs)) most))

-- THE BOUNDS
room_of : (g s f off : ℕ) (bs : List ℕ) (m : Image) → RoomOf g s f off bs m
room_of g s f off bs m =
    let q : Takes m g s f off bs = test? (well_formed m.tables (length m.pages)) (formed_takes m g s f off bs) (broken_takes m g s f off bs) in
    let m' : Image = after (write g s f off bs) m in
    let own = q.takes.own in let copies = q.takes.copies in let left = q.takes.left in let new = q.new in let balance = q.balance in
    let none = q.takes.quiet in
    let lost : (gave (write g s f off bs) m).answer.third ≡ 0 → lost_bits m m' ≡ 0 = λ e. let v = none e in omega arith in
    record {
      own = omega arith;
      copies = omega arith;
      within_free = omega arith;
      free_after = omega arith;
      new_bits_law = omega arith;
      balance = omega arith;
      falls = λ b u z. let x = q.falls b u z in record { set = x.set; page = x.page; held = x.held; was_unmarked = x.was_unmarked; is_marked_law = x.is_marked_law };
      none_freed = none;
      stays_used = λ e b u. test? (ltb b 4096)
          (λ l. test? (used_in m' b) (λ k. k)
          (λ k. let o = count_here 4096 (λ b. used_in m b && not (used_in m' b)) b (ltb-true b 4096 l) (rw (u, k)) in absurd (omega (arith, lost e))))
          (λ l. absurd (true≢false (sym u ∙ bit_default m.tables b (ltb-false b 4096 l))));
      as_taken = λ e. let v = none e in let w = lost e in omega arith;
      not_refused = λ e. q.not_full (omega arith);
      none_counted = λ e. q.takes.none_counted (omega arith);
      none_marked = λ e. q.takes.none_marked (omega arith);
    }

-- the blocks in all
takes_most : (g s f off : ℕ) (bs : List ℕ) (m : Image) (n : ℕ) → touched_pages off (length bs) + group_pages g off (length bs) * child_count s m ≤ n →
    TakesAtMost n (write g s f off bs) m
takes_most g s f off bs m n l =
    let r = room_of g s f off bs m in
    let a = r.own in let b = r.copies in let c = r.new_bits_law in
    record { counts = omega arith; bits = omega arith }

-- THEOREM
pub room : RoomClaim
room = record {
  writes = room_of;
  narrow = λ s f off bs m. takes_most 1 s f off bs m _ (let l = mul-le-mul_right (child_count s m) (group_narrow off (length bs)) in omega arith);
  narrow_pages = group_narrow;
  eights_pages = group_eights;
  eights = λ s f off bs m. takes_most 8 s f off bs m _ (let l = mul-le-mul_right (child_count s m) (group_eights off (length bs)) in omega arith);
  tight = tight;
}
