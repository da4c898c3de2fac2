-- A call on the image of a store in order is the call on the store. Assumes nothing.
use mathlib.Core.Bool.{Bool, true}
use mathlib.Core.List.{List, []}
use mathlib.Core.Option.{some}
use mathlib.Core.Path.{ap, ap₂, refl, subst, sym, ◌∙◌, ◌≡◌}
use Prim.Native.Nat.{◌%◌, ◌*◌, ◌/◌, suc, zero, ℕ, ◌≤◌}
use native.Mathlib.Omega.{arith}
use lib.ListN.{length}
use borrow.Author.Tests.{le-leb}
use Rattle.history.proofs.Image.{image_formed, image_length, image_store, image_of}
use Rattle.history.specs.Demand3.{MarksRightly}
use Rattle.history.specs.Image.{after, gave, store_in}
use Rattle.rules.proofs.Whole.Accepted.{accepted_number}
use Rattle.rules.proofs.Whole.Order.{InOrder, order_step}
use Rattle.rules.proofs.Whole.OrderMarks.{step_marks}
use Rattle.rules.specs.Agreement.{buffer_after, buffer_of, front, store_give, tally_in}
use Rattle.rules.specs.Calls.{Store, accepted, blank_memory, read_into, result_of, step, tables_of, view_of}
use Rattle.rules.specs.Marking.{BecomesMarked}
use Rattle.rules.specs.Numbers.{Call, Look, View, bytes_asked, create, delete, format, look_of, make, none_asked, number_of, read, refusal, remove, size_asked, tell_free, tell_size, truncate, write}
use Rattle.rules.specs.State.{is_marked}
use Rattle.rules.specs.Storage.{Memory, real}
use Rattle.tables.proofs.PackWords.{length_pack}
use Rattle.tables.specs.Calls.{Outcome, accepted_on, buffer_in, call_on, format_lengths, fresh_of, looked_at, outcome_of, repacked, store_of, view_on}
use Rattle.tables.specs.Layout.{table_bytes}

pub lengths_of : (B : ℕ) → 1 ≤ B → B ≤ 4096 → format_lengths table_bytes (B * 512) ≡ true
unfolding format_lengths
lengths_of B l m =
    let q : B * 512 % 512 ≡ 0 = omega arith in
    rw (q, le-leb 512 (B * 512) (omega arith), le-leb (B * 512) 2097152 (omega arith))

module _ (B : ℕ) (least : 1 ≤ B) (most : B ≤ 4096) (r : Store real) (o : InOrder B r) where
  -- what the table of numbers sees of the image is what it sees of the store
  view_image : view_on (image_of r).tables (image_of r).pages ≡ view_of real true true r
  view_image =
      let lengths : format_lengths (length (image_of r).tables) (length (image_of r).pages) ≡ true =
      ap₂ format_lengths (length_pack (tables_of r)) (image_length B most r o) ∙ lengths_of B least most in
      ap₂ (λ (a b : Bool). view_of real a b (store_of (image_of r).tables (image_of r).pages)) (image_formed B most r o) lengths
      ∙ ap (view_of real true true) (image_store B most r o)

  fresh_image : fresh_of (image_of r).pages ≡ blank_memory B
  fresh_image = ap blank_memory (ap (λ n. n / 512) (image_length B most r o) ∙ (let e : B * 512 / 512 ≡ B = omega arith in e))

  -- a call that changes the store: the store after it is packed
  changing : (c : Call) → accepted_on c (image_of r).tables (image_of r).pages ≡ repacked (accepted real (fresh_of (image_of r).pages) c (store_of (image_of r).tables (image_of r).pages))
      → accepted_on c (image_of r).tables (image_of r).pages ≡ repacked (accepted real (blank_memory B) c r)
  changing c e = e ∙ ap₂ (λ (m : Memory) (st : Store real). repacked (accepted real m c st)) fresh_image (image_store B most r o)

  -- a call that only looks: tables and pages stay
  looking : (c : Call) (b : Store real → List ℕ)
      → accepted_on c (image_of r).tables (image_of r).pages ≡ looked_at (accepted real (fresh_of (image_of r).pages) c (store_of (image_of r).tables (image_of r).pages)).answer (image_of r).tables (image_of r).pages (b (store_of (image_of r).tables (image_of r).pages))
      → accepted_on c (image_of r).tables (image_of r).pages ≡ looked_at (accepted real (blank_memory B) c r).answer (image_of r).tables (image_of r).pages (b r)
  looking c b e =
      e ∙ ap₂ (λ (m : Memory) (st : Store real). looked_at (accepted real m c st).answer (image_of r).tables (image_of r).pages (b st)) fresh_image (image_store B most r o)

  -- what an accepted call leaves, by the kind of the call
  abbrev AcceptedImage : Call → Type 0
  AcceptedImage c = accepted_on c (image_of r).tables (image_of r).pages ≡ record {
    answer = (accepted real (blank_memory B) c r).answer;
    tables = (image_of (accepted real (blank_memory B) c r).store).tables;
    pages = (image_of (accepted real (blank_memory B) c r).store).pages;
    buffer = buffer_after c 0 r;
  }

  accepted_image : (c : Call) → AcceptedImage c
  unfolding accepted_on buffer_of
  accepted_image format = changing format refl
  accepted_image (create s f) = changing (create s f) refl
  accepted_image (write g s f off bs) = changing (write g s f off bs) refl
  accepted_image (read s f off buffer) = looking (read s f off buffer) (λ st. read_into st s f off buffer) refl ∙ (unfold accepted in refl)
  accepted_image (truncate s f n) = changing (truncate s f n) refl
  accepted_image (delete s f) = changing (delete s f) refl
  accepted_image (make s c w) = changing (make s c w) refl
  accepted_image (remove s) = changing (remove s) refl
  accepted_image (tell_size s f) = looking (tell_size s f) (λ st. []) refl ∙ (unfold accepted in refl)
  accepted_image tell_free = looking tell_free (λ st. []) refl ∙ (unfold accepted in refl)

  -- the buffer of a refused call
  refused_buffer : (k : Look) (n : ℕ) → buffer_in k ≡ buffer_of k (suc n) r
  unfolding buffer_of
  refused_buffer (bytes_asked s f off buffer) n = refl
  refused_buffer (size_asked s f) n = refl
  refused_buffer none_asked n = refl

  images_as : (n : ℕ) (c : Call) → outcome_of n c (image_of r).tables (image_of r).pages ≡ record {
    answer = (result_of real n (blank_memory B) c r).answer;
    tables = (image_of (result_of real n (blank_memory B) c r).store).tables;
    pages = (image_of (result_of real n (blank_memory B) c r).store).pages;
    buffer = buffer_after c (result_of real n (blank_memory B) c r).answer.number r;
  }
  unfolding outcome_of result_of
  images_as zero c = rw (accepted_number (blank_memory B) c r) (accepted_image c)
  images_as (suc n) c = ap (looked_at (refusal (suc n)) (image_of r).tables (image_of r).pages) (refused_buffer (look_of c) n)

  -- A CALL on the image is the call on the store
  call_image : (c : Call) → call_on c (image_of r).tables (image_of r).pages ≡ record {
    answer = (step real (blank_memory B) c r).answer;
    tables = (image_of (step real (blank_memory B) c r).store).tables;
    pages = (image_of (step real (blank_memory B) c r).store).pages;
    buffer = buffer_after c (step real (blank_memory B) c r).answer.number r;
  }
  unfolding call_on step
  call_image c = ap (λ (w : View). outcome_of (number_of w c) c (image_of r).tables (image_of r).pages) view_image ∙ images_as (number_of (view_of real true true r) c) c

  pub after_image : (c : Call) → after c (image_of r) ≡ image_of (step real (blank_memory B) c r).store
  after_image c = ap (λ (o : Outcome). record { tables = o.tables; pages = o.pages }) (call_image c)

  pub gave_image : (c : Call) → gave c (image_of r) ≡ store_give B c r
  gave_image c = ap (λ (o : Outcome). record { answer = o.answer; bytes = front c o.answer o.buffer }) (call_image c)

  -- the store that the image after a call holds is the store after it
  pub store_after : (c : Call) → store_in (after c (image_of r)) ≡ (step real (blank_memory B) c r).store
  store_after c = ap store_in (after_image c) ∙ image_store B most _ (order_step B least r o c)

  -- what a call on the image marks
  pub marks_image : (c : Call) → MarksRightly (image_of r) (some c) (after c (image_of r))
  marks_image c f s h =
      let here : store_in (image_of r) ≡ r = image_store B most r o in
      let k = step_marks B least r o c f s (ap (λ x. is_marked (x.files f s).state) (sym here) ∙ h) in
      let e = ap (λ g. g.answer.number) (gave_image c) in
      let q = ap (λ x. is_marked (x.files f s).state) (store_after c) in (
        λ a. let w = k.0 (sym q ∙ a) in (e ∙ w.0, subst (λ x. BecomesMarked (tally_in x) c f s) (sym here) w.1),
        λ w. q ∙ k.1 (sym e ∙ w.0, subst (λ x. BecomesMarked (tally_in x) c f s) here w.1),
      )
