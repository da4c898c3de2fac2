-- WELL-FORMED BYTES hold a store in order, and are its image. So what is shown of a store in order is shown of any well-formed bytes. Assumes nothing.
use mathlib.Core.Bool.{true}
use mathlib.Core.List.{List}
use mathlib.Core.Logic.{◌⊎◌, ⊎_elim}
use mathlib.Core.Path.{ap, refl, subst, sym, ◌∙◌, ◌≡◌}
use Prim.Native.Nat.{◌%◌, ◌*◌, ◌+◌, ◌/◌, ℕ, ◌≤◌}
use native.Mathlib.Nat.{mul-le-mul_right}
use native.Mathlib.Omega.{arith}
use lib.Dec.{ltb}
use lib.ListN.{get_or-eq_default, get_or, length}
use borrow.Author.Tests.{le-ltb, lt-ltb, ltb-true}
use Rattle.base.specs.Logic.{test?}
use Rattle.base.specs.Tabulate.{tab_of}
use Rattle.history.proofs.Events.{event_goes, events_go}
use Rattle.history.proofs.Image.{image_formed, image_of}
use Rattle.history.specs.Demand3.{MarksRightly, MarksThroughout}
use Rattle.history.specs.Events.{Event, event_on, events_on, runs}
use Rattle.history.specs.Image.{Held, Image, store_in}
use Rattle.packing.specs.Words.{Bytes}
use Rattle.rules.proofs.Formed.FilesMapped.{map_formed}
use Rattle.rules.proofs.Storages.MapBlocks.{map_file}
use Rattle.rules.proofs.Whole.Order.{InOrder}
use Rattle.rules.specs.Calls.{Store}
use Rattle.rules.specs.State.{tree_of}
use Rattle.rules.specs.Storage.{real}
use Rattle.tables.proofs.FormedStore.{FormedStore, absent_default, formed_store}
use Rattle.tables.proofs.OneReading.{one_reading}
use Rattle.tables.specs.Calls.{pack_pages, pages_of, store_of}
use Rattle.tables.specs.Packed.{unpack, well_formed}

-- the pages of a buffer of n blocks: zero from byte 512 on and from block n on
pages_zero : (p : List ℕ) (n : ℕ) → length p ≡ n * 512 → (b i : ℕ) → (512 ≤ i) ⊎ (n ≤ b) → pages_of p b i ≡ 0
unfolding pages_of
pages_zero p n e b i h =
    test? (ltb i 512)
    (λ d. rw d (⊎_elim (λ l. let k = ltb-true i 512 d in absurd (omega arith)) (λ l. get_or-eq_default p 0 (omega (arith, e, mul-le-mul_right 512 l))) h))
    (λ d. rw d refl)

-- and its bytes
pages_packed : (p : List ℕ) (n : ℕ) → length p ≡ n * 512 → pack_pages n (pages_of p) ≡ p
unfolding pack_pages pages_of
pages_packed p n e =
    tab_of 0 (n * 512) _ p e (λ i h. let q : i / 512 * 512 + i % 512 ≡ i = omega arith in rw (lt-ltb (i % 512) 512 (omega arith)) (ap (λ j. get_or p j 0) (sym q)))

module _ (t p : List ℕ) (h : well_formed t (length p) ≡ true) where
  pub formed : FormedStore t p
  formed = formed_store t p h

  pub order_of : InOrder (unpack t).blocks (store_of t p)
  order_of = record {
    kept = record { blocks = refl; blocks_ok = formed.blocks_ok; pages_in = pages_zero p (unpack t).blocks formed.pages };
    formed = record {
      sets_ok = formed.sets_ok;
      files_ok = λ f. map_formed (pages_of p) (tree_of (unpack t).sets) ((unpack t).files f) (formed.files_ok f);
      numbers = λ f s l. ap (map_file (pages_of p)) (absent_default t f s (rw (le-ltb f 16 l)));
    };
  }

  pub image_of_law : Bytes t → image_of (store_of t p) ≡ record { tables = t; pages = p }
  image_of_law bs = λ i. record { tables = (one_reading t (length p) bs h).same i; pages = pages_packed p (unpack t).blocks formed.pages i }

module _ (m : Image) (bs : Bytes m.tables) (h : well_formed m.tables (length m.pages) ≡ true) where
  -- WHAT HOLDS OF THE IMAGE of every store in order holds of well-formed bytes
  pub of_image : (P : Image → Type 0) → ((B : ℕ) → 1 ≤ B → B ≤ 4096 → (r : Store real) → InOrder B r → P (image_of r)) → P m
  of_image P k =
      let header = (formed m.tables m.pages h).header in
      subst P (image_of_law m.tables m.pages h bs)
      (k (unpack m.tables).blocks header.at_least header.most (store_in m) (order_of m.tables m.pages h))

-- LISTS OF EVENTS on well-formed bytes, with any registers
module _ (h : Held) (bs : Bytes h.image.tables) (f : well_formed h.image.tables (length h.image.pages) ≡ true) where
  abbrev at : Image → Held
  at m = record { image = m; registers = h.registers }

  pub formed_after : (es : List Event) → let m : Image = (events_on es h).image in well_formed m.tables (length m.pages) ≡ true
  formed_after es =
      of_image h.image bs f (λ x. well_formed (events_on es (at x)).image.tables (length (events_on es (at x)).image.pages) ≡ true)
      (λ B least most r o. let g = events_go B least most es r h.registers o in
      ap (λ (x : Image). well_formed x.tables (length x.pages)) g.image ∙ image_formed B most g.store g.order)

  pub formed_marks : (es : List Event) → MarksThroughout h es
  formed_marks es before rest e d =
      of_image h.image bs f (λ x. let here : Held = events_on before (at x) in MarksRightly here.image (runs e here) (event_on e here).image)
      (λ B least most r o. let g = events_go B least most before r h.registers o in
      let rs : List ℕ = (events_on before (at (image_of r))).registers in
      subst (λ (x : Image). MarksRightly x (runs e (record { image = x; registers = rs })) (event_on e (record { image = x; registers = rs })).image) (sym g.image)
      (event_goes B least most g.store g.order e rs).marks)
