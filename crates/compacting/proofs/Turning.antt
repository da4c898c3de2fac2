-- What each function of the code is asked for and leaves, over plain lists. Assumes nothing.
use mathlib.Core.Bool.{false, true}
use mathlib.Core.List.{List}
use mathlib.Core.Logic.{⊎_elim}
use mathlib.Core.Path.{ap, refl, subst, sym, ◌∙◌, ◌≡◌}
use Prim.Native.Nat.{◌%◌, ◌*◌, ◌+◌, ◌<◌, ℕ, ◌≤◌}
use native.Mathlib.Omega.{arith}
use lib.Dec.{ltb}
use lib.ListN.{get_or-eq_default, length}
use borrow.Author.Tests.{ltb-true}
use Rattle.base.specs.Count.{count_le}
use Rattle.base.specs.Logic.{test?}
use Rattle.base.specs.Update.{upd}
use Rattle.compaction.proofs.Again.{compacted_same}
use Rattle.compaction.proofs.Counted.{used_most}
use Rattle.compaction.specs.Compact.{entry_in, file_at, page_at, place_count, set_at, stored_before}
use Rattle.compacting.proofs.Exchanges.{entry_was, exchanged_ok, exchanged_same, state_now}
use Rattle.compacting.proofs.Last.{in_order, with_next}
use Rattle.compacting.proofs.OnBytes.{both_swap, moved_swap}
use Rattle.compacting.proofs.Ordered.{order_below, order_blank, order_next, order_owner, order_skip, order_start}
use Rattle.compacting.specs.Exchange.{Lent, Owned, Swap, may_hold, put_in}
use Rattle.compacting.specs.Gathering.{Compacted, Gathered, InOrder, Same}
use Rattle.rules.proofs.Blocks.GoodWork.{PagesIn}
use Rattle.rules.specs.Calls.{Store}
use Rattle.rules.specs.State.{Entry, Tables, is_stored, stored}
use Rattle.rules.specs.Storage.{real}
use Rattle.tables.proofs.Operations.{turns_then}
use Rattle.tables.specs.Calls.{pages_of, store_of}
use Rattle.tables.specs.Packed.{unpack}
use Rattle.tables.specs.Views.{Turns, put_bit_in, put_entry_in, put_next_in}

-- the same by another number
pub put_as : (t t' : List ℕ) (n q : ℕ) (e : Entry ℕ) → Turns t t' (put_entry_in (file_at n) (set_at n) q e) → q ≡ page_at n → Turns t t' (put_in n e)
unfolding put_in
put_as t t' n q e h d = subst (λ x. Turns t t' (put_entry_in (file_at n) (set_at n) x e)) d h

pub swap_as : (k k' b : ℕ) (t p t' p' : List ℕ) → k ≡ k' → Swap k b t p t' p' → Swap k' b t p t' p'
swap_as k k' b t p t' p' e h = subst (λ x. Swap x b t p t' p') e h

-- BLOCKS AND PAGES FIT
pub named_fits : (t p : List ℕ) (n b : ℕ) → Lent t p → entry_in (unpack t).files n ≡ stored b → (b * 512 + 512 ≤ length p) × (b < 4096)
named_fits t p n b h e =
    let u = (h.ok.used (file_at n) (set_at n) (page_at n) b e).below in
    let a = h.pages in
    let m = h.most in
    (omega (arith, u, a), omega (arith, u, m))

pub below_fits : (t p : List ℕ) (k : ℕ) → Lent t p → k < (unpack t).blocks → (k * 512 + 512 ≤ length p) × (k < 4096)
below_fits t p k h u = let a = h.pages in let m = h.most in (omega (arith, u, a), omega (arith, u, m))

-- AN ENTRY THAT GETS A FREE BLOCK; TWO THAT EXCHANGE THEIRS
pub moved_bytes : (t p t₁ t₂ t₃ p₁ : List ℕ) (n k b c : ℕ) → Lent t p → entry_in (unpack t).files n ≡ stored b → (unpack t).bits k ≡ false
    → (c ≡ k) × Turns t t₁ (put_bit_in k true) → pages_of p₁ ≡ upd (pages_of p) c (pages_of p b) → Turns t₁ t₂ (put_in n (stored c)) → Turns t₂ t₃ (put_bit_in b false) → Swap k b t p t₃ p₁
moved_bytes t p t₁ t₂ t₃ p₁ n k b c lent here unused q g w v =
    let w' : Turns t₁ t₂ (put_in n (stored k)) = subst (λ x. Turns t₁ t₂ (put_in n (stored x))) q.0 w in
    moved_swap t p t₃ p₁ n k b lent here unused (turns_then (turns_then q.1 w') v) (g ∙ ap (λ x. upd (pages_of p) x (pages_of p b)) q.0)

pub both_bytes : (t p t₁ t₂ p₁ : List ℕ) (n o k b : ℕ) → Lent t p → entry_in (unpack t).files n ≡ stored b → entry_in (unpack t).files o ≡ stored k
    → pages_of p₁ ≡ upd (upd (pages_of p) k (pages_of p b)) b (pages_of p k) → Turns t t₁ (put_in n (stored k)) → Turns t₁ t₂ (put_in o (stored b)) → Swap k b t p t₂ p₁
both_bytes t p t₁ t₂ p₁ n o k b lent here there g w v = both_swap t p t₂ p₁ n k b lent here o there (turns_then w v) g

-- PLACE AFTER PLACE
same_start : (r : Store real) → Same r r
same_start r = record { sets = refl; blocks = refl; contents = refl }

same_then : (r r' r'' : Store real) → Same r r' → Same r' r'' → Same r r''
same_then r r' r'' h k = record { sets = k.sets ∙ h.sets; blocks = k.blocks ∙ h.blocks; contents = k.contents ∙ h.contents }

module _ (t p : List ℕ) (lent : Lent t p) where
  module _ (n k : ℕ) (o : InOrder (store_of t p) n k) where
    pub gather_here : Gathered t p t p n k
    gather_here = record { lent = lent; order = o; same = same_start (store_of t p) }

    -- places where nothing is stored
    pub gather_blank : (m : ℕ) → ((i : ℕ) → n ≤ i → i < n + m → is_stored (entry_in (unpack t).files i) ≡ false) → Gathered t p t p (n + m) k
    gather_blank m h = record { lent = lent; order = order_blank (store_of t p) n k o m h; same = same_start (store_of t p) }

    pub gather_skip : (e : Entry ℕ) → e ≡ entry_in (unpack t).files n → is_stored e ≡ false → Gathered t p t p (n + 1) k
    gather_skip e h q = record { lent = lent; order = order_skip (store_of t p) n k o (sym (ap is_stored h) ∙ q); same = same_start (store_of t p) }

    pub gather_owner : (unpack t).bits k ≡ true → Owned t k n
    gather_owner h = let z = order_owner (store_of t p) n k o lent.ok h in record { place = z.0; later = z.1; low = z.2; names = z.3 }

    module _ (b : ℕ) (low : n < place_count) (here : entry_in (unpack t).files n ≡ stored b) where
      pub gather_below : k < (unpack t).blocks
      gather_below = order_below (store_of t p) n k o lent.ok b low here

      pub gather_more : (t' p' : List ℕ) → length p' ≡ length p → Swap k b t p t' p' → Gathered t p t' p' (n + 1) (k + 1)
      gather_more t' p' len h =
          let x = h.exchanged in
          let e : (unpack t').blocks ≡ (unpack t).blocks = x.blocks in
          record {
            lent = record {
              packed = h.packed;
              most = let m = lent.most in omega (arith, m, e);
              pages = len ∙ lent.pages ∙ ap (λ y. y * 512) (sym e);
              ok = exchanged_ok k b (store_of t p) (store_of t' p') x lent.ok gather_below (lent.ok.used (file_at n) (set_at n) (page_at n) b here).below;
              held = λ f s q y d. ap may_hold (state_now k b (store_of t p) (store_of t' p') x f s) ∙ lent.held f s q _ (entry_was k b (store_of t p) (store_of t' p') x f s q y d);
            };
            order = order_next (store_of t p) n k o lent.ok b low here (store_of t' p') x;
            same = exchanged_same k b (store_of t p) (store_of t' p') x;
          }

pub gather_start : (t p : List ℕ) → Lent t p → Gathered t p t p (0 * 64) 0
gather_start t p lent = gather_here t p lent 0 0 (order_start (store_of t p))

pub gather_then : (t p t₁ p₁ t₂ p₂ : List ℕ) (n k m j : ℕ) → Gathered t p t₁ p₁ n k → Gathered t₁ p₁ t₂ p₂ m j → Gathered t p t₂ p₂ m j
gather_then t p t₁ p₁ t₂ p₂ n k m j g h =
    record { lent = h.lent; order = h.order; same = same_then (store_of t p) (store_of t₁ p₁) (store_of t₂ p₂) g.same h.same }

-- no more blocks are given than places are done
pub gathered_few : (t p t₁ p₁ : List ℕ) (n k : ℕ) → Gathered t p t₁ p₁ n k → k ≤ n
unfolding stored_before
gathered_few t p t₁ p₁ n k g = let z = count_le n (λ i. is_stored (entry_in (unpack t₁).files i)) in let e = g.order.given in omega (arith, z, e)

pub gathered_as : (t p t₁ p₁ : List ℕ) (n k m : ℕ) → Gathered t p t₁ p₁ n k → k ≡ m → Gathered t p t₁ p₁ n m
gathered_as t p t₁ p₁ n k m g e = subst (Gathered t p t₁ p₁ n) e g

pub gathered_at : (t p t₁ p₁ : List ℕ) (n k m : ℕ) → Gathered t p t₁ p₁ n k → n ≡ m → Gathered t p t₁ p₁ m k
gathered_at t p t₁ p₁ n k m g e = subst (λ x. Gathered t p t₁ p₁ x k) e g

-- THE END
pages_inside : (t p : List ℕ) → Lent t p → PagesIn (store_of t p).memory
unfolding pages_of
pages_inside t p h b i o = test? (ltb i 512)
    (λ e. rw e (⊎_elim
    (λ l. let k = ltb-true i 512 e in absurd (omega (arith, l, k)))
    (λ l. let a = h.pages in get_or-eq_default p 0 (omega (arith, l, a))) o))
    (λ e. rw e)

module _ (t p t₁ p₁ : List ℕ) (k : ℕ) (g : Gathered t p t₁ p₁ place_count k) where
  pub gathered_most : k ≤ (unpack t₁).blocks
  gathered_most = let u = used_most (store_of t₁ p₁) g.lent.ok in let e = g.order.given in omega (arith, u, e)

  pub gathered_least : 1 ≤ (unpack t₁).blocks
  gathered_least = let n = g.lent.ok.next in omega (arith, n)

  -- LAW: with the next start it is the compacted store
  pub gathered_compacted : (t₂ : List ℕ) (m limit : ℕ) → limit ≡ (unpack t₁).blocks → m ≡ k % limit → Turns t₁ t₂ (put_next_in m) → Compacted t p t₂ p₁
  unfolding put_next_in
  gathered_compacted t₂ m limit l e v = record {
    packed = v.packed;
    is = (λ i. store_with (v.view i))
        ∙ ap (λ x. with_next x (store_of t₁ p₁)) (e ∙ ap (λ y. k % y) l)
        ∙ sym (in_order (store_of t₁ p₁) k g.lent.ok g.order (pages_inside t₁ p₁ g.lent))
        ∙ compacted_same (pages_of p₁) (store_of t p) (store_of t₁ p₁) g.same.blocks g.same.sets g.same.contents;
  }
    where
      store_with : Tables → Store real
      store_with tb = record { memory = record { blocks = tb.blocks; next = tb.next; bits = tb.bits; pages = pages_of p₁ }; sets = tb.sets; files = tb.files }
