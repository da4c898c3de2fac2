-- The entries before a place name their ranks: one place more, stored or not. Assumes nothing.
use mathlib.Core.Bool.{Bool, false, true, true≢false}
use mathlib.Core.Path.{ap, refl, subst, sym, ◌∙◌, ◌≡◌}
use Prim.Native.Nat.{◌+◌, ◌<◌, suc, zero, ℕ, ◌≤◌}
use native.Mathlib.Numerals.{add-one}
use native.Mathlib.Omega.{arith}
use lib.Dec.{ltb}
use borrow.Author.Tests.{ltb-false, ltb-true}
use Rattle.base.specs.Count.{count}
use Rattle.base.specs.Logic.{same?, test?}
use Rattle.compaction.proofs.Anew.{before_contents}
use Rattle.compaction.proofs.Counted.{named_place, place_once, rank_low, used_most}
use Rattle.compaction.proofs.Places.{name_of}
use Rattle.compaction.proofs.Ranks.{count_no, count_yes, rank_less}
use Rattle.compaction.specs.Compact.{entry_in, file_at, page_at, place_count, set_at, stored_before}
use Rattle.compacting.proofs.Exchanges.{entry_now, entry_was, exchanged_same}
use Rattle.compacting.proofs.Swapping.{swap_other, swap_right, swap_twice}
use Rattle.compacting.specs.Exchange.{Exchanged, swapped}
use Rattle.compacting.specs.Gathering.{InOrder, Same}
use Rattle.rules.proofs.Blocks.RealStore.{BlocksOk}
use Rattle.rules.proofs.Storages.MapBlocks.{map_entry}
use Rattle.rules.specs.Calls.{Store}
use Rattle.rules.specs.State.{Files, is_stored, stored}
use Rattle.rules.specs.Storage.{PageData, real}

-- ranks are told by the contents
pub before_same : (r r' : Store real) → Same r r' → (i : ℕ) → stored_before r'.files i ≡ stored_before r.files i
before_same r r' h i = sym (before_contents r' i) ∙ ap (λ (x : ℕ → Files PageData). stored_before x i) h.contents ∙ before_contents r i

-- numbers that do not pass are not counted
count_stays : (n m : ℕ) (f : ℕ → Bool) → ((i : ℕ) → n ≤ i → i < n + m → f i ≡ false) → count (n + m) f ≡ count n f
count_stays n zero f h = let a : n + 0 ≡ n = omega arith in ap (λ x. count x f) a
count_stays n (suc m) f h =
    let a : n + suc m ≡ suc (n + m) = omega arith in
    ap (λ x. count x f) a ∙ count_no (n + m) f (h (n + m) (omega arith) (omega arith)) ∙ count_stays n m f (λ i l k. h i l (omega (arith, k)))

module _ (r : Store real) where
  before_less : (i j : ℕ) → i < j → is_stored (entry_in r.files i) ≡ true → stored_before r.files i < stored_before r.files j
  unfolding stored_before
  before_less i j l h = rank_less (λ i. is_stored (entry_in r.files i)) i j l h

  before_yes : (n : ℕ) → is_stored (entry_in r.files n) ≡ true → stored_before r.files (n + 1) ≡ suc (stored_before r.files n)
  unfolding stored_before
  before_yes n h = rw add-one (count_yes n (λ i. is_stored (entry_in r.files i)) h)

  before_no : (n : ℕ) → is_stored (entry_in r.files n) ≡ false → stored_before r.files (n + 1) ≡ stored_before r.files n
  unfolding stored_before
  before_no n h = rw add-one (count_no n (λ i. is_stored (entry_in r.files i)) h)

  -- at the start nothing is asked
  pub order_start : InOrder r 0 0
  unfolding stored_before count
  order_start = record { order = λ i b l e. absurd (omega arith); given = refl }

  module _ (n k : ℕ) (o : InOrder r n k) where
    -- an entry that is not stored
    pub order_skip : is_stored (entry_in r.files n) ≡ false → InOrder r (n + 1) k
    order_skip h = record {
      order = λ i b l e. same? i n
          (λ q. absurd (true≢false (sym (ap is_stored e) ∙ ap (λ x. is_stored (entry_in r.files x)) q ∙ h)))
          (λ q. o.order i b (omega (arith, l, q)) e);
      given = o.given ∙ sym (before_no n h);
    }

    -- places where nothing is stored
    pub order_blank : (m : ℕ) → ((i : ℕ) → n ≤ i → i < n + m → is_stored (entry_in r.files i) ≡ false) → InOrder r (n + m) k
    unfolding stored_before
    order_blank m h = record {
      order = λ i b l e. test? (ltb i n)
          (λ d. o.order i b (ltb-true i n d) e)
          (λ d. absurd (true≢false (sym (ap is_stored e) ∙ h i (ltb-false i n d) l)));
      given = o.given ∙ sym (count_stays n m (λ i. is_stored (entry_in r.files i)) h);
    }

    module _ (ok : BlocksOk r) where
      -- who names block k stands here or later
      pub order_owner : r.memory.bits k ≡ true → (i : ℕ) × (n ≤ i) × (i < place_count) × (entry_in r.files i ≡ stored k)
      order_owner h =
          let z = named_place r ok k (ok.only k h) in (
            z.0,
            test? (ltb z.0 n)
                (λ l. let y = before_less z.0 n (ltb-true z.0 n l) (ap is_stored z.2) in let x = o.order z.0 k (ltb-true z.0 n l) z.2 in let w = o.given in absurd (omega (arith, y, x, w)))
                (λ l. ltb-false z.0 n l),
            z.1,
            z.2,
          )

      module _ (b : ℕ) (low : n < place_count) (here : entry_in r.files n ≡ stored b) where
        pub order_below : k < r.memory.blocks
        order_below = let x = rank_low r ok n low (ap is_stored here) in let y = used_most r ok in let w = o.given in omega (arith, x, y, w)

        -- a stored entry that gets block k by an exchange
        pub order_next : (r' : Store real) → Exchanged k b r r' → InOrder r' (n + 1) (k + 1)
        order_next r' h = record {
          order = λ i x l e. same? i n
              (λ q. subst (λ y. entry_in r'.files y ≡ stored x → x ≡ stored_before r'.files y) (sym q) (at_here x) e)
              (λ q. before x i (omega (arith, l, q)) q e);
          given = let a = before_yes n (ap is_stored here) in let c = before_same r r' (exchanged_same k b r r' h) (n + 1) in let w = o.given in omega (arith, a, c, w);
        }
          where
            at_here : (x : ℕ) → entry_in r'.files n ≡ stored x → x ≡ stored_before r'.files n
            at_here x e =
                let z : stored x ≡ stored k = sym e ∙ entry_now k b r r' h (file_at n) (set_at n) (page_at n) ∙ ap (map_entry (swapped k b)) here ∙ ap stored (swap_right k b) in
                ap name_of z ∙ o.given ∙ sym (before_same r r' (exchanged_same k b r r' h) n)

            before : (x i : ℕ) → i < n → (i ≡ n → ⊥) → entry_in r'.files i ≡ stored x → x ≡ stored_before r'.files i
            before x i l q e =
                let y = swapped k b x in
                let w : entry_in r.files i ≡ stored y = entry_was k b r r' h (file_at i) (set_at i) (page_at i) x e in
                let v : y ≡ stored_before r.files i = o.order i y l w in
                let g = o.given in
                let u = before_less i n l (ap is_stored w) in
                let s : swapped k b y ≡ y = swap_other k b y (λ d. omega (arith, v, g, u, d)) (λ d. q (place_once r ok i n b (w ∙ ap stored (sym d)) here)) in
                sym (swap_twice k b x) ∙ s ∙ v ∙ sym (before_same r r' (exchanged_same k b r r' h) i)
