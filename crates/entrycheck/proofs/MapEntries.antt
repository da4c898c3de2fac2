-- The entries of a map as the code looks at them: it passes, with the blocks that it made seen, where the definition does. Assumes nothing.
use mathlib.Core.Bool.{◌&&◌, Bool, false, not, true, true≢false}
use mathlib.Core.List.{List, []}
use mathlib.Core.Option.{none}
use Rattle.std.specs.Prelude.{MatchOption, None, Some, is_some}
use Rattle.std.specs.Prelude.{Option as Answer}
use mathlib.Core.Path.{ap, ap₂, refl, subst, sym, ◌∙◌, ◌≡◌}
use Prim.Native.Nat.{◌%◌, ◌*◌, ◌+◌, ◌-◌, ◌/◌, ◌<◌, ℕ, ◌≤◌}
use native.Mathlib.Omega.{arith}
use lib.Bits.{bit_and, bit_or}
use lib.Dec.{eqb, ltb}
use lib.ListN.{get_or, length}
use borrow.Author.Tests.{eq-eqb, eqb-true, lt-ltb, ltb-false, ltb-true, ne_eqb}
use Rattle.base.specs.Count.{all, all_at, all_of, sum}
use Rattle.base.specs.Logic.{and_both, and_left, and_right, digit, test?}
use Rattle.entrycheck.specs.Plain.{plain, plain_at}
use Rattle.masks.proofs.KindMasks.{no_three, some_three, stored_mask, stored_page, unmapped_mask, word_lt}
use Rattle.masks.proofs.PageMasks.{mask_all, mask_none}
use Rattle.masks.specs.Network.{holes_of, stored_of, words_at}
use Rattle.masks.specs.Pages.{entries_at, pages}
use Rattle.entrycheck.proofs.Counts.{counts_none, counts_some}
use Rattle.entrycheck.proofs.EntriesFormed.{good, hit, map_counts}
use Rattle.entrycheck.proofs.MovedPages.{moved_then, times_none}
use Rattle.entrycheck.specs.Seeing.{MapRead, MapSeen, none_seen, see_map}
use Rattle.entrycheck.specs.declared.seeing.Masks.{Masks}
use Rattle.entrycheck.specs.Moving.{Moved, RowsMoved, block_at, no_page, times_left}
use Rattle.packing.specs.Bitmap.{bit_at, is_one}
use Rattle.packing.specs.Words.{Bytes, get_word}
use Rattle.packing.specs.Zeros.{zero_at, zero_bytes}
use Rattle.rules.proofs.Blocks.Sums.{count_sum, sum_same, sum_zero}
use Rattle.rules.specs.State.{is_stored, is_unmapped, unmapped}
use Rattle.rules.specs.WellFormed.{block_below, names}
use Rattle.tables.proofs.Codes.{formed_three, word_hole, word_stored, word_unmapped}
use Rattle.tables.specs.Layout.{read_entry}
use Rattle.tables.specs.Packed.{entry_formed}

-- ---- one entry, by its word

-- is it formed, with a block below the limit
abbrev good_word : ℕ → ℕ → Bool
good_word limit w = entry_formed [] w && block_below limit (read_entry w)

formed_low : (w : ℕ) → w < 32768 → w % 16384 ≡ 0 → entry_formed [] w ≡ true
formed_low w h e =
    let b : w % 16384 / 1 ≡ w % 16384 = omega arith in
    rw (lt-ltb (w / 16384) 3 (omega arith), ne_eqb (w / 16384) 2 (omega arith), b, eq-eqb (w % 16384) 0 e)

formed_stored : (w : ℕ) → 32768 ≤ w → w < 49152 → entry_formed [] w ≡ true
formed_stored w l h = rw (lt-ltb (w / 16384) 3 (omega arith), eq-eqb (w / 16384) 2 (omega arith))

below_low : (limit w : ℕ) → w < 32768 → block_below limit (read_entry w) ≡ true
below_low limit w h =
    test? (ltb w 16384)
    (λ e. ap (block_below limit) (word_unmapped w (ltb-true w 16384 e)))
    (λ e. ap (block_below limit) (word_hole w (ltb-false w 16384 e) h))

module _ (limit w : ℕ) where
  -- LAW: an entry whose block is not plain does not pass
  not_plain : limit ≤ 4096 → plain w ≡ false → good_word limit w ≡ true → ⊥
  unfolding plain
  not_plain most p g =
      let f = and_left (entry_formed [] w) (block_below limit (read_entry w)) g in
      let b = and_right (entry_formed [] w) (block_below limit (read_entry w)) g in
      test? (ltb w 32768)
      (λ e. let h = ltb-true w 32768 e in
      let q : w % 16384 / 1 ≡ w % 16384 = omega arith in
      let z : eqb (w % 16384) 0 ≡ true = sym (rw (lt-ltb (w / 16384) 3 (omega arith), ne_eqb (w / 16384) 2 (omega arith), q)) ∙ f in
      let y : w % 16384 ≡ 0 = eqb-true (w % 16384) 0 z in
      true≢false (sym (rw (lt-ltb (w % 16384) 4096 (omega arith), z, e)) ∙ p))
      (λ e. let h = ltb-false w 32768 e in
      let c = ltb-true (w % 16384) limit (sym (ap (block_below limit) (word_stored w h)) ∙ b) in
      true≢false (sym (rw (lt-ltb (w % 16384) 4096 (omega arith), e)) ∙ p))

  -- LAW: nor does one of kind 3
  not_three : 49152 ≤ w → good_word limit w ≡ true → ⊥
  not_three h g = true≢false (sym (and_left (entry_formed [] w) (block_below limit (read_entry w)) g) ∙ formed_three [] w h)

  -- LAW: one with a plain block and not of kind 3 does, where its block is below the limit
  is_good : w < 49152 → plain w ≡ true → (is_one (w / 32768) ≡ true → w % 4096 < limit) → good_word limit w ≡ true
  unfolding plain
  is_good h p l =
      let below = ltb-true (w % 16384) 4096 (and_left (ltb (w % 16384) 4096) _ p) in
      test? (ltb w 32768)
      (λ e. let k = ltb-true w 32768 e in
      let z : eqb (w % 16384) 0 ≡ true = sym (rw e) ∙ and_right (ltb (w % 16384) 4096) _ p in
      and_both _ _ (formed_low w k (eqb-true (w % 16384) 0 z)) (below_low limit w k))
      (λ e. let k = ltb-false w 32768 e in
      let o : w / 32768 ≡ 1 = omega arith in
      let b = l (ap is_one o) in
      and_both _ _ (formed_stored w k h) (ap (block_below limit) (word_stored w k) ∙ lt-ltb (w % 16384) limit (omega arith)))

  -- LAW: which block it names
  names_block : (b : ℕ) → w < 65536 → plain w ≡ true → names b (read_entry w) ≡ (is_one (w / 32768) && eqb b (w % 4096))
  unfolding plain
  names_block b h p =
      let below = ltb-true (w % 16384) 4096 (and_left (ltb (w % 16384) 4096) _ p) in
      test? (ltb w 16384)
      (λ e. let k = ltb-true w 16384 e in let z : w / 32768 ≡ 0 = omega arith in rw (word_unmapped w k, z))
      (λ e. let k = ltb-false w 16384 e in
      test? (ltb w 32768)
      (λ d. let j = ltb-true w 32768 d in let z : w / 32768 ≡ 0 = omega arith in rw (word_hole w k j, z))
      (λ d. let j = ltb-false w 32768 d in
      let z : w / 32768 ≡ 1 = omega arith in
      let y : w % 16384 ≡ w % 4096 = omega arith in
      rw (word_stored w j, z, y)))

-- ---- a map of zero bytes

module _ (limit : ℕ) (t : List ℕ) (at : ℕ) (l : List ℕ) (len : length l ≡ 512) (z : zero_bytes t at 128 ≡ true) where
  word_zero : (p : ℕ) → p < 64 → get_word 1 t (at + p * 2) ≡ 0
  unfolding get_word
  word_zero p k =
      let e : at + p * 2 + 1 ≡ at + (p * 2 + 1) = omega arith in
      let a = zero_at t at 128 z (p * 2) (omega arith) in
      let b = ap (λ i. get_or t i 0) e ∙ zero_at t at 128 z (p * 2 + 1) (omega arith) in
      omega arith

  page_unmapped : (p : ℕ) → p < 64 → entries_at t at p ≡ unmapped
  page_unmapped p k = ap read_entry (word_zero p k) ∙ word_unmapped 0 (omega arith)

  -- LAW: it passes, and nothing is seen
  pub zero_map : MapRead limit t at l l (record { stored = 0; unmapped = 18446744073709551615 })
  zero_map = record {
    passes = record {
      sees = counts_some limit (see_map limit t at) _ _ (map_counts t at limit) (bit_at l 0) (bit_at l 0)
          (all_of 64 (good t at limit) (λ p k. ap (good_word limit) (word_zero p k) ∙ and_both _ _ (formed_low 0 (omega arith) (omega arith)) (below_low limit 0 (omega arith))))
          (λ b. let q = sum_zero 64 (λ p. hit t at b p) (λ p k. ap (λ e. digit (names b e)) (page_unmapped p k)) in omega arith);
      len = len;
    };
    stored_is = sym (eqb-true _ 0 (mask_none is_stored (entries_at t at) ∙ all_of 64 _ (λ p k. ap (λ e. not (is_stored e)) (page_unmapped p k))));
    unmapped_is = sym (eqb-true _ 18446744073709551615 (mask_all is_unmapped (entries_at t at) ∙ all_of 64 _ (λ p k. ap is_unmapped (page_unmapped p k))));
  }

-- ---- the map that begins at byte `at`

module _ (limit : ℕ) (t : List ℕ) (bs : Bytes t) (at : ℕ) (l : List ℕ) (len : length l ≡ 512) where
  abbrev word : ℕ → ℕ
  word p = get_word 1 t (at + p * 2)

  -- every entry is good
  abbrev AllGood : Type 0
  AllGood = (p : ℕ) → p < 64 → good_word limit (word p) ≡ true

  -- no block is seen twice
  abbrev Once : Type 0
  Once = (b : ℕ) → digit (bit_at l 0 b) + sum 64 (λ p. hit t at b p) ≤ 1

  -- the map does not pass
  abbrev Refused : Type 0
  Refused = see_map limit t at (bit_at l 0) ≡ none

  fails : (AllGood → Once → ⊥) → Refused
  fails h = counts_none limit (see_map limit t at) _ _ (map_counts t at limit) (bit_at l 0) (λ g o. h (λ p k. all_at 64 (good t at limit) g p k) o)

  abbrev S : ℕ
  S = stored_of (words_at t at)

  abbrev H : ℕ
  H = holes_of (words_at t at)

  below_three : AllGood → (p : ℕ) → p < 64 → word p < 49152
  below_three g p k = test? (ltb (word p) 49152) (λ e. ltb-true (word p) 49152 e) (λ e. absurd (not_three limit (word p) (ltb-false (word p) 49152 e) (g p k)))

  -- LAW: a page is of kind 3
  three_map : (bit_and S H ≡ 0 → ⊥) → Refused
  three_map h = fails (λ g o. h (some_three t bs at (below_three g)))

  -- LAW: a block is not plain
  plain_map : limit ≤ 4096 → all 64 (plain_at t at) ≡ false → Refused
  plain_map most h =
      fails (λ g o. true≢false (sym (all_of 64 (plain_at t at) (λ p k. test? (plain (word p)) (λ e. e) (λ e. absurd (not_plain limit (word p) most e (g p k))))) ∙ h))

  -- ---- no kind is 3, and the blocks are plain

  module _ (three : bit_and S H ≡ 0) (plains : all 64 (plain_at t at) ≡ true) where
    plain_at_law : (p : ℕ) → p < 64 → plain (word p) ≡ true
    plain_at_law p k = all_at 64 (plain_at t at) plains p k

    page_is : (p : ℕ) → p < 64 → pages S p ≡ is_one (word p / 32768)
    page_is p k = ap is_one (stored_page t bs at p k)

    times_hit : (b : ℕ) → times_left (block_at t at) (pages S) b ≡ sum 64 (λ p. hit t at b p)
    unfolding times_left
    times_hit b =
        count_sum 64 (λ p. pages S p && eqb b (block_at t at p))
        ∙ sum_same 64 (λ p. digit (pages S p && eqb b (block_at t at p))) (λ p. hit t at b p) (λ p k.
        ap digit (ap (λ o. o && eqb b (block_at t at p)) (page_is p k) ∙ sym (names_block limit (word p) b (word_lt t bs at p) (plain_at_law p k))))

    -- LAW: a block is seen already, or is not below the limit
    moved_fails : (l' : List ℕ) (left : ℕ → Bool) → Moved limit (block_at t at) l l' (pages S) left false → Refused
    moved_fails l' left m =
        fails (λ g o. m.fails refl (record {
          low = λ p k e.
              let h : 32768 ≤ word p = stored_from_law (word p) (sym (page_is p k) ∙ e) in
              let b = ltb-true (word p % 16384) limit (sym (ap (block_below limit) (word_stored (word p) h)) ∙ and_right (entry_formed [] (word p)) _ (g p k)) in
              omega arith;
          once = λ b. let q = times_hit b in omega (arith, o b);
        }))
      where
        stored_from_law : (w : ℕ) → is_one (w / 32768) ≡ true → 32768 ≤ w
        stored_from_law w e = test? (ltb w 32768) (λ d. let k = ltb-true w 32768 d in let z : w / 32768 ≡ 0 = omega arith in absurd (true≢false (sym e ∙ ap is_one z))) (λ d. ltb-false w 32768 d)

    -- LAW: every block is new and below the limit, and is seen now
    moved_whole : (l' : List ℕ) → Moved limit (block_at t at) l l' (pages S) no_page true → MapRead limit t at l l' (record { stored = S; unmapped = 18446744073709551615 - bit_or S H })
    moved_whole l' m = record {
      passes = record {
        sees = counts_some limit (see_map limit t at) _ _ (map_counts t at limit) (bit_at l 0) (bit_at l' 0)
            (all_of 64 (good t at limit) (λ p k. is_good limit (word p) (no_three t bs at three p k) (plain_at_law p k) (λ e. m.low refl p k (page_is p k ∙ e) refl)))
            (λ b. let q = times_hit b in let z = times_none (block_at t at) no_page (λ p k. refl) b in omega (arith, m.counts refl b));
        len = m.len;
      };
      stored_is = stored_mask t bs at;
      unmapped_is = unmapped_mask t bs at;
    }

  -- ---- what the code learns: x and y are the masks that it computed

  module _ (x y : ℕ) (ex : x ≡ S) (ey : y ≡ H) where
    both_is : bit_and x y ≡ bit_and S H
    both_is = ap₂ bit_and ex ey

    pub reads_three : (bit_and x y ≡ 0 → ⊥) → Refused
    reads_three h = three_map (λ q. h (both_is ∙ q))

    module _ (apart : bit_and x y ≡ 0) where
      pub reads_block : limit ≤ 4096 → false ≡ all 64 (plain_at t at) → Refused
      reads_block most h = plain_map most (sym h)

      module _ (plains : true ≡ all 64 (plain_at t at)) (l' : List ℕ) where
        rows_moved : (left : ℕ → Bool) (o : Bool) → Moved limit (block_at t at) l l' (pages x) left o → Moved limit (block_at t at) l l' (pages S) left o
        rows_moved left o m = subst (λ z. Moved limit (block_at t at) l l' (pages z) left o) ex m

        pub reads_rows : RowsMoved limit (block_at t at) l l' x None → Refused
        reads_rows m = moved_fails (sym both_is ∙ apart) (sym plains) l' no_page (rows_moved no_page false m)

        module _ (left : ℕ) (m : RowsMoved limit (block_at t at) l l' x (Some left)) (l'' : List ℕ) where
          pages_moved : (o : Bool) → Moved limit (block_at t at) l' l'' (pages left) no_page o → Moved limit (block_at t at) l l'' (pages S) no_page o
          pages_moved o n = moved_then limit (block_at t at) l l' l'' (pages S) (pages left) no_page o (rows_moved (pages left) true m) n

          pub reads_page : Moved limit (block_at t at) l' l'' (pages left) no_page false → Refused
          reads_page n = moved_fails (sym both_is ∙ apart) (sym plains) l'' no_page (pages_moved false n)

          pub reads_whole : Moved limit (block_at t at) l' l'' (pages left) no_page true → MapRead limit t at l l'' (record { stored = x; unmapped = 18446744073709551615 - bit_or x y })
          reads_whole n =
              subst (λ z. MapRead limit t at l l'' (record { stored = z; unmapped = 18446744073709551615 - bit_or z y })) (sym ex)
              (subst (λ z. MapRead limit t at l l'' (record { stored = S; unmapped = 18446744073709551615 - bit_or S z })) (sym ey)
              (moved_whole (sym both_is ∙ apart) (sym plains) l'' (pages_moved true n)))

-- ---- an answer, and what is seen

module _ (limit : ℕ) (t : List ℕ) (at : ℕ) (l : List ℕ) where
  pub seen_none : (r : Answer Masks) (l' : List ℕ) → is_some r ≡ false → MatchOption r (see_map limit t at (bit_at l 0) ≡ none) (MapRead limit t at l l') → (l⁺ : List ℕ) → length l⁺ ≡ 512
      → bit_at l⁺ 0 ≡ none_seen → MapSeen limit t at l l⁺ r
  seen_none None l' e h l⁺ len n = (record { sees = h; len = len }, n)
  seen_none (Some m) l' e h l⁺ len n = absurd (true≢false e)

  pub seen_whole : (r : Answer Masks) (l' : List ℕ) → is_some r ≡ true → MatchOption r (see_map limit t at (bit_at l 0) ≡ none) (MapRead limit t at l l') → MapSeen limit t at l l' r
  seen_whole None l' e h = absurd (true≢false (sym e))
  seen_whole (Some m) l' e h = h
