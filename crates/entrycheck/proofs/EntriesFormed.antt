-- THE THEOREM of the pass: every entry passes, and the blocks seen at the end are those whose bits are 1, exactly where the rules on kinds, blocks and bits hold:
-- no kind is 3, the block is 0 unless stored, a bit is 1 exactly when one stored entry names that block, no block is named twice, or is B or more. Assumes nothing.
use mathlib.Core.Bool.{◌&&◌, Bool, true, true≢false}
use mathlib.Core.List.{List, [], ◌++◌}
use mathlib.Core.Option.{Option, none, some}
use mathlib.Core.Path.{ap, ap₂, refl, subst, sym, ◌∙◌, ◌≡◌}
use Prim.Native.Nat.{◌%◌, ◌*◌, ◌+◌, ◌/◌, ◌<◌, ℕ, ◌≤◌}
use native.Mathlib.Nat.{zero-add}
use native.Mathlib.Omega.{arith}
use lib.ListN.{length}
use borrow.Author.Tests.{eq-eqb, eqb-true}
use Rattle.base.specs.Count.{all, all_at, all_of, count, sum}
use Rattle.base.specs.Logic.{and_both, and_left, and_right, digit, same_test}
use Rattle.entrycheck.proofs.Counts.{Counts, digit_most, digit_same, entry_counts, through_counts}
use Rattle.entrycheck.specs.Seeing.{Seen, entries_formed, formed_by, map_in, none_seen, record_count, same_bits_at, same_bits_of, same_bits, see_all, see_entry, see_map}
use Rattle.rules.proofs.Blocks.Sums.{count_sum, sum_rows, sum_same}
use Rattle.rules.proofs.Formed.Tests.{files_at_law, files_of_law}
use Rattle.packing.specs.Words.{get_word}
use Rattle.rules.specs.State.{file_count, set_count}
use Rattle.rules.specs.WellFormed.{all_files, all_pages, bits_formed, block_below, names, times_named}
use Rattle.tables.proofs.Parts.{bits_front, blocks_front, entry_files, map_files}
use Rattle.tables.specs.Layout.{entry_bytes, files_at, read_entry}
use Rattle.tables.specs.Packed.{entry_formed, kinds_formed, unpack}

-- ---- the map that begins at byte `at`

module _ (t : List ℕ) (at : ℕ) where
  -- the word of page p; does it name the block, as a number; is it formed, with a block below the limit
  abbrev word : ℕ → ℕ
  word p = get_word 1 t (at + p * entry_bytes)

  abbrev pub hit : ℕ → ℕ → ℕ
  hit b p = digit (names b (read_entry (word p)))

  abbrev pub good : ℕ → ℕ → Bool
  good limit p = entry_formed [] (word p) && block_below limit (read_entry (word p))

  pub map_counts : (limit : ℕ) → Counts limit (see_map limit t at) (all 64 (good limit)) (λ b. sum 64 (hit b))
  unfolding see_map
  map_counts limit = through_counts limit (λ p. see_entry limit (word p)) (good limit) (λ p b. hit b p) 64 (λ p l. entry_counts limit (word p))

-- ---- all file records, behind the front of the tables

module _ (front files : List ℕ) (len : length front ≡ files_at) where
  abbrev t : List ℕ
  t = front ++ files

  -- the number of the record of file f in set s
  abbrev at : ℕ → ℕ → ℕ
  at f s = s * file_count + f

  abbrev limit : ℕ
  limit = (unpack front).blocks

  -- the entries of a record, by its number
  abbrev goods : ℕ → Bool
  goods i = all 64 (good files (map_in i) limit)

  abbrev hits : ℕ → ℕ → ℕ
  hits b i = sum 64 (hit files (map_in i) b)

  all_counts : Counts limit (see_all limit files) (all record_count goods) (λ b. sum record_count (hits b))
  unfolding see_all
  all_counts = through_counts limit (λ i. see_map limit files (map_in i)) goods (λ i b. hits b i) record_count (λ i l. map_counts files (map_in i) limit)

  -- a block is named as often as the sum over all records says
  times_named_law : (b : ℕ) → times_named (unpack t) b ≡ sum record_count (hits b)
  unfolding times_named
  times_named_law b =
      sum_same 8 (λ s. sum 16 (λ f. count 64 (λ p. names b (((unpack t).files f s).map p)))) (λ s. sum 16 (λ f. hits b (at f s)))
      (λ s ls. sum_same 16 (λ f. count 64 (λ p. names b (((unpack t).files f s).map p))) (λ f. hits b (at f s))
      (λ f lf. count_sum 64 (λ p. names b (((unpack t).files f s).map p))
      ∙ sum_same 64 (λ p. digit (names b (((unpack t).files f s).map p))) (hit files (map_in (at f s)) b) (λ p lp. ap (λ e. digit (names b e)) (map_files front files len f s p lf ls lp))))
      ∙ sym (sum_rows file_count set_count (hits b))

  -- ---- from the pass to the rules

  to_rules : (x : Seen) → see_all limit files none_seen ≡ some x → same_bits front x ≡ true → (kinds_formed t && bits_formed (unpack t)) ≡ true
  unfolding kinds_formed bits_formed all_pages
  to_rules x e h =
      let r = all_counts.counts none_seen x e in
      let here : (f s p : ℕ) → f < 16 → s < 8 → p < 64 → good files (map_in (at f s)) limit p ≡ true =
      (λ f s p lf ls lp. all_at 64 (good files (map_in (at f s)) limit) (all_at record_count goods r.0 (at f s) (omega arith)) p lp) in
      and_both _ _
      (files_of_law _ (λ f s lf ls. all_of 64 _ (λ p lp.
      ap (entry_formed []) (entry_files front files len f s p) ∙ and_left (entry_formed [] (word files (map_in (at f s)) p)) _ (here f s p lf ls lp))))
      (and_both _ _
      (all_of 4096 _ (λ b l. eq-eqb (times_named (unpack t) b) (digit ((unpack t).bits b))
      (times_named_law b ∙ sym (r.1 b ∙ zero-add _) ∙ ap digit (same_bits_at front x h b l ∙ ap (λ (bits : ℕ → Bool). bits b) (sym (bits_front front files len))))))
      (files_of_law _ (λ f s lf ls. all_of 64 _ (λ p lp.
      ap₂ block_below (blocks_front front files len) (map_files front files len f s p lf ls lp) ∙ and_right (entry_formed [] (word files (map_in (at f s)) p)) _ (here f s p lf ls lp)))))

  -- ---- from the rules to the pass

  module _ (most : limit ≤ 4096) (kinds : kinds_formed t ≡ true) (bits : bits_formed (unpack t) ≡ true) where
    good_at : (f s p : ℕ) → f < 16 → s < 8 → p < 64 → good files (map_in (at f s)) limit p ≡ true
    unfolding kinds_formed bits_formed all_pages
    good_at f s p lf ls lp =
        and_both (entry_formed [] (word files (map_in (at f s)) p)) _
        (ap (entry_formed []) (sym (entry_files front files len f s p)) ∙ all_at 64 _ (files_at_law _ kinds f s lf ls) p lp)
        (sym (ap₂ block_below (blocks_front front files len) (map_files front files len f s p lf ls lp)) ∙ all_at 64 _ (files_at_law _ (and_right (all 4096 _) _ bits) f s lf ls) p lp)

    all_good : all record_count goods ≡ true
    all_good = all_of record_count goods (λ i l. all_of 64 (good files (map_in i) limit) (λ p lp.
        let e : at (i % 16) (i / 16) ≡ i = omega arith in
        subst (λ n. good files (map_in n) limit p ≡ true) e (good_at (i % 16) (i / 16) p (omega arith) (omega arith) lp)))

    named_is : (b : ℕ) → b < 4096 → sum record_count (hits b) ≡ digit ((unpack front).bits b)
    unfolding bits_formed
    named_is b l =
        sym (times_named_law b) ∙ eqb-true (times_named (unpack t) b) (digit ((unpack t).bits b)) (all_at 4096 _ (and_left _ (all_files _) bits) b l)
        ∙ ap (λ (bits : ℕ → Bool). digit (bits b)) (bits_front front files len)

    from_rules : (x : Seen) × ((see_all limit files none_seen ≡ some x) × (same_bits front x ≡ true))
    from_rules =
        let c = all_counts in
        let r = c.passes none_seen all_good (λ b l. let n = named_is b (omega arith) in let d = digit_most ((unpack front).bits b) in omega arith) in
        let k = (c.counts none_seen r.0 r.1).1 in
        (r.0, (r.1, same_bits_of front r.0 (λ b l. digit_same (r.0 b) ((unpack front).bits b) (let n = named_is b l in omega (arith, k b)))))

  -- THEOREM
  pub entries_formed_law : (unpack front).blocks ≤ 4096 → entries_formed front files ≡ (kinds_formed t && bits_formed (unpack t))
  unfolding entries_formed
  entries_formed_law most =
      same_test (entries_formed front files) (kinds_formed t && bits_formed (unpack t)) (go (see_all limit files none_seen) refl)
      (λ h. let r = from_rules most (and_left (kinds_formed t) _ h) (and_right (kinds_formed t) _ h) in ap (formed_by front) r.1.0 ∙ r.1.1)
    where
      go : (o : Option Seen) → see_all limit files none_seen ≡ o → formed_by front o ≡ true → (kinds_formed t && bits_formed (unpack t)) ≡ true
      go none e h = absurd (true≢false (sym h))
      go (some x) e h = to_rules x e h
