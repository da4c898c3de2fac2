-- "A bit is 1 exactly when one stored entry names that block. No block is named twice, or is B or more": the tables of a store whose blocks are in order pass that test,
-- and a store whose tables pass it, and are empty out of range, has its blocks in order. Assumes nothing.
use mathlib.Core.Bool.{◌&&◌, Bool, cond, false, not, true, true≢false, ◌||◌}
use mathlib.Core.Path.{ap, fun_ext, refl, sym, ◌∙◌, ◌≡◌}
use Prim.Native.Nat.{◌<◌, ℕ, ◌≤◌}
use native.Mathlib.Omega.{arith}
use lib.Dec.{eqb, leb, ltb}
use borrow.Author.Tests.{eq-eqb, eqb-true, le-leb, leb-true, lt-ltb, ltb-false, ltb-true}
use Rattle.base.specs.Count.{all, all_at, all_of, sum}
use Rattle.base.specs.Logic.{and_both, and_left, and_right, digit, same?, test?}
use Rattle.rules.proofs.Blocks.GoodWork.{Used}
use Rattle.rules.proofs.Blocks.RealStore.{BlocksOk, Named, Placed, none_stored}
use Rattle.rules.proofs.Blocks.Sums.{count_sum, sum3, sum3_one, sum3_some, sum3_term, sum3_two, sum3_zero}
use Rattle.rules.proofs.Formed.Tests.{files_at_law, files_of_law}
use Rattle.rules.specs.Calls.{Store, tables_of}
use Rattle.rules.specs.State.{Entry, Tables, absent, hole, is_absent, is_unmapped, stored, unmapped}
use Rattle.rules.specs.Storage.{real}
use Rattle.rules.specs.WellFormed.{all_files, all_pages, all_sets, bits_formed, block_below, header_formed, names, times_named, zero_file, zero_set, zeros_formed}

-- does an entry name the block, as a number
abbrev hit : Tables → ℕ → ℕ → ℕ → ℕ → ℕ
hit tb b s f p = cond (names b ((tb.files f s).map p)) 1 0

times_sum : (tb : Tables) (b : ℕ) → times_named tb b ≡ sum3 8 16 64 (hit tb b)
unfolding times_named
times_sum tb b = ap (sum 8) (fun_ext (λ s. ap (sum 16) (fun_ext (λ f. count_sum 64 (λ p. names b ((tb.files f s).map p))))))

pub named_is : (b : ℕ) (e : Entry ℕ) → names b e ≡ true → e ≡ stored b
named_is b unmapped h = absurd (true≢false (sym h))
named_is b hole h = absurd (true≢false (sym h))
named_is b (stored c) h = ap stored (sym (eqb-true b c h))

pub is_named : (b : ℕ) (e : Entry ℕ) → e ≡ stored b → names b e ≡ true
is_named b e h = rw h (eq-eqb b b refl)

hit_yes : (tb : Tables) (b s f p : ℕ) → (tb.files f s).map p ≡ stored b → hit tb b s f p ≡ 1
hit_yes tb b s f p e = rw (is_named b ((tb.files f s).map p) e)

hit_no : (tb : Tables) (b s f p : ℕ) → ((tb.files f s).map p ≡ stored b → ⊥) → hit tb b s f p ≡ 0
hit_no tb b s f p n = test? (names b ((tb.files f s).map p)) (λ e. absurd (n (named_is b ((tb.files f s).map p) e))) (λ e. rw e)

hit_is : (tb : Tables) (b s f p : ℕ) → 0 < hit tb b s f p → (tb.files f s).map p ≡ stored b
hit_is tb b s f p l =
    test? (names b ((tb.files f s).map p)) (λ e. named_is b ((tb.files f s).map p) e)
    (λ e. absurd (let z : hit tb b s f p ≡ 0 = rw e in omega arith))

below_of : (n : ℕ) (e : Entry ℕ) → ((b : ℕ) → e ≡ stored b → b < n) → block_below n e ≡ true
below_of n unmapped h = refl
below_of n hole h = refl
below_of n (stored b) h = lt-ltb b n (h b refl)

below_is : (n : ℕ) (e : Entry ℕ) (b : ℕ) → block_below n e ≡ true → e ≡ stored b → b < n
below_is n e b h q = ltb-true b n (rw q at h)

digit_one : (x : Bool) → 0 < digit x → x ≡ true
digit_one true l = refl
digit_one false l = absurd (omega arith)

digit_most : (x : Bool) → digit x ≤ 1
digit_most true = omega arith
digit_most false = omega arith

-- FROM BLOCKS IN ORDER: the bitmap passes
module _ (r : Store real) (k : BlocksOk r) where
  place_low : (f s p b : ℕ) → (r.files f s).map p ≡ stored b → (f < 16) × (s < 8) × (p < 64)
  place_low f s p b e = (k.placed.file_low f s p b e, k.placed.set_low s (k.placed.lives f s (k.placed.present f s p b e)), k.placed.page_low f s p b e)

  times_right : (b : ℕ) → times_named (tables_of r) b ≡ digit (r.memory.bits b)
  times_right b =
      times_sum (tables_of r) b
      ∙ test? (r.memory.bits b)
      (λ o. let n = k.only b o in let l = place_low n.file n.set n.page b n.names in
      sum3_one 8 16 64 (hit (tables_of r) b) n.set n.file n.page l.1 l.0 l.2
      (λ s f p i j q d. hit_no (tables_of r) b s f p (λ e. let z = k.apart n.file f n.set s n.page p b n.names e in d z.1 z.0 z.2))
      ∙ hit_yes (tables_of r) b n.set n.file n.page n.names ∙ sym (ap digit o))
      (λ o. sum3_zero 8 16 64 (hit (tables_of r) b) (λ s f p i j q. hit_no (tables_of r) b s f p (λ e. true≢false (sym (k.used f s p b e).bit ∙ o))) ∙ sym (ap digit o))

  pub bits_formed_law : bits_formed (tables_of r) ≡ true
  unfolding bits_formed all_pages
  bits_formed_law =
      and_both _ _
      (all_of 4096 _ (λ b l. eq-eqb _ _ (times_right b)))
      (files_of_law _ (λ f s i j. all_of 64 _ (λ p l. below_of r.memory.blocks ((r.files f s).map p) (λ b e. (k.used f s p b e).below))))

  pub header_formed_law : r.memory.blocks ≤ 4096 → header_formed (tables_of r) ≡ true
  unfolding header_formed
  header_formed_law l =
      let n = k.next in
      and_both _ _ (and_both _ _ (le-leb 1 r.memory.blocks (omega arith)) (le-leb r.memory.blocks 4096 l)) (lt-ltb r.memory.next r.memory.blocks n)

-- TABLES THAT ARE EMPTY OUT OF RANGE: files from 16 on, sets from 8 on, pages from 64 on, bits from 4,096 on
pub record EmptyBeyond (tb : Tables) : Type 0 where
  pub file_map : (f s p : ℕ) → 16 ≤ f → (tb.files f s).map p ≡ unmapped
  pub set_map : (f s p : ℕ) → 8 ≤ s → (tb.files f s).map p ≡ unmapped
  pub page_map : (f s p : ℕ) → 64 ≤ p → (tb.files f s).map p ≡ unmapped
  pub bit : (b : ℕ) → 4096 ≤ b → tb.bits b ≡ false

module _ (r : Store real) (out : EmptyBeyond (tables_of r)) where
  -- an entry stands in range
  low_place : (f s p b : ℕ) → (r.files f s).map p ≡ stored b → (f < 16) × (s < 8) × (p < 64)
  low_place f s p b e = (
    test? (ltb f 16) (ltb-true f 16) (λ z. absurd (none_stored b (sym (out.file_map f s p (ltb-false f 16 z)) ∙ e))),
    test? (ltb s 8) (ltb-true s 8) (λ z. absurd (none_stored b (sym (out.set_map f s p (ltb-false s 8 z)) ∙ e))),
    test? (ltb p 64) (ltb-true p 64) (λ z. absurd (none_stored b (sym (out.page_map f s p (ltb-false p 64 z)) ∙ e))),
  )

  -- FROM A BITMAP THAT PASSES: used, apart, only
  module _ (most : r.memory.blocks ≤ 4096) (h : bits_formed (tables_of r) ≡ true) where
    times : (b : ℕ) → b < 4096 → sum3 8 16 64 (hit (tables_of r) b) ≡ digit (r.memory.bits b)
    unfolding bits_formed
    times b l = sym (times_sum (tables_of r) b) ∙ eqb-true _ _ (all_at 4096 _ (and_left _ _ h) b l)

    blocks_below : (f s p b : ℕ) → (r.files f s).map p ≡ stored b → b < r.memory.blocks
    unfolding bits_formed all_pages
    blocks_below f s p b e =
        let l = low_place f s p b e in
        below_is r.memory.blocks ((r.files f s).map p) b (all_at 64 _ (files_at_law _ (and_right (all 4096 _) _ h) f s l.0 l.1) p l.2) e

    formed_used : (f s p b : ℕ) → (r.files f s).map p ≡ stored b → Used r.memory b
    formed_used f s p b e =
        let l = low_place f s p b e in
        let n = blocks_below f s p b e in
        let t = times b (omega arith) in
        let z = hit_yes (tables_of r) b s f p e in
        let y = sum3_term 8 16 64 (hit (tables_of r) b) s f p l.1 l.0 l.2 in
        record { bit = digit_one (r.memory.bits b) (omega arith); below = n }

    formed_apart : (f f' s s' p p' b : ℕ) → (r.files f s).map p ≡ stored b → (r.files f' s').map p' ≡ stored b → (f ≡ f') × (s ≡ s') × (p ≡ p')
    formed_apart f f' s s' p p' b e e' =
        same? f f'
        (λ i. same? s s' (λ j. same? p p' (λ q. (i, j, q)) (λ q. absurd (twice (λ _ _ z. q z)))) (λ j. absurd (twice (λ z _ _. j z))))
        (λ i. absurd (twice (λ _ z _. i z)))
      where
        twice : (s ≡ s' → f ≡ f' → p ≡ p' → ⊥) → ⊥
        twice n =
            let l = low_place f s p b e in
            let l' = low_place f' s' p' b e' in
            let c = blocks_below f s p b e in
            let t = times b (omega arith) in
            let x = hit_yes (tables_of r) b s f p e in
            let x' = hit_yes (tables_of r) b s' f' p' e' in
            let y = sum3_two 8 16 64 (hit (tables_of r) b) s f p s' f' p' l.1 l.0 l.2 l'.1 l'.0 l'.2 n in
            let z = digit_most (r.memory.bits b) in
            omega arith

    formed_only : (b : ℕ) → r.memory.bits b ≡ true → Named r b
    formed_only b o =
        let l : b < 4096 = test? (ltb b 4096) (ltb-true b 4096) (λ z. absurd (true≢false (sym o ∙ out.bit b (ltb-false b 4096 z)))) in
        let t : sum3 8 16 64 (hit (tables_of r) b) ≡ 1 = times b l ∙ ap digit o in
        let x = sum3_some 8 16 64 (hit (tables_of r) b) (omega arith) in
        record { file = x.1; set = x.0; page = x.2; names = hit_is (tables_of r) b x.0 x.1 x.2 x.6 }

-- FROM TABLES THAT ARE WELL FORMED: blocks in order
pub record AbsentBeyond (tb : Tables) : Type 0 where
  pub file_state : (f s : ℕ) → 16 ≤ f → (tb.files f s).state ≡ absent
  pub set_state : (f s : ℕ) → 8 ≤ s → (tb.files f s).state ≡ absent
  pub set_used : (s : ℕ) → 8 ≤ s → (tb.sets s).used ≡ false

module _ (r : Store real) (out : EmptyBeyond (tables_of r)) (gone : AbsentBeyond (tables_of r)) where
  module _ (h : zeros_formed (tables_of r) ≡ true) where
    -- an absent file has only unmapped entries
    absent_none : (f s p b : ℕ) → is_absent (r.files f s).state ≡ true → (r.files f s).map p ≡ stored b → ⊥
    unfolding zeros_formed all_pages
    absent_none f s p b a e =
        let l = low_place r out f s p b e in
        let z : (not (is_absent (r.files f s).state) || zero_file (r.files f s)) ≡ true = files_at_law _ (and_right (all_sets _) _ (and_left _ _ h)) f s l.0 l.1 in
        let y : zero_file (r.files f s) ≡ true = rw a at z in
        let x : is_unmapped ((r.files f s).map p) ≡ true = all_at 64 _ (and_right (eqb (r.files f s).size 0) _ y) p l.2 in
        true≢false (sym x ∙ ap is_unmapped e)

    -- a present file stands in a used set
    present_used : (f s : ℕ) → is_absent (r.files f s).state ≡ false → (r.sets s).used ≡ true
    unfolding zeros_formed
    present_used f s e =
        let l : f < 16 = test? (ltb f 16) (ltb-true f 16) (λ z. absurd (true≢false (sym (ap is_absent (gone.file_state f s (ltb-false f 16 z))) ∙ e))) in
        let k : s < 8 = test? (ltb s 8) (ltb-true s 8) (λ z. absurd (true≢false (sym (ap is_absent (gone.set_state f s (ltb-false s 8 z))) ∙ e))) in
        let z : ((r.sets s).used || is_absent (r.files f s).state) ≡ true = files_at_law _
        (and_right (all_sets (λ s. (r.sets s).used || zero_set (r.sets s)) && all_files (λ f s. not (is_absent (r.files f s).state) || zero_file (r.files f s))) _ h) f s l k in
        test? (r.sets s).used (λ u. u) (λ u. absurd (true≢false (sym z ∙ rw (u, e))))

    placed_formed : Placed r
    placed_formed = record {
      file_low = λ f s p b e. (low_place r out f s p b e).0;
      page_low = λ f s p b e. (low_place r out f s p b e).2;
      present = λ f s p b e. test? (is_absent (r.files f s).state) (λ a. absurd (absent_none f s p b a e)) (λ a. a);
      lives = present_used;
      set_low = λ s u. test? (ltb s 8) (ltb-true s 8) (λ z. absurd (true≢false (sym u ∙ gone.set_used s (ltb-false s 8 z))));
    }

  pub blocks_formed_law : header_formed (tables_of r) ≡ true → bits_formed (tables_of r) ≡ true → zeros_formed (tables_of r) ≡ true → BlocksOk r
  unfolding header_formed
  blocks_formed_law h k z =
      let most : r.memory.blocks ≤ 4096 = leb-true r.memory.blocks 4096 (and_right (leb 1 r.memory.blocks) _ (and_left _ (ltb r.memory.next r.memory.blocks) h)) in
      record {
        next = ltb-true r.memory.next r.memory.blocks (and_right (leb 1 r.memory.blocks && leb r.memory.blocks 4096) _ h);
        used = formed_used r out most k;
        apart = formed_apart r out most k;
        only = formed_only r out most k;
        placed = placed_formed z;
      }
