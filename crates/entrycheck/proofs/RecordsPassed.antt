-- The pass over the file records as they stand in the tables: one record, the records so far, and what the whole pass says. Assumes nothing.
use mathlib.Core.Bool.{◌&&◌, Bool, false, true, true≢false}
use mathlib.Core.List.{List, ◌++◌}
use mathlib.Core.Option.{some}
use mathlib.Core.Path.{ap, refl, subst, sym, ◌∙◌, ◌≡◌}
use Prim.Native.Nat.{◌*◌, ◌+◌, ◌<◌, suc, zero, ℕ, ◌≤◌}
use native.Mathlib.Omega.{arith}
use lib.Dec.{ltb}
use lib.ListN.{get_or, length, length-set, set}
use lib.Seq.{get_or-set_other, set-get_or}
use borrow.Author.Tests.{ltb-false, ltb-true}
use Rattle.base.specs.Logic.{same?, test?}
use Rattle.entrycheck.proofs.EntriesFormed.{entries_formed_law}
use Rattle.entrycheck.proofs.Lists.{put_more}
use Rattle.entrycheck.proofs.MapEntries.{zero_map}
use Rattle.entrycheck.proofs.Through.{through_next, through_refused}
use Rattle.entrycheck.specs.Records.{AllAre, BlankFrom, EntriesSeen, RecordPassed, record_mask}
use Rattle.entrycheck.specs.Seeing.{MapRead, and_then, entries_formed, formed_by, map_in, none_seen, record_count, same_bits, see_all, see_map, through, through_more, through_none}
use Rattle.entrycheck.specs.declared.seeing.Masks.{Masks}
use Rattle.masks.proofs.PageMasks.{mask_same}
use Rattle.masks.specs.Pages.{entries_at, page_mask}
use Rattle.packing.specs.Bitmap.{bit_at}
use Rattle.packing.specs.Zeros.{zero_of, zero_bytes}
use Rattle.rules.specs.State.{Entry, file_count, is_stored, is_unmapped}
use Rattle.rules.specs.WellFormed.{bits_formed}
use Rattle.tables.proofs.Parts.{map_files}
use Rattle.tables.specs.Layout.{file_bytes, files_at, head_bytes}
use Rattle.tables.specs.Packed.{kinds_formed, unpack}

-- what is left where a rule does not hold
abbrev NotPassed : List ℕ → List ℕ → Bool → Type 0
NotPassed stored unmapped r = (r ≡ false) × AllAre record_count stored 0 × AllAre record_count unmapped 18446744073709551615

-- ---- one record
module _ (limit : ℕ) (files : List ℕ) (i : ℕ) where
  -- LAW: its entries have been looked at
  pub record_entries : (seen seen' stored unmapped : List ℕ) (m : Masks) → MapRead limit files (map_in i) seen seen' m
      → RecordPassed limit files i seen seen' stored (set stored i m.stored) unmapped (set unmapped i m.unmapped) true
  record_entries seen seen' stored unmapped m k = record {
    passes = k.passes;
    stored_is = λ o. ap (set stored i) k.stored_is;
    unmapped_is = λ o. ap (set unmapped i) k.unmapped_is;
  }

  -- LAW: its map is all zero
  pub record_blank : (seen : List ℕ) → length seen ≡ 512 → zero_bytes files (map_in i) 128 ≡ true → (stored unmapped : List ℕ) → get_or stored i 0 ≡ 0
      → get_or unmapped i 0 ≡ 18446744073709551615 → RecordPassed limit files i seen seen stored stored unmapped unmapped true
  record_blank seen len z stored unmapped a b =
      let k = zero_map limit files (map_in i) seen len z in
      record {
        passes = k.passes;
        stored_is = λ o. sym (set-get_or stored i 0) ∙ ap (set stored i) (a ∙ k.stored_is);
        unmapped_is = λ o. sym (set-get_or unmapped i 0) ∙ ap (set unmapped i) (b ∙ k.unmapped_is);
      }

-- ---- the masks of the first i records, by one test; those of the others are v, as they were
pub record MasksTo (test : Entry ℕ → Bool) (files l : List ℕ) (v i : ℕ) : Type 0 where
  pub len : length l ≡ record_count
  pub are : (x : ℕ) → x < i → get_or l x 0 ≡ record_mask test files x
  pub rest : (x : ℕ) → i ≤ x → x < record_count → get_or l x 0 ≡ v

module _ (test : Entry ℕ → Bool) (files l : List ℕ) (v : ℕ) where
  masks_start : AllAre record_count l v → MasksTo test files l v 0
  masks_start a = record { len = a.0; are = λ x h. absurd (omega arith); rest = λ x h m. a.1 x m }

  module _ (i : ℕ) (k : MasksTo test files l v i) where
    masks_next : i < record_count → (l' : List ℕ) → l' ≡ set l i (record_mask test files i) → MasksTo test files l' v (i + 1)
    masks_next h l' e = record {
      len = ap length e ∙ length-set l i (record_mask test files i) ∙ k.len;
      are = λ x m. ap (λ z. get_or z x 0) e ∙ put_more l i (record_mask test files i) (record_mask test files) (omega (arith, k.len)) k.are refl x m;
      rest = λ x m n. ap (λ z. get_or z x 0) e ∙ get_or-set_other l i x (record_mask test files i) 0 (λ q. omega arith) ∙ k.rest x (omega arith) n;
    }

    masks_all : ((x : ℕ) → i ≤ x → x < record_count → v ≡ record_mask test files x) → (x : ℕ) → x < record_count → get_or l x 0 ≡ record_mask test files x
    masks_all e x h = test? (ltb x i) (λ q. k.are x (ltb-true x i q)) (λ q. let m = ltb-false x i q in k.rest x m h ∙ e x m h)

-- ---- the records so far
pub record RecordsPassed (limit : ℕ) (files seen stored unmapped : List ℕ) (i : ℕ) : Type 0 where
  pub passed : through i (λ i. see_map limit files (map_in i)) none_seen ≡ some (bit_at seen 0)
  pub len : length seen ≡ 512
  pub stored_to : MasksTo is_stored files stored 0 i
  pub unmapped_to : MasksTo is_unmapped files unmapped 18446744073709551615 i

module _ (limit : ℕ) (files : List ℕ) where
  -- LAW: no record yet
  pub records_start : (seen stored unmapped : List ℕ) → length seen ≡ 512 → bit_at seen 0 ≡ none_seen → AllAre record_count stored 0 → AllAre record_count unmapped 18446744073709551615
      → RecordsPassed limit files seen stored unmapped 0
  records_start seen stored unmapped len e a b = record {
    passed = through_none (λ i. see_map limit files (map_in i)) none_seen ∙ ap some (sym e);
    len = len;
    stored_to = masks_start is_stored files stored 0 a;
    unmapped_to = masks_start is_unmapped files unmapped 18446744073709551615 b;
  }

  module _ (seen stored unmapped : List ℕ) (i : ℕ) (k : RecordsPassed limit files seen stored unmapped i) where
    -- LAW: a record that passes
    pub records_next : i < record_count → (seen' stored' unmapped' : List ℕ) → RecordPassed limit files i seen seen' stored stored' unmapped unmapped' true
        → RecordsPassed limit files seen' stored' unmapped' (i + 1)
    records_next li seen' stored' unmapped' x = record {
      passed = through_next (λ i. see_map limit files (map_in i)) none_seen i seen seen' true k.passed x.passes refl;
      len = x.passes.len;
      stored_to = masks_next is_stored files stored 0 i k.stored_to li stored' (x.stored_is refl);
      unmapped_to = masks_next is_unmapped files unmapped 18446744073709551615 i k.unmapped_to li unmapped' (x.unmapped_is refl);
    }

    -- the records from i on are all zero
    module _ (n : ℕ) (b : BlankFrom files n) (e : i ≡ n * file_count) where
      zero_bytes_law : (x : ℕ) → i ≤ x → x < record_count → zero_bytes files (map_in x) 128 ≡ true
      zero_bytes_law x l h = zero_of files (map_in x) 128 (λ j m.
          let q : map_in x + j ≡ x * file_bytes + (j + head_bytes) = omega arith in
          ap (λ a. get_or files a 0) q ∙ b.zero x (j + head_bytes) (omega arith) h (omega arith))

      zero_here : (x : ℕ) → i ≤ x → x < record_count → MapRead limit files (map_in x) seen seen (record { stored = 0; unmapped = 18446744073709551615 })
      zero_here x l h = zero_map limit files (map_in x) seen k.len (zero_bytes_law x l h)

      passed_to : (x : ℕ) → i ≤ x → x ≤ record_count → through x (λ i. see_map limit files (map_in i)) none_seen ≡ some (bit_at seen 0)
      passed_to zero l h = let q : i ≡ 0 = omega arith in subst (λ y. through y (λ i. see_map limit files (map_in i)) none_seen ≡ some (bit_at seen 0)) q k.passed
      passed_to (suc x) l h = same? i (suc x)
          (λ q. subst (λ y. through y (λ i. see_map limit files (map_in i)) none_seen ≡ some (bit_at seen 0)) q k.passed)
          (λ q.
          through_more x (λ i. see_map limit files (map_in i)) none_seen ∙ ap (λ o. and_then o (see_map limit files (map_in x))) (passed_to x (omega arith) (omega arith))
          ∙ (zero_here x (omega arith) (omega arith)).passes.sees)

      all_stored : (x : ℕ) → x < record_count → get_or stored x 0 ≡ record_mask is_stored files x
      all_stored = masks_all is_stored files stored 0 i k.stored_to (λ x l h. (zero_here x l h).stored_is)

      all_unmapped : (x : ℕ) → x < record_count → get_or unmapped x 0 ≡ record_mask is_unmapped files x
      all_unmapped = masks_all is_unmapped files unmapped 18446744073709551615 i k.unmapped_to (λ x l h. (zero_here x l h).unmapped_is)

-- ---- what the pass over all records says of the tables
module _ (front files : List ℕ) (len : length front ≡ files_at) (limit : ℕ) (el : limit ≡ (unpack front).blocks) (most : (unpack front).blocks ≤ 4096) where
  abbrev t : List ℕ
  t = front ++ files

  by_limit : formed_by front (through record_count (λ i. see_map limit files (map_in i)) none_seen) ≡ (kinds_formed t && bits_formed (unpack t))
  unfolding entries_formed see_all
  by_limit = ap (λ n. formed_by front (through record_count (λ i. see_map n files (map_in i)) none_seen)) el ∙ entries_formed_law front files len most

  -- the masks of a record are those of its file
  mask_is : (test : Entry ℕ → Bool) (f s : ℕ) → f < 16 → s < 8 → record_mask test files (s * file_count + f) ≡ page_mask test ((unpack t).files f s).map
  mask_is test f s lf ls =
      mask_same test ((unpack t).files f s).map (entries_at files (map_in (s * file_count + f))) (λ p lp. ap test (sym (map_files front files len f s p lf ls lp)))

  -- a rule does not hold
  entries_refused : (stored unmapped : List ℕ) (r : Bool) → NotPassed stored unmapped r → false ≡ (kinds_formed t && bits_formed (unpack t)) → EntriesSeen t stored unmapped r
  entries_refused stored unmapped r n e = record {
    decided = n.0 ∙ e;
    masks = λ o. absurd (true≢false (sym o ∙ n.0));
    refused = λ o. (n.1, n.2);
  }

  module _ (seen stored unmapped : List ℕ) (i : ℕ) (k : RecordsPassed limit files seen stored unmapped i) where
    -- LAW: a record does not pass
    pub records_refused : i < record_count → (seen' stored' unmapped' : List ℕ) → RecordPassed limit files i seen seen' stored stored' unmapped unmapped' false
        → (stored⁺ unmapped⁺ : List ℕ) (r : Bool) → NotPassed stored⁺ unmapped⁺ r → EntriesSeen t stored⁺ unmapped⁺ r
    records_refused li seen' stored' unmapped' x stored⁺ unmapped⁺ r n =
        entries_refused stored⁺ unmapped⁺ r n
        (sym (ap (formed_by front) (through_refused (λ i. see_map limit files (map_in i)) none_seen i seen seen' false k.passed x.passes record_count li refl)) ∙ by_limit)

    -- all records have passed, and the bits decide
    bits_decide : (n : ℕ) → BlankFrom files n → i ≡ n * file_count → (m : Bool) → m ≡ same_bits front (bit_at seen 0) → m ≡ (kinds_formed t && bits_formed (unpack t))
    bits_decide n b e m q = q ∙ sym (ap (formed_by front) (passed_to limit files seen stored unmapped i k n b e record_count (omega (arith, b.most)) (omega arith))) ∙ by_limit

    -- LAW: the bits are others
    pub bits_refused : (n : ℕ) → BlankFrom files n → i ≡ n * file_count → false ≡ same_bits front (bit_at seen 0)
        → (stored⁺ unmapped⁺ : List ℕ) (r : Bool) → NotPassed stored⁺ unmapped⁺ r → EntriesSeen t stored⁺ unmapped⁺ r
    bits_refused n b e q stored⁺ unmapped⁺ r p = entries_refused stored⁺ unmapped⁺ r p (bits_decide n b e false q)

    -- LAW: they are the same
    pub records_done : (n : ℕ) → BlankFrom files n → i ≡ n * file_count → true ≡ same_bits front (bit_at seen 0) → EntriesSeen t stored unmapped true
    records_done n b e q = record {
      decided = bits_decide n b e true q;
      refused = λ o. absurd (true≢false o);
      masks = λ o. record {
        stored_len = k.stored_to.len;
        unmapped_len = k.unmapped_to.len;
        stored_at = λ f s lf ls. all_stored limit files seen stored unmapped i k n b e (s * file_count + f) (omega arith) ∙ mask_is is_stored f s lf ls;
        unmapped_at = λ f s lf ls. all_unmapped limit files seen stored unmapped i k n b e (s * file_count + f) (omega arith) ∙ mask_is is_unmapped f s lf ls;
      };
    }
