-- The first part of the check sees the length, B, next start, the bits and the words of the entries, and nothing else of the tables. Assumes nothing.
use mathlib.Core.Bool.{◌&&◌}
use mathlib.Core.List.{List, []}
use mathlib.Core.Path.{ap, ap₂, sym, ◌∙◌, ◌≡◌}
use Prim.Native.Nat.{◌<◌, ℕ}
use lib.Dec.{eqb}
use Rattle.base.specs.Count.{all_same, count_same}
use Rattle.base.specs.Logic.{digit}
use Rattle.rules.proofs.Blocks.Sums.{sum_same}
use Rattle.rules.specs.WellFormed.{all_files, all_pages, bits_formed, block_below, header_formed, names, times_named}
use Rattle.tables.proofs.ReadParts.{read_map}
use Rattle.tables.specs.Checks.{BlocksAloneClaim, SameBlocks, check_answer}
use Rattle.tables.specs.Layout.{read_entry, table_bytes}
use Rattle.tables.specs.Packed.{block_rules, entry_formed, kinds_formed, unpack}

module _ (t t' : List ℕ) (k : SameBlocks t t') where
  same_map : (f s p : ℕ) → f < 16 → s < 8 → p < 64 → ((unpack t).files f s).map p ≡ ((unpack t').files f s).map p
  same_map f s p lf ls lp = read_map t f s p lf ls lp ∙ ap read_entry (k.same_entries f s p lf ls lp) ∙ sym (read_map t' f s p lf ls lp)

  same_header : header_formed (unpack t) ≡ header_formed (unpack t')
  unfolding header_formed
  same_header = rw (k.same_blocks, k.same_next)

  same_kinds : kinds_formed t ≡ kinds_formed t'
  unfolding kinds_formed all_files all_pages
  same_kinds = all_same 8 _ _ (λ s ls. all_same 16 _ _ (λ f lf. all_same 64 _ _ (λ p lp. ap (entry_formed []) (k.same_entries f s p lf ls lp))))

  same_times : (b : ℕ) → times_named (unpack t) b ≡ times_named (unpack t') b
  unfolding times_named
  same_times b = sum_same 8 _ _ (λ s ls. sum_same 16 _ _ (λ f lf. count_same 64 _ _ (λ p lp. ap (names b) (same_map f s p lf ls lp))))

  same_bitmap : bits_formed (unpack t) ≡ bits_formed (unpack t')
  unfolding bits_formed all_files all_pages
  same_bitmap = ap₂ ◌&&◌
      (all_same 4096 _ _ (λ b l. ap₂ eqb (same_times b) (ap digit (k.same_bits b l))))
      (all_same 8 _ _ (λ s ls. all_same 16 _ _ (λ f lf. all_same 64 _ _ (λ p lp. ap₂ block_below k.same_blocks (same_map f s p lf ls lp)))))

  same_rules : block_rules t ≡ block_rules t'
  unfolding block_rules
  same_rules = ap₂ ◌&&◌ (ap₂ ◌&&◌ (ap (λ n. eqb n table_bytes) k.same_length) same_kinds) (ap₂ ◌&&◌ same_header same_bitmap)

-- THEOREM
pub blocks_alone : BlocksAloneClaim
blocks_alone t t' k = ap check_answer (same_rules t t' k)
