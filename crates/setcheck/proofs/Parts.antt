-- What the check of header and set records says of tables in two parts: it is told from the front, which has the header, the bitmap and the set records.
-- Assumes nothing.
use mathlib.Core.Bool.{◌&&◌, cond, false}
use mathlib.Core.List.{List, ◌++◌}
use mathlib.Core.Path.{ap, ap₂, refl, sym, ◌∙◌, ◌≡◌}
use Prim.Native.Nat.{ℕ}
use lib.Dec.{eqb}
use lib.ListN.{length}
use Rattle.base.specs.Count.{all_same}
use Rattle.packing.specs.Fields.{get_field}
use Rattle.rules.specs.State.{SetRecord, Tables, absent_file}
use Rattle.rules.specs.WellFormed.{all_sets, chain_ends, chain_formed, header_formed, pages_fit, place_formed, root_formed, term_formed, tree_formed, zero_set}
use Rattle.setcheck.specs.Records.{header_zero, record_formed, records_alone, set_records_formed, set_zero}
use Rattle.tables.proofs.Parts.{blocks_front, header_front, next_front, set_word_front, sets_front}
use Rattle.tables.specs.Layout.{files_at, header_widths, set_widths}
use Rattle.tables.specs.Packed.{unpack}

-- the rules on the tree look at the sets alone
abbrev sets_alone : (ℕ → SetRecord) → Tables
sets_alone sets = record { blocks = 0; next = 0; bits = λ b. false; sets = sets; files = λ f s. absent_file }

tree_sets : (tb : Tables) → tree_formed tb ≡ tree_formed (sets_alone tb.sets)
unfolding tree_formed root_formed chain_formed place_formed chain_ends
tree_sets tb = refl

module _ (front files : List ℕ) (len : length front ≡ files_at) where
  -- LAWS: the header
  pub header_part : header_formed (unpack (front ++ files)) ≡ header_formed (unpack front)
  unfolding header_formed
  header_part = rw (blocks_front front files len, next_front front files len)

  pub fit_part : (n : ℕ) → pages_fit (unpack (front ++ files)) n ≡ pages_fit (unpack front) n
  fit_part n = rw (blocks_front front files len)

  pub zero_part : header_zero (front ++ files) ≡ header_zero front
  zero_part = ap (λ w. eqb (get_field header_widths w 2) 0) (header_front front files len)

  -- LAW: the set records
  alone_part : records_alone (front ++ files) ≡ records_alone front
  unfolding records_alone record_formed all_sets
  alone_part = ap₂ ◌&&◌
      (all_same 8 (set_zero (front ++ files)) (set_zero front) (λ s l. ap (λ w. eqb (get_field set_widths w 6) 0) (set_word_front front files len s l)))
      (ap (λ (x : ℕ → SetRecord). all_sets (λ s. cond (x s).used (term_formed (x s).term) (zero_set (x s)))) (sets_front front files len))

  tree_part : tree_formed (unpack (front ++ files)) ≡ tree_formed (unpack front)
  tree_part = tree_sets (unpack (front ++ files)) ∙ ap (λ x. tree_formed (sets_alone x)) (sets_front front files len) ∙ sym (tree_sets (unpack front))

  pub records_part : set_records_formed (front ++ files) ≡ set_records_formed front
  unfolding set_records_formed
  records_part = ap₂ ◌&&◌ alone_part tree_part
