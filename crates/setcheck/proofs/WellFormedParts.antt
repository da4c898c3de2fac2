-- How the rules on the header and on set records make up the rules of well formed tables, and what set records that pass them are.
-- Assumes nothing.
use mathlib.Core.Bool.{◌&&◌, Bool, cond, false, not, true, ◌||◌}
use mathlib.Core.List.{List}
use mathlib.Core.Path.{ap, ap₂, refl, sym, ◌∙◌, ◌≡◌}
use Prim.Native.Nat.{suc, zero, ℕ}
use lib.Dec.{eqb}
use lib.ListN.{length}
use Rattle.base.specs.Count.{all, all_more, all_none, all_same}
use Rattle.base.specs.Logic.{and_false, and_left, and_right, and_true}
use Rattle.packing.specs.Fields.{get_field}
use Rattle.rules.proofs.Tree.SetsFormed.{sets_formed_law}
use Rattle.rules.proofs.Tree.SetsOk.{SetsOk}
use Rattle.rules.specs.State.{is_absent}
use Rattle.rules.specs.WellFormed.{all_files, all_sets, bits_formed, files_formed, header_formed, marks_formed, older_sets_formed, pages_fit, term_formed, terms_formed, tree_formed, zero_file, zero_set, zeros_formed}
use Rattle.setcheck.specs.Records.{file_records_formed, header_zero, record_formed, records_alone, set_records_formed, set_zero}
use Rattle.tables.proofs.ReadParts.{set_default}
use Rattle.tables.specs.Layout.{head_widths, head_word, table_bytes}
use Rattle.tables.specs.Packed.{block_rules, fields_formed, kinds_formed, older_set_rules, set_rules, termed_well_formed, unpack, well_formed}

-- the parts of `set_rules` in another order
by_record : (a b c d e f g i h m : Bool) → (a && b && c && (d && e && f && g && i && h && m)) ≡ (a && (b && (d && i) && g) && (c && e && f && h && m))
by_record false b c d e f g i h m = refl
by_record true false c d e f g i h m = refl
by_record true true false d e f g i h m = sym (and_false (d && i && g))
by_record true true true false e f g i h m = refl
by_record true true true true false f g i h m = sym (and_false (i && g))
by_record true true true true true false g i h m = sym (and_false (i && g))
by_record true true true true true true false false h m = refl
by_record true true true true true true false true h m = refl
by_record true true true true true true true false h m = refl
by_record true true true true true true true true h m = refl

in_pairs : (a b c d : Bool) → ((a && b) && (c && d)) ≡ ((a && c) && (b && d))
in_pairs false b c d = refl
in_pairs true false false d = refl
in_pairs true false true d = refl
in_pairs true true false d = refl
in_pairs true true true d = refl

all_both : (n : ℕ) (f g : ℕ → Bool) → (all n f && all n g) ≡ all n (λ s. f s && g s)
all_both zero f g = rw (all_none f, all_none g, all_none (λ s. f s && g s))
all_both (suc n) f g =
    ap₂ ◌&&◌ (all_more n f) (all_more n g) ∙ in_pairs (f n) (all n f) (g n) (all n g) ∙ ap (λ x. f n && g n && x) (all_both n f g) ∙ sym (all_more n (λ s. f s && g s))

-- a rule on unused sets and one on used sets are one rule on all
used_or_not : (u z t : Bool) → ((u || z) && (not u || t)) ≡ cond u t z
used_or_not true z t = refl
used_or_not false z t = and_true z

both_rules : (n : ℕ) (u z t : ℕ → Bool) → (all n (λ s. u s || z s) && all n (λ s. not (u s) || t s)) ≡ all n (λ s. cond (u s) (t s) (z s))
both_rules n u z t = all_both n (λ s. u s || z s) (λ s. not (u s) || t s) ∙ all_same n _ _ (λ s l. used_or_not (u s) (z s) (t s))

-- the parts of `block_rules` in another order
header_first : (l k f b : Bool) → (l && k && (f && b)) ≡ (l && f && (k && b))
header_first false k f b = refl
header_first true false f b = sym (and_false f)
header_first true true f b = refl

module _ (t : List ℕ) where
  -- LAW: the rules on single set records are those of `fields_formed` and `zeros_formed`, and that on terms
  alone_say : records_alone t ≡ (all_sets (set_zero t) && (all_sets (λ s. ((unpack t).sets s).used || zero_set ((unpack t).sets s)) && terms_formed (unpack t)))
  unfolding records_alone record_formed terms_formed all_sets
  alone_say =
      ap (λ x. all_sets (set_zero t) && x)
      (sym (both_rules 8 (λ s. ((unpack t).sets s).used) (λ s. zero_set ((unpack t).sets s)) (λ s. term_formed ((unpack t).sets s).term)))

  -- those on file records, where m is the rule on marked files
  abbrev files_with : Bool → Bool
  files_with m =
      all_files (λ f s. eqb (get_field head_widths (head_word t f s) 2) 0)
      && all_files (λ f s. not (is_absent ((unpack t).files f s).state) || zero_file ((unpack t).files f s))
      && all_files (λ f s. ((unpack t).sets s).used || is_absent ((unpack t).files f s).state)
      && files_formed (unpack t)
      && m

  parts_with : (m : Bool) → (fields_formed t && (older_sets_formed (unpack t) && m)) ≡ (header_zero t && set_records_formed t && files_with m)
  unfolding fields_formed zeros_formed set_records_formed
  parts_with m =
      by_record (header_zero t) (all_sets (set_zero t)) (all_files (λ f s. eqb (get_field head_widths (head_word t f s) 2) 0))
      (all_sets (λ s. ((unpack t).sets s).used || zero_set ((unpack t).sets s)))
      (all_files (λ f s. not (is_absent ((unpack t).files f s).state) || zero_file ((unpack t).files f s)))
      (all_files (λ f s. ((unpack t).sets s).used || is_absent ((unpack t).files f s).state))
      (tree_formed (unpack t))
      (terms_formed (unpack t))
      (files_formed (unpack t))
      m
      ∙ ap (λ x. header_zero t && (x && tree_formed (unpack t)) && files_with m) (sym alone_say)

  -- LAW: the rules on zero fields, sets and files are those on the header's zero field, on set records and on file records
  set_rules_parts : (older : Bool) → cond older (older_set_rules t) (set_rules t) ≡ (header_zero t && set_records_formed t && file_records_formed older t)
  unfolding set_rules older_set_rules file_records_formed
  set_rules_parts false = parts_with (marks_formed (unpack t))
  set_rules_parts true = ap (λ b. fields_formed t && b) (sym (and_true (older_sets_formed (unpack t)))) ∙ parts_with true

  -- LAW: the first part of the check is the length, the header, and then the entries and the bits
  pub block_rules_parts : block_rules t ≡ (eqb (length t) table_bytes && header_formed (unpack t) && (kinds_formed t && bits_formed (unpack t)))
  unfolding block_rules
  block_rules_parts = header_first (eqb (length t) table_bytes) (kinds_formed t) (header_formed (unpack t)) (bits_formed (unpack t))

  -- LAW: well formed, by the rules of today or of older tables, is the first part, the pages buffer's length, and then what concerns the header's zero field, set
  -- records and file records
  pub well_formed_parts : (older : Bool) (n : ℕ)
      → cond older (termed_well_formed t n) (well_formed t n) ≡ (block_rules t && pages_fit (unpack t) n && (header_zero t && set_records_formed t && file_records_formed older t))
  unfolding well_formed termed_well_formed
  well_formed_parts false n = ap (λ b. block_rules t && pages_fit (unpack t) n && b) (set_rules_parts false)
  well_formed_parts true n = ap (λ b. block_rules t && pages_fit (unpack t) n && b) (set_rules_parts true)

  -- set records that pass
  module _ (h : set_records_formed t ≡ true) where
    records_alone_law : (all_sets (set_zero t) ≡ true) × (all_sets (λ s. ((unpack t).sets s).used || zero_set ((unpack t).sets s)) ≡ true) × (terms_formed (unpack t) ≡ true)
    unfolding set_records_formed
    records_alone_law =
        let u = all_sets (λ s. ((unpack t).sets s).used || zero_set ((unpack t).sets s)) in
        let x = sym alone_say ∙ and_left (records_alone t) (tree_formed (unpack t)) h in
        let y = and_right (all_sets (set_zero t)) (u && terms_formed (unpack t)) x in
        (and_left (all_sets (set_zero t)) (u && terms_formed (unpack t)) x, and_left u (terms_formed (unpack t)) y, and_right u (terms_formed (unpack t)) y)

    records_tree : tree_formed (unpack t) ≡ true
    unfolding set_records_formed
    records_tree = and_right (records_alone t) (tree_formed (unpack t)) h

    -- LAW: the sets are a tree, as the rules take them to be
    pub records_sets : SetsOk (unpack t).sets
    records_sets = sets_formed_law (unpack t) (set_default t) records_tree records_alone_law.1 records_alone_law.2
