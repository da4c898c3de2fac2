-- The rules of well formed tables that concern the header and the set records, set by set and together, and those that remain for
-- the file records. Document 01, "Packed tables"; document 02, Asks 8 and 10.
use Rattle.std.specs.Prelude.{◌&&◌, Bool, cond, not, ◌||◌, List, ℕ, eqb}
use Rattle.packing.specs.Fields.{get_field}
use Rattle.rules.specs.State.{Tables, is_absent}
use Rattle.rules.specs.WellFormed.{all_files, all_sets, chain_formed, files_formed, marks_formed, place_formed, term_formed, tree_formed, zero_file, zero_set}
use Rattle.tables.specs.Layout.{head_widths, head_word, header_widths, header_word, set_widths, set_word}
use Rattle.tables.specs.Packed.{unpack}

-- "Zero fields are zero": that of the header, that of a set record
abbrev pub header_zero : List ℕ → Bool
header_zero t = eqb (get_field header_widths (header_word t) 2) 0

abbrev pub set_zero : List ℕ → ℕ → Bool
set_zero t s = eqb (get_field set_widths (set_word t s) 6) 0

-- "Unused sets are all zero"; "of a used set, first below end and end at most 36,525": one set
unfoldable pub record_formed : Tables → ℕ → Bool
record_formed tb s = cond (tb.sets s).used (term_formed (tb.sets s).term) (zero_set (tb.sets s))

-- the rules of the tree for one set
unfoldable pub set_in_tree : Tables → ℕ → Bool
set_in_tree tb s = not (tb.sets s).used || (chain_formed tb s && (eqb s 0 || place_formed tb s))

-- the rules that look at one set record each
unfoldable pub records_alone : List ℕ → Bool
records_alone t = all_sets (set_zero t) && all_sets (record_formed (unpack t))

-- ALL RULES on set records
unfoldable pub set_records_formed : List ℕ → Bool
set_records_formed t = records_alone t && tree_formed (unpack t)

-- what `set_rules` says besides of the file records; of older tables `older_set_rules`, which has no rule on marked files
unfoldable pub file_records_formed : Bool → List ℕ → Bool
file_records_formed older t =
    all_files (λ f s. eqb (get_field head_widths (head_word t f s) 2) 0)
    && all_files (λ f s. not (is_absent ((unpack t).files f s).state) || zero_file ((unpack t).files f s))
    && all_files (λ f s. ((unpack t).sets s).used || is_absent ((unpack t).files f s).state)
    && files_formed (unpack t)
    && (older || marks_formed (unpack t))
