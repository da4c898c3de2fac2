-- Tables of the right length whose words are well formed: by each word, and by the tests of all words. Assumes nothing.
use mathlib.Core.Bool.{◌&&◌, true}
use mathlib.Core.List.{List}
use mathlib.Core.Path.{◌≡◌}
use Prim.Native.Nat.{ℕ}
use lib.Dec.{eqb}
use lib.ListN.{length}
use borrow.Author.Tests.{eq-eqb, eqb-true}
use Rattle.base.specs.Count.{all_at, all_of}
use Rattle.base.specs.Logic.{and_both, and_left, and_right}
use Rattle.packing.specs.Fields.{get_field}
use Rattle.rules.proofs.Formed.Tests.{files_at_law, files_of_law}
use Rattle.rules.specs.State.{page_count, set_count}
use Rattle.rules.specs.WellFormed.{all_files, all_pages, all_sets}
use Rattle.tables.specs.Layout.{entry_word, head_widths, head_word, header_widths, header_word, set_widths, set_word, table_bytes}
use Rattle.tables.specs.Packed.{entry_formed, fields_formed, kinds_formed}
use Rattle.tables.specs.Views.{PackedTables}

module _ (t : List ℕ) where
  -- the words from the tests
  pub packed_of : length t ≡ table_bytes → kinds_formed t ≡ true → fields_formed t ≡ true → PackedTables t
  unfolding kinds_formed fields_formed all_sets all_pages
  packed_of len kinds fields =
      let a = eqb (get_field header_widths (header_word t) 2) 0 in
      let b = all_sets (λ s. eqb (get_field set_widths (set_word t s) 6) 0) in
      let c = all_files (λ f s. eqb (get_field head_widths (head_word t f s) 2) 0) in
      record {
        len = len;
        header_ok = eqb-true (get_field header_widths (header_word t) 2) 0 (and_left a b (and_left (a && b) c fields));
        set_ok = λ s hs. eqb-true (get_field set_widths (set_word t s) 6) 0
            (all_at set_count (λ s. eqb (get_field set_widths (set_word t s) 6) 0) (and_right a b (and_left (a && b) c fields)) s hs);
        head_ok = λ f s hf hs. eqb-true (get_field head_widths (head_word t f s) 2) 0
            (files_at_law (λ f s. eqb (get_field head_widths (head_word t f s) 2) 0) (and_right (a && b) c fields) f s hf hs);
        entry_ok = λ f s p hf hs hp. all_at page_count (λ p. entry_formed t (entry_word t f s p))
            (files_at_law (λ f s. all_pages (λ p. entry_formed t (entry_word t f s p))) kinds f s hf hs) p hp;
      }

  -- the tests from the words
  pub kinds_formed_law : PackedTables t → kinds_formed t ≡ true
  unfolding kinds_formed all_pages
  kinds_formed_law h = files_of_law (λ f s. all_pages (λ p. entry_formed t (entry_word t f s p))) (λ f s hf hs.
      all_of page_count (λ p. entry_formed t (entry_word t f s p)) (λ p hp. h.entry_ok f s p hf hs hp))

  pub fields_formed_law : PackedTables t → fields_formed t ≡ true
  unfolding fields_formed all_sets
  fields_formed_law h =
      let a = eqb (get_field header_widths (header_word t) 2) 0 in
      let b = all_sets (λ s. eqb (get_field set_widths (set_word t s) 6) 0) in
      let c = all_files (λ f s. eqb (get_field head_widths (head_word t f s) 2) 0) in
      and_both (a && b) c
      (and_both a b (eq-eqb _ 0 h.header_ok) (all_of set_count (λ s. eqb (get_field set_widths (set_word t s) 6) 0) (λ s hs. eq-eqb _ 0 (h.set_ok s hs))))
      (files_of_law (λ f s. eqb (get_field head_widths (head_word t f s) 2) 0) (λ f s hf hs. eq-eqb _ 0 (h.head_ok f s hf hs)))
