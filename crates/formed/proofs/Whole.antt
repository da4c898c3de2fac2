-- The whole check: the rules on file records, number by number, the two parts of the check, and the order of the code's tests. Assumes nothing.
use mathlib.Core.Bool.{◌&&◌, Bool, cond, false, not, true, true≢false, ◌||◌}
use mathlib.Core.List.{List, ◌++◌}
use Rattle.std.specs.Prelude.{None, Some}
use mathlib.Core.Path.{refl, subst, sym, ◌∙◌, ◌≡◌}
use Prim.Native.Nat.{◌+◌, ◌<◌, ℕ, ◌≤◌}
use native.Mathlib.Omega.{arith}
use lib.Dec.{eqb}
use lib.ListN.{length}
use borrow.Author.Tests.{eq-eqb, eqb-true, ne_eqb}
use Rattle.base.specs.Count.{all, all_at, all_next, all_not, all_of}
use Rattle.base.specs.Logic.{and_both, and_left, and_right, same_test, same?}
use Rattle.entrycheck.specs.Records.{BlankFrom, EntriesSeen}
use Rattle.formed.specs.Files.{Falling, file_alone, file_linked, number_formed}
use Rattle.formed.specs.First.{FirstPassed}
use Rattle.formed.specs.Heads.{UnusedFrom}
use Rattle.packing.specs.Fields.{get_field}
use Rattle.rules.proofs.Tree.SetsOk.{SetsOk, used_below}
use Rattle.rules.proofs.Formed.Tests.{all_3, all_4, and_3, and_4, and_5, files_at_law, files_of_law, not_of, not_then, or_of, or_then}
use Rattle.rules.specs.State.{SetRecord, is_absent, is_marked}
use Rattle.rules.specs.WellFormed.{above_formed, all_files, bits_formed, files_formed, header_formed, marks_formed, pages_fit, past_formed, root_file_formed, size_formed, virgin_formed, zero_file}
use Rattle.setcheck.proofs.Parts.{fit_part, header_part, records_part, zero_part}
use Rattle.setcheck.proofs.WellFormedParts.{block_rules_parts, records_sets, well_formed_parts}
use Rattle.tables.proofs.FormedStore.{header_in}
use Rattle.tables.proofs.Parts.{whole_length}
use Rattle.setcheck.specs.Records.{file_records_formed, header_zero, set_records_formed}
use Rattle.tables.specs.Layout.{all_files_bytes, files_at, head_widths, head_word, table_bytes}
use Rattle.tables.specs.Packed.{block_rules, kinds_formed, termed_well_formed, unpack, well_formed}

-- ---- the rules on file records, all files of a number together
module _ (older : Bool) (t : List ℕ) where
  -- the rules, each for file f of set s
  abbrev zeros : ℕ → ℕ → Bool
  zeros f s = eqb (get_field head_widths (head_word t f s) 2) 0

  abbrev blank : ℕ → ℕ → Bool
  blank f s = not (is_absent ((unpack t).files f s).state) || zero_file ((unpack t).files f s)

  abbrev unused : ℕ → ℕ → Bool
  unused f s = ((unpack t).sets s).used || is_absent ((unpack t).files f s).state

  abbrev sized : ℕ → ℕ → Bool
  sized f s = size_formed ((unpack t).files f s)

  abbrev bare : ℕ → ℕ → Bool
  bare f s = virgin_formed ((unpack t).files f s)

  -- that on marked files
  abbrev empty : ℕ → ℕ → Bool
  empty f s = not (is_marked ((unpack t).files f s).state) || zero_file ((unpack t).files f s)

  abbrev rooted : ℕ → ℕ → Bool
  rooted f s = not (eqb s 0) || root_file_formed ((unpack t).files f s)

  -- what the rules on file records say, one rule after the other
  records_say : file_records_formed older t ≡ true
      → (all_files zeros ≡ true) × (all_files blank ≡ true) × (all_files unused ≡ true) × (all_files (λ f s. sized f s && bare f s) ≡ true)
      × (all 16 (λ f. root_file_formed ((unpack t).files f 0)) ≡ true) × (all_files (above_formed (unpack t)) ≡ true) × (all_files (past_formed (unpack t)) ≡ true)
      × ((older || all_files empty) ≡ true)
  unfolding file_records_formed files_formed marks_formed
  records_say h =
      let a = and_5 (all_files zeros) (all_files blank) (all_files unused) (files_formed (unpack t)) (older || all_files empty) h in
      let b = and_4 (all_files (λ f s. sized f s && bare f s)) (all 16 (λ f. root_file_formed ((unpack t).files f 0))) (all_files (above_formed (unpack t)))
      (all_files (past_formed (unpack t))) a.3 in
      (a.0, a.1, a.2, b.0, b.1, b.2, b.3, a.4)

  records_pass : all_files zeros ≡ true → all_files blank ≡ true → all_files unused ≡ true → all_files (λ f s. sized f s && bare f s) ≡ true
      → all 16 (λ f. root_file_formed ((unpack t).files f 0)) ≡ true → all_files (above_formed (unpack t)) ≡ true → all_files (past_formed (unpack t)) ≡ true
      → (older || all_files empty) ≡ true → file_records_formed older t ≡ true
  unfolding file_records_formed files_formed marks_formed
  records_pass a b c d e f g m =
      and_both (all_files zeros && all_files blank && all_files unused && files_formed (unpack t)) (older || all_files empty)
      (all_4 (all_files zeros) (all_files blank) (all_files unused) (files_formed (unpack t)) a b c
      (all_4 (all_files (λ f s. sized f s && bare f s)) (all 16 (λ f. root_file_formed ((unpack t).files f 0))) (all_files (above_formed (unpack t)))
      (all_files (past_formed (unpack t))) d e f g))
      m

  alone_say : (f s : ℕ) → file_alone t older f s ≡ true
      → (zeros f s ≡ true) × (blank f s ≡ true) × (unused f s ≡ true) × (sized f s ≡ true) × ((bare f s && (older || empty f s) && rooted f s) ≡ true)
  unfolding file_alone
  alone_say f s h = and_5 (zeros f s) (blank f s) (unused f s) (sized f s) (bare f s && (older || empty f s) && rooted f s) h

  alone_pass : (f s : ℕ) → zeros f s ≡ true → blank f s ≡ true → unused f s ≡ true → sized f s ≡ true → bare f s ≡ true → (older || empty f s) ≡ true → rooted f s ≡ true
      → file_alone t older f s ≡ true
  unfolding file_alone
  alone_pass f s a b c d e m g =
      and_both (zeros f s && blank f s && unused f s && sized f s) (bare f s && (older || empty f s) && rooted f s)
      (all_4 (zeros f s) (blank f s) (unused f s) (sized f s) a b c d)
      (all_3 (bare f s) (older || empty f s) (rooted f s) e m g)

  numbers_pass : file_records_formed older t ≡ true → all 16 (number_formed t older) ≡ true
  unfolding number_formed file_linked
  numbers_pass h =
      let r = records_say h in
      all_of 16 (number_formed t older) (λ f lf.
      and_both (all 8 (file_linked t f)) (all 8 (file_alone t older f))
      (all_of 8 (file_linked t f) (λ s ls.
      and_both (above_formed (unpack t) f s) (past_formed (unpack t) f s) (files_at_law (above_formed (unpack t)) r.5 f s lf ls) (files_at_law (past_formed (unpack t)) r.6 f s lf ls)))
      (all_of 8 (file_alone t older f) (λ s ls.
      let d : (sized f s && bare f s) ≡ true = files_at_law (λ f s. sized f s && bare f s) r.3 f s lf ls in
      alone_pass f s (files_at_law zeros r.0 f s lf ls) (files_at_law blank r.1 f s lf ls) (files_at_law unused r.2 f s lf ls) (and_left (sized f s) (bare f s) d) (and_right (sized f s) (bare f s) d)
      (or_of older (empty f s) (λ o. files_at_law empty (or_then older (all_files empty) r.7 o) f s lf ls))
      (not_of (eqb s 0) (root_file_formed ((unpack t).files f s)) (λ e.
      subst (λ x. root_file_formed ((unpack t).files f x) ≡ true) (sym (eqb-true s 0 e)) (all_at 16 (λ f. root_file_formed ((unpack t).files f 0)) r.4 f lf))))))

  module _ (h : all 16 (number_formed t older) ≡ true) (f s : ℕ) (lf : f < 16) (ls : s < 8) where
    alone_at : file_alone t older f s ≡ true
    unfolding number_formed
    alone_at = all_at 8 (file_alone t older f) (and_right (all 8 (file_linked t f)) (all 8 (file_alone t older f)) (all_at 16 (number_formed t older) h f lf)) s ls

    linked_at : (above_formed (unpack t) f s && past_formed (unpack t) f s) ≡ true
    unfolding number_formed file_linked
    linked_at = all_at 8 (file_linked t f) (and_left (all 8 (file_linked t f)) (all 8 (file_alone t older f)) (all_at 16 (number_formed t older) h f lf)) s ls

    parts_at : (zeros f s ≡ true) × (blank f s ≡ true) × (unused f s ≡ true) × (sized f s ≡ true) × (bare f s ≡ true) × ((older || empty f s) ≡ true) × (rooted f s ≡ true)
    parts_at =
        let a = alone_say f s alone_at in
        let b = and_3 (bare f s) (older || empty f s) (rooted f s) a.4 in
        (a.0, a.1, a.2, a.3, b.0, b.1, b.2)

  records_hold : all 16 (number_formed t older) ≡ true → file_records_formed older t ≡ true
  records_hold h =
      records_pass
      (files_of_law zeros (λ f s lf ls. (parts_at h f s lf ls).0))
      (files_of_law blank (λ f s lf ls. (parts_at h f s lf ls).1))
      (files_of_law unused (λ f s lf ls. (parts_at h f s lf ls).2))
      (files_of_law (λ f s. sized f s && bare f s) (λ f s lf ls. and_both (sized f s) (bare f s) (parts_at h f s lf ls).3 (parts_at h f s lf ls).4))
      (all_of 16 (λ f. root_file_formed ((unpack t).files f 0)) (λ f lf. not_then (eqb 0 0) (root_file_formed ((unpack t).files f 0)) (parts_at h f 0 lf (omega arith)).6 refl))
      (files_of_law (above_formed (unpack t)) (λ f s lf ls. and_left (above_formed (unpack t) f s) (past_formed (unpack t) f s) (linked_at h f s lf ls)))
      (files_of_law (past_formed (unpack t)) (λ f s lf ls. and_right (above_formed (unpack t) f s) (past_formed (unpack t) f s) (linked_at h f s lf ls)))
      (or_of older (all_files empty) (λ o. files_of_law empty (λ f s lf ls. or_then older (empty f s) (parts_at h f s lf ls).5 o)))

  -- LAW: the rules on file records, number by number
  records_are : file_records_formed older t ≡ all 16 (number_formed t older)
  records_are = same_test (file_records_formed older t) (all 16 (number_formed t older)) numbers_pass records_hold

-- ---- all numbers
module _ (older : Bool) (t : List ℕ) (f : ℕ) (k : all f (number_formed t older) ≡ true) where
  -- LAW: a number more
  pub numbers_next : true ≡ number_formed t older f → all (f + 1) (number_formed t older) ≡ true
  numbers_next e = all_next (number_formed t older) f k (sym e)

  -- LAW: a number that does not pass
  pub numbers_refused : f < 16 → false ≡ number_formed t older f → false ≡ file_records_formed older t
  numbers_refused l e = sym (records_are older t ∙ all_not 16 (number_formed t older) f l (sym e))

  -- LAW: 16 numbers
  pub numbers_done : f ≡ 16 → true ≡ file_records_formed older t
  numbers_done e = sym (records_are older t ∙ subst (λ n. all n (number_formed t older) ≡ true) e k)

-- ---- the tree of sets
falling : (sets : ℕ → SetRecord) → SetsOk sets → Falling sets
falling sets ok = record {
  falls = λ s n l e. (used_below sets ok (sets s).parent (ok.tree.above s n e), ok.tree.lower s n e);
  one_root = λ s l u e. same? s 0 (λ q. q) (λ q. absurd (omega (arith, e, ok.deep s u q)));
}

-- LAW: where the set records pass
pub sets_falling : (t : List ℕ) → true ≡ set_records_formed t → Falling (unpack t).sets
sets_falling t e = falling (unpack t).sets (records_sets t (sym e))

-- LAW: where the header passes
pub blocks_most : (t : List ℕ) → true ≡ header_formed (unpack t) → (unpack t).blocks ≤ 4096
blocks_most t e = (header_in (unpack t) (sym e)).most

-- ---- tables of another length
module _ (t : List ℕ) (h : length t ≡ table_bytes → ⊥) where
  pub blocks_wrong : false ≡ block_rules t
  blocks_wrong = sym (block_rules_parts t ∙ rw (ne_eqb (length t) table_bytes h))

  pub whole_wrong : (n : ℕ) → false ≡ well_formed t n
  whole_wrong n = sym (well_formed_parts t false n ∙ rw (← blocks_wrong))

-- ---- the first part
module _ (front files stored unmapped : List ℕ) (len : length front ≡ files_at) (wide : length files ≡ all_files_bytes) where
  abbrev t : List ℕ
  t = front ++ files

  -- the length is right
  rules_are : block_rules t ≡ (header_formed (unpack front) && (kinds_formed t && bits_formed (unpack t)))
  rules_are = block_rules_parts t ∙ rw (eq-eqb (length t) table_bytes (whole_length front files len wide), header_part front files len)

  not_passed : false ≡ block_rules t → FirstPassed front files stored unmapped None
  not_passed e = record { decided = e; masks = λ o. absurd (true≢false (sym o)); blank = tt; unused = tt }

  -- LAW: the header does not pass
  pub first_header : false ≡ header_formed (unpack front) → FirstPassed front files stored unmapped None
  first_header h = not_passed (sym (rules_are ∙ rw (← h)))

  module _ (h : true ≡ header_formed (unpack front)) where
    -- LAW: it does, and the entries or the bits do not
    pub first_refused : EntriesSeen t stored unmapped false → FirstPassed front files stored unmapped None
    first_refused k = not_passed (k.decided ∙ sym (rules_are ∙ rw (← h)))

    -- LAW: all pass
    pub first_entries : (n : ℕ) → BlankFrom files n × UnusedFrom (unpack front).sets n → EntriesSeen t stored unmapped true → FirstPassed front files stored unmapped (Some n)
    first_entries n b k = record { decided = k.decided ∙ sym (rules_are ∙ rw (← h)); masks = k.masks; blank = b.0; unused = b.1 }

-- ---- the whole check: the first part, the pages buffer's length, the header's zero field, the set records, the file records
module _ (older : Bool) (front files : List ℕ) (len : length front ≡ files_at) (n : ℕ) where
  abbrev formed : Bool
  formed = cond older (termed_well_formed (front ++ files) n) (well_formed (front ++ files) n)

  whole_parts : formed
      ≡ (block_rules (front ++ files) && pages_fit (unpack front) n && (header_zero front && set_records_formed front && file_records_formed older (front ++ files)))
  whole_parts = well_formed_parts (front ++ files) older n ∙ rw (fit_part front files len n, zero_part front files len, records_part front files len)

  pub whole_blocks : false ≡ block_rules (front ++ files) → false ≡ formed
  whole_blocks b = sym (whole_parts ∙ rw (← b))

  module _ (b : true ≡ block_rules (front ++ files)) where
    pub whole_pages : false ≡ pages_fit (unpack front) n → false ≡ formed
    whole_pages p = sym (whole_parts ∙ rw (← b, ← p))

    module _ (p : true ≡ pages_fit (unpack front) n) where
      pub whole_zero : false ≡ header_zero front → false ≡ formed
      whole_zero z = sym (whole_parts ∙ rw (← b, ← p, ← z))

      module _ (z : true ≡ header_zero front) where
        pub whole_sets : false ≡ set_records_formed front → false ≡ formed
        whole_sets s = sym (whole_parts ∙ rw (← b, ← p, ← z, ← s))

        pub whole_files : (r : Bool) → true ≡ set_records_formed front → r ≡ file_records_formed older (front ++ files) → r ≡ formed
        whole_files r s q = q ∙ sym (whole_parts ∙ rw (← b, ← p, ← z, ← s))
