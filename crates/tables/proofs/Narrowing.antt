-- Every well-formed tables whose terms are the default ones are made of old tables: the same without their terms. Assumes nothing.
use mathlib.Core.Bool.{Bool, cond, false, true}
use mathlib.Core.List.{List}
use mathlib.Core.Path.{◌≡◌, ap, refl, sym, ◌∙◌}
use Prim.Native.Nat.{◌%◌, ◌+◌, ◌-◌, ◌/◌, ◌<◌, ℕ}
use native.Mathlib.Omega.{arith}
use lib.Dec.{ltb}
use lib.ListN.{get_or, length}
use borrow.Author.Tests.{le-ltb, lt-ltb}
use Rattle.base.specs.Logic.{test?}
use Rattle.base.specs.Tabulate.{get_d_tab, length_tab, tab}
use Rattle.packing.specs.Words.{Bytes, byte, word_byte}
use Rattle.rules.specs.State.{SetRecord, no_term, set_count, unused_set}
use Rattle.rules.specs.Terms.{default_term, last_end}
use Rattle.tables.proofs.PackUnpack.{term_again}
use Rattle.tables.proofs.ReadParts.{read_set_law}
use Rattle.tables.proofs.Widening.{tab_bytes, used_is, widened_formed, widened_packs, word_moved}
use Rattle.tables.specs.Convert.{Widened, old_files_at, old_set_at, old_set_word, old_table_bytes, old_unpack, old_well_formed}
use Rattle.tables.specs.Layout.{all_files_bytes, files_at, read_set, set_at, set_word, sets_at, term_at, term_word, tree_bytes, write_term}
use Rattle.tables.specs.Packed.{pack, termed_well_formed, unpack}
use Rattle.tables.specs.Views.{PackedTables}

-- ---- the tables without their terms

abbrev narrowed_byte : List ℕ → ℕ → ℕ
narrowed_byte t i =
    cond (ltb i sets_at) (get_or t i 0)
    (cond (ltb i old_files_at) (get_or t (set_at ((i - sets_at) / tree_bytes) + (i - sets_at) % tree_bytes) 0)
    (get_or t (files_at + (i - old_files_at)) 0))

unfoldable pub narrowed : List ℕ → List ℕ
narrowed t = tab old_table_bytes (narrowed_byte t)

module _ (t : List ℕ) where
  at : (i : ℕ) → i < old_table_bytes → get_or (narrowed t) i 0 ≡ narrowed_byte t i
  unfolding narrowed
  at i h = get_d_tab old_table_bytes (narrowed_byte t) i 0 h

  pub narrowed_length : length (narrowed t) ≡ old_table_bytes
  unfolding narrowed
  narrowed_length = length_tab old_table_bytes (narrowed_byte t)

  front_is : (i : ℕ) → i < sets_at → get_or (narrowed t) i 0 ≡ get_or t i 0
  front_is i h = at i (omega arith) ∙ rw (lt-ltb i sets_at h)

  tree_is : (s j : ℕ) → s < set_count → j < tree_bytes → get_or (narrowed t) (old_set_at s + j) 0 ≡ get_or t (set_at s + j) 0
  tree_is s j h k =
      let i = old_set_at s + j in
      let a : (i - sets_at) / tree_bytes ≡ s = omega arith in
      let b : (i - sets_at) % tree_bytes ≡ j = omega arith in
      at i (omega arith) ∙ rw (le-ltb i sets_at (omega arith), lt-ltb i old_files_at (omega arith), a, b)

  files_are : (i : ℕ) → i < all_files_bytes → get_or (narrowed t) (old_files_at + i) 0 ≡ get_or t (files_at + i) 0
  files_are i h =
      let a : old_files_at + i - old_files_at ≡ i = omega arith in
      at (old_files_at + i) (omega arith) ∙ rw (le-ltb (old_files_at + i) sets_at (omega arith), le-ltb (old_files_at + i) old_files_at (omega arith), a)

  pub narrowed_bytes : Bytes t → Bytes (narrowed t)
  unfolding narrowed
  narrowed_bytes bs = tab_bytes old_table_bytes (narrowed_byte t) (λ i. test? (ltb i sets_at) (λ a. rw a (bs i))
      (λ a. test? (ltb i old_files_at) (λ b. rw (a, b) (bs _)) (λ b. rw (a, b) (bs _))))

-- ---- tables whose terms are the default ones

module _ (t : List ℕ) (bs : Bytes t) (n : ℕ) (p : PackedTables t) (blank : (s : ℕ) → ((unpack t).sets s).used ≡ false → (unpack t).sets s ≡ unused_set)
    (default : (s : ℕ) → ((unpack t).sets s).used ≡ true → ((unpack t).sets s).term ≡ default_term) where
  word_is : (s : ℕ) → s < set_count → old_set_word (narrowed t) s ≡ set_word t s
  word_is s h = word_moved t (narrowed t) bs 2 (old_set_at s) (set_at s) (λ j k. tree_is t s j h (omega arith))

  used_same : (s : ℕ) → s < set_count → ((old_unpack (narrowed t)).sets s).used ≡ ((unpack t).sets s).used
  unfolding read_set
  used_same s h =
      used_is (narrowed t) s h ∙ ap (λ w. (read_set w 0).used) (word_is s h) ∙ sym (ap (λ (r : SetRecord). r.used) (read_set_law t s h))

  default_word : write_term default_term ≡ last_end
  unfolding write_term
  default_word = refl

  no_word : write_term no_term ≡ 0
  unfolding write_term
  no_word = refl

  term_by : (s : ℕ) (u : Bool) → ((unpack t).sets s).used ≡ u → write_term ((unpack t).sets s).term ≡ cond u last_end 0
  term_by s true e = ap write_term (default s e) ∙ default_word
  term_by s false e = ap (λ (r : SetRecord). write_term r.term) (blank s e) ∙ no_word

  term_is : (s : ℕ) → s < set_count → term_word t s ≡ cond ((old_unpack (narrowed t)).sets s).used last_end 0
  term_is s h = sym (term_again t p bs s h) ∙ term_by s _ refl ∙ ap (λ u. cond u last_end 0) (sym (used_same s h))

  -- LAW
  pub is_narrowed : Widened (narrowed t) t
  is_narrowed = record {
    new_length = p.len;
    front = λ i h. sym (front_is t i h);
    tree = λ s j h k. sym (tree_is t s j h k);
    term = λ s j h k. sym (word_byte 3 t (term_at s) j bs (omega arith)) ∙ ap (λ w. byte 3 w j) (term_is s h);
    files = λ i h. sym (files_are t i h);
  }

  pub narrowed_formed : termed_well_formed t n ≡ true → (old_well_formed (narrowed t) n ≡ true) × (pack (old_unpack (narrowed t)) ≡ t)
  narrowed_formed f = (
    widened_formed (narrowed t) t (narrowed_bytes t bs) is_narrowed (narrowed_length t) n ∙ f,
    sym (widened_packs (narrowed t) t (narrowed_bytes t bs) is_narrowed bs n f),
  )
