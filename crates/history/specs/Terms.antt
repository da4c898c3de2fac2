-- TERMS ON BYTES. Document 02, Ask 8: what setting a term leaves, and that nothing else depends on it.
use Rattle.std.specs.Prelude.{true, ◌≡◌, ℕ, length}
use Rattle.base.specs.Logic.{digit}
use Rattle.history.specs.Image.{Image, gave, image_left}
use Rattle.packing.specs.Words.{Bytes}
use Rattle.rules.specs.Numbers.{Call, no_counts}
use Rattle.rules.specs.Terms.{is_current, term_from}
use Rattle.tables.specs.Packed.{unpack, well_formed}
use Rattle.tables.specs.Terms.{current_on, set_term_on}

-- the image after a term is set, from set, year, month, day and count of months
abbrev pub term_set : ℕ → ℕ → ℕ → ℕ → ℕ → Image → Image
term_set s y m d k i = image_left (set_term_on s y m d k i.tables i.pages)

-- of an accepted setting on an image i
pub record TermSet (i : Image) (s y m d k : ℕ) : Type 0 where
  pub formed : well_formed (term_set s y m d k i).tables (length i.pages) ≡ true
  -- the set is then current by the term that was set
  pub current : (day : ℕ) → (current_on s day (term_set s y m d k i).tables i.pages).answer
      ≡ record { number = 0; first = digit (is_current (term_from y m d k) day); second = 0; third = 0 }
  -- no other set's record changes
  pub others : (x : ℕ) → (s ≡ x → ⊥) → (unpack (term_set s y m d k i).tables).sets x ≡ (unpack i.tables).sets x
  -- "Reading does not depend on the term.": nor does the answer of any of the ten calls
  pub aside : (c : Call) → gave c (term_set s y m d k i) ≡ gave c i

-- of any well-formed bytes
abbrev pub TermSetClaim : Type 0
TermSetClaim =
    (i : Image) → Bytes i.tables → well_formed i.tables (length i.pages) ≡ true → (s y m d k : ℕ) → (set_term_on s y m d k i.tables i.pages).answer ≡ no_counts
    → TermSet i s y m d k
