-- The calls that only look, on bytes. Assumes nothing.
use mathlib.Core.Bool.{not, true}
use mathlib.Core.List.{List, []}
use mathlib.Core.Path.{ap, refl, sym, ◌∙◌, ◌≡◌}
use Prim.Native.Nat.{◌<◌, ℕ}
use lib.ListN.{length}
use Rattle.base.specs.Count.{count}
use Rattle.calls.proofs.CallCases.{number_on, number_in}
use Rattle.calls.specs.Outcomes.{answer_meant, outcome}
use Rattle.looking.proofs.Outcome.{free_outcome, read_outcome, size_outcome, tells}
use Rattle.looking.specs.Read.{ReadDone}
use Rattle.rules.proofs.Whole.Accepted.{passed_size}
use Rattle.rules.specs.Calls.{Store, view_of}
use Rattle.rules.specs.Numbers.{Answer, conditions, lowest, number_of, read, tell_free, tell_size}
use Rattle.rules.specs.Reading.{size_by_reading}
use Rattle.rules.specs.State.{tree_of}
use Rattle.rules.specs.Storage.{real}
use Rattle.tables.specs.Calls.{call_on, looked_at, store_of}
use Rattle.tables.specs.Packed.{unpack, well_formed}
use Rattle.calls.specs.declared.answer.Answer as declared

-- telling the free blocks is never refused on well-formed tables
free_number : (st : Store real) → 0 ≡ number_of (view_of real true true st) tell_free
unfolding number_of conditions lowest
free_number st = refl

module _ (r : declared.Answer) (t p : List ℕ) (formed : well_formed t (length p) ≡ true) where
  -- SIZE
  pub size_as : (s f n : ℕ) → 0 ≡ number_in t p (tell_size s f) → answer_meant r ≡ tells n → n ≡ size_by_reading (tree_of (unpack t).sets) ((unpack t).files f) s
      → outcome r t p [] ≡ call_on (tell_size s f) t p
  size_as s f n z a e =
      ap (λ (x : Answer). looked_at x t p []) a ∙ sym (size_outcome t p s f n e (number_on t p (tell_size s f) refl formed z))

  -- FREE
  pub free_as : (n : ℕ) → answer_meant r ≡ tells n → n ≡ count (unpack t).blocks (λ b. not ((unpack t).bits b)) → outcome r t p [] ≡ call_on tell_free t p
  free_as n a e = ap (λ (x : Answer). looked_at x t p []) a ∙ sym (free_outcome t p n e (number_on t p tell_free refl formed (free_number (store_of t p))))

  -- READ
  pub read_as : (s f off : ℕ) (before after : List ℕ) → 0 ≡ number_in t p (read s f off before) → ReadDone t p s f off before after r.first r.second
      → (r.number ≡ 0) × (r.third ≡ 0) → outcome r t p after ≡ call_on (read s f off before) t p
  read_as s f off before after z d e =
      (λ i. looked_at (record { number = e.0 i; first = r.first; second = r.second; third = e.1 i }) t p after)
      ∙ sym (read_outcome t p s f off before after r.first r.second d (number_on t p (read s f off before) refl formed z))

-- what reading a file and its size ask for
pub look_requires : (t p : List ℕ) (s f : ℕ) → 0 ≡ number_in t p (tell_size s f) → (f < 16) × (s < 8)
look_requires t p s f z = let x = passed_size (view_of real true true (store_of t p)) s f (sym z) in (x.file, x.set.low)
