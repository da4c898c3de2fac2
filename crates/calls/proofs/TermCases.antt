-- The calls on terms, and the converter, on bytes: by their cases. Assumes nothing.
use mathlib.Core.Bool.{◌&&◌, Bool, cond, false, true}
use mathlib.Core.List.{List, []}
use mathlib.Core.Path.{◌≡◌, ap, refl, sym, ◌∙◌}
use mir.Val.{bool_byte}
use Prim.Native.Nat.{◌<◌, ℕ}
use lib.Dec.{eqb}
use lib.ListN.{length}
use Rattle.base.specs.Logic.{digit}
use Rattle.std.specs.Prelude.{Err, Result}
use Rattle.std.specs.Result.{IsErrAnd}
use Rattle.calls.proofs.CallCases.{passed}
use Rattle.calls.specs.Answered.{answered}
use Rattle.calls.specs.Outcomes.{answer_meant, outcome}
use Rattle.calls.specs.declared.answer.Counts.{Counts}
use Rattle.numbers.proofs.Told.{above_0}
use Rattle.numbers.specs.Refusals.{number}
use Rattle.numbers.specs.declared.refusal.Refusal.{Refusal}
use Rattle.numbers.specs.declared.refusal.Refusal.TheVariants.{NotWellFormed}
use Rattle.packing.specs.Words.{Bytes}
use Rattle.rules.specs.Calls.{view_of}
use Rattle.rules.specs.Numbers.{Answer, lowest, refusal}
use Rattle.rules.specs.State.{SetRecord, Term}
use Rattle.rules.specs.Storage.{real}
use Rattle.rules.specs.Terms.{count_fits, date_exists, is_current, term_from}
use Rattle.tables.proofs.FormedStore.{formed_store}
use Rattle.tables.proofs.TermCalls.{current_passed, current_refused, current_told, current_unformed, current_in, term_accepted, term_passed, term_refused, term_unformed, term_in}
use Rattle.tables.proofs.Written.{turns_pack}
use Rattle.tables.specs.Calls.{looked_at, store_of}
use Rattle.tables.specs.Convert.{cleared, convert_on, older_unpack, older_well_formed}
use Rattle.tables.specs.Layout.{table_bytes}
use Rattle.tables.specs.Packed.{pack, unpack, well_formed}
use Rattle.tables.specs.Terms.{current_on, put_term_in, set_term_on, told_or_refused}
use Rattle.tables.specs.Views.{PackedTables, Turns}
use Rattle.calls.specs.declared.answer.Answer as declared

-- SETTING A TERM that is refused
module _ (q : Result Counts Refusal) (x : Refusal) (h : IsErrAnd q (λ v. v ≡ x)) (t p : List ℕ) (s y m d k : ℕ) where
  pub term_unformed_as : (well_formed t (length p) ≡ false) × (x ≡ NotWellFormed) → outcome (answered q) t p [] ≡ set_term_on s y m d k t p
  term_unformed_as w =
      ap (λ (r : declared.Answer). outcome r t p []) (passed q x h ∙ ap (λ (v : Refusal). answered (Err v)) w.1) ∙ sym (term_unformed s y m d k t p w.0)

  pub term_refused_as : well_formed t (length p) ≡ true → number x ≡ lowest (term_in t p s y m d k) → outcome (answered q) t p [] ≡ set_term_on s y m d k t p
  term_refused_as f e =
      ap (λ (r : declared.Answer). outcome r t p []) (passed q x h) ∙ sym (term_refused s y m d k t p f (number x) e (above_0 x))

-- that is accepted
module _ (r : declared.Answer) (t p : List ℕ) (s y m d k : ℕ) where
  pub term_set_as : (t' : List ℕ) (x : Term) → well_formed t (length p) ≡ true → answer_meant r ≡ refusal 0 → Bytes t' → 0 ≡ lowest (term_in t p s y m d k)
      → x ≡ term_from y m d k → Turns t t' (put_term_in s x) → outcome r t' p [] ≡ set_term_on s y m d k t p
  term_set_as t' x f a bs z e w =
      (λ i. looked_at (a i) ((turns_pack t t' (put_term_in s x) bs w ∙ ap (λ (q : Term). pack (put_term_in s q (unpack t))) e) i) p [])
      ∙ sym (term_accepted s y m d k t p f z)

-- what a setting that is accepted asks for
module _ (t p : List ℕ) (s y m d k : ℕ) (f : well_formed t (length p) ≡ true) (z : 0 ≡ lowest (term_in t p s y m d k)) where
  pub from_requires : (date_exists y m d ≡ true) × (count_fits k ≡ true)
  from_requires = let q = term_passed (view_of real true true (store_of t p)) s y m d k (sym z) in (q.exists, q.fits)

  pub put_requires : PackedTables t × (s < 8)
  put_requires = ((formed_store t p f).packed, (term_passed (view_of real true true (store_of t p)) s y m d k (sym z)).low)

-- IS THE SET CURRENT, refused
module _ (q : Result Counts Refusal) (x : Refusal) (h : IsErrAnd q (λ v. v ≡ x)) (t p : List ℕ) (s day : ℕ) where
  pub current_unformed_as : (well_formed t (length p) ≡ false) × (x ≡ NotWellFormed) → outcome (answered q) t p [] ≡ current_on s day t p
  current_unformed_as w =
      ap (λ (r : declared.Answer). outcome r t p []) (passed q x h ∙ ap (λ (v : Refusal). answered (Err v)) w.1) ∙ sym (current_unformed s day t p w.0)

  pub current_refused_as : well_formed t (length p) ≡ true → number x ≡ lowest (current_in t p s) → outcome (answered q) t p [] ≡ current_on s day t p
  current_refused_as f e = ap (λ (r : declared.Answer). outcome r t p []) (passed q x h) ∙ sym (current_refused s day t p f (number x) e (above_0 x))

-- told
module _ (r : declared.Answer) (t p : List ℕ) (s day : ℕ) where
  pub current_as : (x : SetRecord) (n : ℕ) → well_formed t (length p) ≡ true → 0 ≡ lowest (current_in t p s) → x ≡ (unpack t).sets s → n ≡ digit (is_current x.term day)
      → answer_meant r ≡ record { number = 0; first = n; second = 0; third = 0 } → outcome r t p [] ≡ current_on s day t p
  unfolding told_or_refused
  current_as x n f z e q a =
      ap (λ (w : Answer). looked_at w t p []) (a ∙ ap (λ v. record { number = 0; first = v; second = 0; third = 0 }) (q ∙ ap (λ (w : SetRecord). digit (is_current w.term day)) e))
      ∙ sym (current_told s day t p f z)

-- the code's number of a Boolean
pub byte_digit : (b : Bool) → bool_byte b ≡ digit b
byte_digit true = refl
byte_digit false = refl

pub current_requires : (t p : List ℕ) (s : ℕ) → 0 ≡ lowest (current_in t p s) → s < 8
current_requires t p s z = current_passed (view_of real true true (store_of t p)) s (sym z)

-- THE CONVERTER; b is whether the tables were converted
module _ (r : declared.Answer) (old p second t' : List ℕ) (b : Bool) (e : b ≡ (older_well_formed old (length p) && eqb (length second) table_bytes))
    (w : t' ≡ cond b (pack (cleared (older_unpack old))) second) where
  pub convert_refused : b ≡ false → answer_meant r ≡ refusal 1 → outcome r t' p [] ≡ convert_on old p second
  unfolding convert_on
  convert_refused q a =
      (λ i. looked_at (a i) ((w ∙ ap (λ c. cond c (pack (cleared (older_unpack old))) second) q) i) p []) ∙ rw (← e, q)

  pub convert_done : b ≡ true → answer_meant r ≡ refusal 0 → outcome r t' p [] ≡ convert_on old p second
  unfolding convert_on
  convert_done q a =
      (λ i. looked_at (a i) ((w ∙ ap (λ c. cond c (pack (cleared (older_unpack old))) second) q) i) p []) ∙ rw (← e, q)
