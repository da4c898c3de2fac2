-- A call on bytes by its three cases: tables not well formed, refused, accepted. Assumes nothing.
use mathlib.Core.Bool.{Bool, false, true, true≢false}
use mathlib.Core.List.{List}
use mathlib.Core.Path.{ap, refl, sym, ◌∙◌, ◌≡◌}
use Prim.Native.Nat.{suc, zero, ℕ}
use lib.ListN.{length}
use Rattle.std.specs.Prelude.{Err, Result}
use Rattle.std.specs.Result.{IsErrAnd}
use Rattle.std.proofs.lemmas.Result.{err_from_is_err_and}
use Rattle.calls.specs.Answered.{answered}
use Rattle.calls.specs.Outcomes.{outcome}
use Rattle.calls.specs.declared.answer.Counts.{Counts}
use Rattle.numbers.proofs.Told.{above_0}
use Rattle.numbers.specs.Refusals.{number}
use Rattle.numbers.specs.declared.refusal.Refusal.{Refusal}
use Rattle.numbers.specs.declared.refusal.Refusal.TheVariants.{NotWellFormed}
use Rattle.rules.specs.Calls.{Store, view_of}
use Rattle.rules.specs.Numbers.{Call, View, conditions, create, delete, format, look_of, lowest, make, number_of, read, refusal, remove, tell_free, tell_size, truncate, write}
use Rattle.rules.specs.Storage.{real}
use Rattle.tables.specs.Calls.{accepted_on, buffer_in, call_on, looked_at, outcome_of, store_of, view_on}
use Rattle.tables.specs.Packed.{well_formed}
use Rattle.calls.specs.declared.answer.Answer as declared

-- the calls that need well-formed tables: all but format
abbrev pub on_store : Call → Bool
on_store format = false
on_store (create s f) = true
on_store (write g s f off bs) = true
on_store (read s f off buffer) = true
on_store (truncate s f n) = true
on_store (delete s f) = true
on_store (make s c w) = true
on_store (remove s) = true
on_store (tell_size s f) = true
on_store tell_free = true

-- the number on a store that is well formed
abbrev pub number_in : List ℕ → List ℕ → Call → ℕ
number_in t p c = number_of (view_of real true true (store_of t p)) c

-- "tables not well formed": number 1, and nothing changed
unformed_number : (v : View) (c : Call) → on_store c ≡ true → v.formed ≡ false → number_of v c ≡ 1
unfolding number_of conditions lowest
unformed_number v format o h = absurd (true≢false (sym o))
unformed_number v (create s f) o h = rw h refl
unformed_number v (write g s f off bs) o h = rw h refl
unformed_number v (read s f off buffer) o h = rw h refl
unformed_number v (truncate s f n) o h = rw h refl
unformed_number v (delete s f) o h = rw h refl
unformed_number v (make s c w) o h = rw h refl
unformed_number v (remove s) o h = rw h refl
unformed_number v (tell_size s f) o h = rw h refl
unformed_number v tell_free o h = rw h refl

-- only a format looks at the lengths that it needs
formed_number : (a b : Bool) (st : Store real) (c : Call) → on_store c ≡ true → a ≡ true → number_of (view_of real a b st) c ≡ number_of (view_of real true true st) c
unfolding number_of conditions
formed_number a b st format o h = absurd (true≢false (sym o))
formed_number a b st (create s f) o h = rw h refl
formed_number a b st (write g s f off bs) o h = rw h refl
formed_number a b st (read s f off buffer) o h = rw h refl
formed_number a b st (truncate s f n) o h = rw h refl
formed_number a b st (delete s f) o h = rw h refl
formed_number a b st (make s c w) o h = rw h refl
formed_number a b st (remove s) o h = rw h refl
formed_number a b st (tell_size s f) o h = rw h refl
formed_number a b st tell_free o h = rw h refl

module _ (t p : List ℕ) (c : Call) (o : on_store c ≡ true) where
  -- LAW: tables that are not well formed
  call_unformed : well_formed t (length p) ≡ false → call_on c t p ≡ looked_at (refusal 1) t p (buffer_in (look_of c))
  unfolding call_on outcome_of
  call_unformed h = ap (λ n. outcome_of n c t p) (unformed_number (view_on t p) c o h)

  module _ (formed : well_formed t (length p) ≡ true) where
    call_number : call_on c t p ≡ outcome_of (number_in t p c) c t p
    unfolding call_on
    call_number = ap (λ n. outcome_of n c t p) (formed_number (well_formed t (length p)) _ (store_of t p) c o formed)

    -- LAW: a refusal
    call_refused : (n : ℕ) → n ≡ number_in t p c → (n ≡ 0 → ⊥) → call_on c t p ≡ looked_at (refusal n) t p (buffer_in (look_of c))
    unfolding outcome_of
    call_refused zero e k = absurd (k refl)
    call_refused (suc n) e k = call_number ∙ ap (λ x. outcome_of x c t p) (sym e)

    -- LAW: an accepted call
    pub call_accepted : 0 ≡ number_in t p c → call_on c t p ≡ accepted_on c t p
    unfolding outcome_of
    call_accepted e = call_number ∙ ap (λ x. outcome_of x c t p) (sym e)

-- what `?` answers of a refusal
pub passed : (q : Result Counts Refusal) (e : Refusal) → IsErrAnd q (λ x. x ≡ e) → answered q ≡ answered (Err e)
passed q e h = let x = err_from_is_err_and q h in ap answered x.1 ∙ ap (λ (r : Refusal). answered (Err r)) x.2

-- the outcome after a refusal
module _ (q : Result Counts Refusal) (e : Refusal) (h : IsErrAnd q (λ x. x ≡ e)) (t p : List ℕ) (c : Call) (o : on_store c ≡ true) where
  pub unformed_as : (well_formed t (length p) ≡ false) × (e ≡ NotWellFormed) → outcome (answered q) t p (buffer_in (look_of c)) ≡ call_on c t p
  unformed_as k =
      ap (λ (r : declared.Answer). outcome r t p (buffer_in (look_of c))) (passed q e h ∙ ap (λ (r : Refusal). answered (Err r)) k.1) ∙ sym (call_unformed t p c o k.0)

  pub refused_as : well_formed t (length p) ≡ true → number e ≡ number_in t p c → outcome (answered q) t p (buffer_in (look_of c)) ≡ call_on c t p
  refused_as formed n =
      ap (λ (r : declared.Answer). outcome r t p (buffer_in (look_of c))) (passed q e h) ∙ sym (call_refused t p c o formed (number e) n (above_0 e))

-- the number of the call, of a store that is well formed
pub number_on : (t p : List ℕ) (c : Call) → on_store c ≡ true → well_formed t (length p) ≡ true → 0 ≡ number_in t p c → number_of (view_on t p) c ≡ 0
number_on t p c o formed e = formed_number (well_formed t (length p)) _ (store_of t p) c o formed ∙ sym e
