-- What an accepted read, size and free are as calls on bytes. Assumes nothing.
use mathlib.Core.Bool.{not}
use mathlib.Core.List.{List, []}
use mathlib.Core.Path.{ap, sym, ◌∙◌, ◌≡◌}
use Prim.Native.Nat.{ℕ}
use Rattle.base.specs.Count.{count}
use Rattle.rules.specs.Calls.{accepted, read_looks}
use Rattle.rules.specs.Numbers.{Answer, Call, number_of, read, tell_free, tell_size}
use Rattle.rules.specs.Reading.{size_by_reading}
use Rattle.rules.specs.State.{tree_of}
use Rattle.rules.specs.Storage.{free_blocks}
use Rattle.tables.specs.Calls.{accepted_on, call_on, looked_at, outcome_of, view_on}
use Rattle.tables.specs.Packed.{unpack}
use Rattle.looking.specs.Read.{ReadDone}

-- the answer of a call that tells n
abbrev pub tells : ℕ → Answer
tells n = record { number = 0; first = n; second = 0; third = 0 }

-- a call that is not refused is accepted
pub accepted_call : (c : Call) (t p : List ℕ) → number_of (view_on t p) c ≡ 0 → call_on c t p ≡ accepted_on c t p
unfolding call_on outcome_of
accepted_call c t p e = ap (λ n. outcome_of n c t p) e

module _ (t p : List ℕ) (s f : ℕ) where
  module _ (off : ℕ) (before after : List ℕ) (bytes looks : ℕ) (h : ReadDone t p s f off before after bytes looks) (z : number_of (view_on t p) (read s f off before) ≡ 0) where
    -- LAW: what an accepted read leaves is the outcome of the call
    pub read_outcome : call_on (read s f off before) t p ≡ looked_at (record { number = 0; first = bytes; second = looks; third = 0 }) t p after
    unfolding accepted_on accepted
    read_outcome =
        let k = h.looked ∙ ap (read_looks (tree_of (unpack t).sets) ((unpack t).files f) s off) h.counted in
        accepted_call (read s f off before) t p z
        ∙ (λ i. looked_at (record { number = 0; first = sym h.counted i; second = sym k i; third = 0 }) t p (sym h.filled i))

  -- LAW: an accepted size
  pub size_outcome : (n : ℕ) → n ≡ size_by_reading (tree_of (unpack t).sets) ((unpack t).files f) s → number_of (view_on t p) (tell_size s f) ≡ 0
      → call_on (tell_size s f) t p ≡ looked_at (tells n) t p []
  unfolding accepted_on accepted
  size_outcome n e z = accepted_call (tell_size s f) t p z ∙ (λ i. looked_at (tells (sym e i)) t p [])

-- LAW: an accepted free
pub free_outcome : (t p : List ℕ) (n : ℕ) → n ≡ count (unpack t).blocks (λ b. not ((unpack t).bits b)) → number_of (view_on t p) tell_free ≡ 0
    → call_on tell_free t p ≡ looked_at (tells n) t p []
unfolding accepted_on accepted free_blocks
free_outcome t p n e z = accepted_call tell_free t p z ∙ (λ i. looked_at (tells (sym e i)) t p [])
