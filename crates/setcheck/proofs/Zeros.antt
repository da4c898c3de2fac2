-- The rules on single set records, in the order of the code's tests. Assumes nothing.
use mathlib.Core.Bool.{false, true}
use mathlib.Core.List.{List}
use mathlib.Core.Path.{subst, sym, ◌≡◌}
use Prim.Native.Nat.{◌+◌, ◌<◌, ℕ}
use Rattle.base.specs.Count.{all, all_next, all_none, all_not}
use Rattle.base.specs.Logic.{and_both, and_false}
use Rattle.rules.specs.WellFormed.{all_sets}
use Rattle.setcheck.specs.Records.{record_formed, records_alone, set_zero}
use Rattle.tables.specs.Packed.{unpack}

-- the sets one after the other
module _ (t : List ℕ) where
  -- the sets below s have passed
  pub record ZerosTo (s : ℕ) : Type 0 where
    pub fields : all s (set_zero t) ≡ true
    pub unused : all s (record_formed (unpack t)) ≡ true

  pub zeros_start : ZerosTo 0
  zeros_start = record { fields = all_none (set_zero t); unused = all_none (record_formed (unpack t)) }

  module _ (s : ℕ) where
    pub zeros_field : s < 8 → false ≡ set_zero t s → false ≡ records_alone t
    unfolding records_alone all_sets
    zeros_field l h = rw (all_not 8 (set_zero t) s l (sym h))

    pub zeros_unused : s < 8 → false ≡ record_formed (unpack t) s → false ≡ records_alone t
    unfolding records_alone all_sets
    zeros_unused l h = rw (all_not 8 (record_formed (unpack t)) s l (sym h), and_false)

    pub zeros_next : ZerosTo s → true ≡ set_zero t s → true ≡ record_formed (unpack t) s → ZerosTo (s + 1)
    zeros_next z h k = record { fields = all_next (set_zero t) s z.fields (sym h); unused = all_next (record_formed (unpack t)) s z.unused (sym k) }

    pub zeros_all : ZerosTo s → s ≡ 8 → true ≡ records_alone t
    unfolding records_alone all_sets
    zeros_all z e =
        sym (and_both (all 8 (set_zero t)) (all 8 (record_formed (unpack t)))
        (subst (λ n. all n (set_zero t) ≡ true) e z.fields)
        (subst (λ n. all n (record_formed (unpack t)) ≡ true) e z.unused))
