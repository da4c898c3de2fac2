-- A STORE IN ORDER THAT AGREES with a plain store and a tally, and is zero past the sizes, keeps the invariant with them, whatever calls led to it; and what keeps the
-- invariant is zero past the sizes. Assumes nothing.
use mathlib.Core.Bool.{true}
use mathlib.Core.List.{List}
use mathlib.Core.Option.{some}
use mathlib.Core.Path.{◌≡◌, sym, ◌∙◌}
use Prim.Native.Nat.{◌<◌, ℕ}
use native.Mathlib.Omega.{arith}
use lib.Dec.{ltb}
use lib.ListN.{get_or-eq_default, get_or, length}
use borrow.Author.Tests.{ltb-false, ltb-true}
use Rattle.base.specs.Logic.{test?}
use Rattle.rules.proofs.Agreement.Agree.{Agree}
use Rattle.rules.proofs.Agreement.AgreeCalls.{has_list}
use Rattle.rules.proofs.Steps.States.{live_present, live_unmarked}
use Rattle.rules.proofs.Storages.CountCalls.{count_of, model_of}
use Rattle.rules.proofs.Tally.TallyNumbers.{Tallies}
use Rattle.rules.proofs.Whole.Holds.{Holds}
use Rattle.rules.proofs.Whole.HoldsMeans.{byte_model, kind_of_law, size_model}
use Rattle.rules.proofs.Whole.Order.{InOrder}
use Rattle.rules.specs.Agreement.{Agrees, ZeroPast}
use Rattle.rules.specs.Calls.{Store, byte_by_reading, tree_in}
use Rattle.rules.specs.Plain.{Plain}
use Rattle.rules.specs.Reading.{size_by_reading}
use Rattle.rules.specs.State.{live}
use Rattle.rules.specs.Storage.{real}
use Rattle.rules.specs.Tally.{Tally}

module _ (B : ℕ) (r : Store real) (pl : Plain) (ta : Tally) where
  module _ (a : Agrees r pl ta) where
    size_of : (f s : ℕ) (l : List ℕ) → pl.files f s ≡ some l → live (r.files f s).state ≡ true → size_by_reading (tree_in real r) (r.files f) s ≡ length l
    size_of f s l e h = a.plain.size f s l e (live_unmarked (r.files f s).state h)

    byte_of : (f s : ℕ) (l : List ℕ) → pl.files f s ≡ some l → live (r.files f s).state ≡ true → (i : ℕ) → i < 32768 → byte_by_reading r s f i ≡ get_or l i 0
    byte_of f s l e h i b = test? (ltb i (length l))
        (λ q. a.plain.bytes f s l e (live_unmarked (r.files f s).state h) i (ltb-true i (length l) q))
        (λ q. let k = ltb-false i (length l) q in
        let z : get_or l i 0 ≡ 0 = get_or-eq_default l 0 k in
        a.past f s h i (omega (arith, size_of f s l e h, k)) b ∙ sym z)

    agree_of : (f : ℕ) → Agree (tree_in real r) ((model_of r).files f) (pl.files f)
    agree_of f = record {
      there = a.plain.present f;
      size = λ s l e h. sym (size_model r s f) ∙ size_of f s l e h;
      byte = λ s l e h i b. sym (byte_model r s f i) ∙ byte_of f s l e h i b;
    }

    tallies_of : Tallies (count_of (model_of r)) ta
    tallies_of = record {
      tree = a.tally.sets;
      files = λ f. λ i s. record {
        state = a.tally.state f s i;
        size = a.tally.size f s i;
        map = λ p. (a.tally.kind f s p ∙ sym (kind_of_law r.memory.pages ((r.files f s).map p))) i;
      };
      free = a.tally.free;
    }

    -- LAW
    pub holds_of : InOrder B r → Holds B r pl ta
    holds_of o = record { order = o; plainly = record { trees = a.plain.sets; agree = agree_of }; tallies = tallies_of }

  -- LAW: the other way
  module _ (v : Holds B r pl ta) where
    pub zero_past : ZeroPast r
    zero_past f s h i l b =
        let k = has_list (pl.files f s) ((v.plainly.agree f).there s ∙ live_present (r.files f s).state h) in
        let n = (v.plainly.agree f).size s k.0 k.1 h in
        let z : get_or k.0 i 0 ≡ 0 = get_or-eq_default k.0 0 (omega (arith, l, n, size_model r s f)) in
        byte_model r s f i ∙ (v.plainly.agree f).byte s k.0 k.1 h i b ∙ z
