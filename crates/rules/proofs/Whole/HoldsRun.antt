-- The invariant of a formatted store; plain store and tally after a list of calls in two parts. Assumes nothing.
use mathlib.Core.Bool.{true≢false}
use mathlib.Core.List.{◌++◌, List, ◌∷◌, []}
use mathlib.Core.Path.{ap, refl, sym, ◌≡◌}
use Prim.Native.Nat.{ℕ, ◌≤◌}
use Rattle.rules.proofs.Whole.Holds.{Holds}
use Rattle.rules.proofs.Blocks.RealCalls.{fresh_free}
use Rattle.rules.proofs.Tree.SetsOk.{root_alone_tree}
use Rattle.rules.proofs.Whole.Order.{order_format}
use Rattle.rules.specs.Agreement.{both_give, both_given, both_run}
use Rattle.rules.specs.Calls.{blank_memory, formatted}
use Rattle.rules.specs.Numbers.{Call}
use Rattle.rules.specs.Plain.{Plain, plain_format}
use Rattle.rules.specs.Storage.{real}
use Rattle.rules.specs.Tally.{Tally, tally_format}

pub holds_start : (B : ℕ) → 1 ≤ B → Holds B (formatted real (blank_memory B)) plain_format (tally_format B)
unfolding formatted plain_format tally_format
holds_start B l = record {
  order = order_format B l;
  plainly = record {
    trees = sym root_alone_tree;
    agree = λ f. record { there = λ s. refl; size = λ s l e a. absurd (true≢false (sym a)); byte = λ s l e a i h. absurd (true≢false (sym a)) };
  };
  tallies = record { tree = sym root_alone_tree; files = λ f. refl; free = fresh_free B };
}

pub both_append : (B : ℕ) (cs ds : List Call) (pl : Plain) (ta : Tally) → both_run B (cs ++ ds) pl ta ≡ both_run B ds (both_run B cs pl ta).plain (both_run B cs pl ta).tally
unfolding both_run
both_append B [] ds pl ta = refl
both_append B (c ∷ cs) ds pl ta = both_append B cs ds _ _

pub given_append : (B : ℕ) (cs ds : List Call) (pl : Plain) (ta : Tally) → both_given B (cs ++ ds) pl ta ≡ both_given B cs pl ta ++ both_given B ds (both_run B cs pl ta).plain (both_run B cs pl ta).tally
unfolding both_run both_given
given_append B [] ds pl ta = refl
given_append B (c ∷ cs) ds pl ta = ap (λ xs. both_give B c pl ta ∷ xs) (given_append B cs ds _ _)
