-- The invariant of whole lists of calls, and one step of it. Assumes nothing.
use mathlib.Core.Bool.{true}
use mathlib.Core.Path.{ap, refl, subst, sym, ◌∙◌, ◌≡◌}
use Prim.Native.Nat.{suc, zero, ℕ, ◌≤◌}
use Rattle.rules.proofs.Agreement.Agree.{Agree}
use Rattle.rules.proofs.Agreement.AgreeCalls.{Orderly, Plainly, accepted_plain}
use Rattle.rules.proofs.Formed.ModelFormed.{ModelFormed}
use Rattle.rules.proofs.Storages.CountCalls.{count_counted, count_number, count_of, forget, model_of}
use Rattle.rules.proofs.Storages.MapBlocks.{map_files}
use Rattle.rules.proofs.Storages.Model.{model}
use Rattle.rules.proofs.Tally.TallyNumbers.{Tallies, same_numbers}
use Rattle.rules.proofs.Tree.MakeSet.{make_same}
use Rattle.rules.proofs.Tree.RemoveSet.{remove_same}
use Rattle.rules.proofs.Tree.SetsOk.{proper_tree, root_alone_tree}
use Rattle.rules.proofs.Whole.Order.{InOrder, answer_tally, model_after, order_step, tallies_step, tally_orderly}
use Rattle.rules.specs.Calls.{Store, blank_memory, result_of, step, tree_in, view_of}
use Rattle.rules.specs.Numbers.{Call, number_of}
use Rattle.rules.specs.Plain.{Plain}
use Rattle.rules.specs.Storage.{free_blocks, real}
use Rattle.rules.specs.Tally.{Tally, both_as, both_step, judged}
use Rattle.rules.proofs.Formed.Shape.{size_most}

-- A store of B blocks in order, in agreement with a plain store and a tally: its model with the plain store, its count with the tally.
pub record Holds (B : ℕ) (r : Store real) (pl : Plain) (ta : Tally) : Type 0 where
  pub order : InOrder B r
  pub plainly : Plainly (model_of r) pl
  pub tallies : Tallies (count_of (model_of r)) ta

-- what the plain store asks of a model in order
pub orderly : (m : Store model) → ModelFormed m → Orderly m
orderly m v = record {
  proper = proper_tree m.sets v.sets_ok;
  files_ok = λ f. (v.files_ok f).ok;
  small = λ f s. size_most (tree_in model m) (m.files f) (v.files_ok f).shape s;
  unused = λ f s u. ((v.files_ok f).shape s).unused u;
}

module _ (B : ℕ) (some : 1 ≤ B) (r : Store real) (pl : Plain) (ta : Tally) (v : Holds B r pl ta) (c : Call) where
  m : Store model
  m = model_of r

  formed : ModelFormed (model_of r)
  formed = v.order.formed

  same_tree : pl.tree ≡ ta.tree
  same_tree = v.plainly.trees ∙ sym v.tallies.tree

  -- the number is the same on the model, and on plain store and tally
  number_model : number_of (judged pl ta) c ≡ number_of (view_of model true true m) c
  unfolding m
  number_model =
      same_numbers (count_of m) ta pl (tally_orderly m formed) v.tallies same_tree c
      ∙ count_number m (count_of m) (count_counted m) true true c

  plain_as : (n : ℕ) → number_of (view_of model true true m) c ≡ n → Plainly (result_of model n B c m).store (both_as n B c pl ta).plain
  unfolding result_of both_as m
  plain_as zero e =
      accepted_plain m pl v.plainly (orderly m formed) B (view_of model true true m) refl
      (λ s d w a. make_same m.sets formed.sets_ok s d w a.set.used a.new a.unused)
      (λ d a. remove_same m.sets formed.sets_ok d a.set.used a.not_root a.childless)
      root_alone_tree c e
  plain_as (suc n) e = v.plainly

  plain_after : Plainly (step model B c m).store (both_step B c pl ta).plain
  unfolding step both_step
  plain_after = rw number_model (plain_as (number_of (view_of model true true m) c) refl)

  pub holds_step : Holds B (step real (blank_memory B) c r).store (both_step B c pl ta).plain (both_step B c pl ta).tally
  unfolding m
  holds_step = record {
    order = order_step B some r v.order c;
    plainly = subst (λ x. Plainly x (both_step B c pl ta).plain) (model_after B some r v.order c) plain_after;
    tallies = tallies_step B some r v.order c pl ta v.tallies same_tree;
  }

  -- the answer is the one that plain store and tally give
  pub answer_step : (step real (blank_memory B) c r).answer ≡ (both_step B c pl ta).answer
  answer_step = answer_tally B some r v.order c pl ta v.tallies same_tree

-- A QUIET CHANGE: plain store and tally see the tree, the files with the bytes of their pages and the number of free blocks, no block numbers and no links
pub holds_quiet : (B : ℕ) (r r' : Store real) (pl : Plain) (ta : Tally) → Holds B r pl ta → InOrder B r' → tree_in real r' ≡ tree_in real r →
    ((f : ℕ) → (model_of r').files f ≡ (model_of r).files f) → free_blocks r'.memory ≡ free_blocks r.memory → Holds B r' pl ta
holds_quiet B r r' pl ta v o t fs n = record {
  order = o;
  plainly = record {
    trees = v.plainly.trees ∙ sym t;
    agree = λ f. subst (λ x. Agree (tree_in real r') x (pl.files f)) (sym (fs f)) (subst (λ x. Agree x ((model_of r).files f) (pl.files f)) (sym t) (v.plainly.agree f));
  };
  tallies = record {
    tree = v.tallies.tree ∙ sym t;
    files = λ f. v.tallies.files f ∙ ap (map_files forget) (sym (fs f));
    free = v.tallies.free ∙ sym n;
  };
}
