-- A STORE IN ORDER: blocks, sets and files as well-formed tables have them, whatever calls made them. One call keeps it, and goes with the tally that the store shows. Assumes nothing.
use mathlib.Core.Bool.{false, true}
use mathlib.Core.Path.{ap, refl, subst, sym, ◌∙◌, ◌≡◌}
use Prim.Native.Nat.{suc, zero, ℕ, ◌≤◌}
use native.Mathlib.Omega.{arith}
use Rattle.base.specs.Logic.{and_both, test?}
use Rattle.rules.proofs.Blocks.RealCalls.{Stands, kept_format, step_same}
use Rattle.rules.proofs.Blocks.RealSim.{pages_seen}
use Rattle.rules.proofs.Blocks.RealStore.{RealKept}
use Rattle.rules.proofs.Formed.BitsFormed.{bits_formed_law, header_formed_law}
use Rattle.rules.proofs.Formed.FilesFormed.{StateOk, state_formed}
use Rattle.rules.proofs.Formed.FilesMapped.{map_formed, unmap_formed}
use Rattle.rules.proofs.Formed.FilesOfSets.{format_formed}
use Rattle.rules.proofs.Formed.ModelFormed.{ModelFormed, accepted_formed}
use Rattle.rules.proofs.Steps.Handing.{ProperTree}
use Rattle.rules.proofs.Storages.CountCalls.{Counted, CountedResult, count_counted, count_of, forget, model_stands, model_of, step_counted}
use Rattle.rules.proofs.Storages.Model.{counting, model}
use Rattle.rules.proofs.Storages.StoreSim.{Same}
use Rattle.rules.proofs.Tally.TallyCalls.{SameStep, SetsAfter, step_tallies}
use Rattle.rules.proofs.Tally.TallyNumbers.{Tallies, TallyOrderly}
use Rattle.rules.proofs.Tree.MakeSet.{make_same}
use Rattle.rules.proofs.Tree.RemoveSet.{remove_same}
use Rattle.rules.proofs.Tree.SetsOk.{format_sets, proper_tree}
use Rattle.rules.proofs.Whole.Accepted.{passed_make, passed_remove}
use Rattle.rules.specs.Calls.{Store, blank_memory, formatted, result_of, step, tables_of, tree_in, view_of}
use Rattle.rules.specs.Numbers.{Call, create, delete, format, make, number_of, read, remove, tell_free, tell_size, truncate, write}
use Rattle.rules.specs.Plain.{Plain}
use Rattle.rules.specs.Sets.{root_alone}
use Rattle.rules.specs.State.{tree_of}
use Rattle.rules.specs.Storage.{real}
use Rattle.rules.specs.Tally.{Tally, both_step}
use Rattle.rules.specs.WellFormed.{bits_formed, blocks_formed, header_formed, sets_formed}

-- a store of B blocks in order
pub record InOrder (B : ℕ) (r : Store real) : Type 0 where
  pub kept : RealKept B r
  pub formed : ModelFormed (model_of r)

-- a formatted store is
pub order_format : (B : ℕ) → 1 ≤ B → InOrder B (formatted real (blank_memory B))
unfolding formatted
order_format B l = record {
  kept = kept_format B l;
  formed = record { sets_ok = format_sets; files_ok = λ f. format_formed (tree_of root_alone); numbers = λ f s h. refl };
}

-- the model of a store is the only one that stands for it; the count of a model likewise
model_only : (r : Store real) (m : Store model) → Stands r m → m ≡ model_of r
model_only r m h = λ i. record { memory = h.memory i; sets = h.sets i; files = λ f. h.files f i }

count_only : (m : Store model) (k : Store counting) → Counted m k → k ≡ count_of m
count_only m k h = λ i. record { memory = h.memory i; sets = h.sets i; files = λ f. h.files f i }

-- what the tally asks of a model in order
pub tally_orderly : (m : Store model) → ModelFormed m → TallyOrderly (count_of m)
tally_orderly m v = record {
  proper = proper_tree m.sets v.sets_ok;
  shallow = v.sets_ok.highest;
  files_ok = λ f. (map_formed forget (tree_in model m) (m.files f) (v.files_ok f)).ok;
  small = λ f s. ((v.files_ok f).shape s).most;
}

-- the tree of sets after a call
sets_after : (m : Store model) → ModelFormed m → (c : Call) → number_of (view_of counting true true (count_of m)) c ≡ 0 → SetsAfter (count_of m) c
sets_after m v format h = tt
sets_after m v (create s f) h = tt
sets_after m v (write g s f off bs) h = tt
sets_after m v (read s f off buffer) h = tt
sets_after m v (truncate s f n) h = tt
sets_after m v (delete s f) h = tt
sets_after m v (make s c w) h =
    let a = passed_make (view_of counting true true (count_of m)) s c w h in
    make_same m.sets v.sets_ok s c w a.set.used a.new a.unused
sets_after m v (remove s) h =
    let a = passed_remove (view_of counting true true (count_of m)) s h in
    remove_same m.sets v.sets_ok s a.set.used a.not_root a.childless
sets_after m v (tell_size s f) h = tt
sets_after m v tell_free h = tt

module _ (B : ℕ) (some : 1 ≤ B) (r : Store real) (o : InOrder B r) (c : Call) where
  abbrev m : Store model
  m = model_of r

  proper : ProperTree (tree_in real r)
  proper = proper_tree r.sets o.formed.sets_ok

  real_model : Same pages_seen (RealKept B) (step real (blank_memory B) c r) (step model B c m)
  real_model = step_same B some r m o.kept.blocks o.kept.blocks_ok o.kept.pages_in (model_stands r) proper c

  model_count : CountedResult (step model B c m) (step counting B c (count_of m))
  model_count = step_counted B m (count_of m) (count_counted m) proper c

  formed_as : (n : ℕ) → number_of (view_of model true true m) c ≡ n → ModelFormed (result_of model n B c m).store
  unfolding result_of
  formed_as zero e = accepted_formed m o.formed B c e
  formed_as (suc n) e = o.formed

  -- the model after the call is that of the store after it
  pub model_after : (step model B c m).store ≡ model_of (step real (blank_memory B) c r).store
  model_after = model_only _ _ real_model.stands

  -- A CALL keeps the order
  pub order_step : InOrder B (step real (blank_memory B) c r).store
  order_step = record { kept = real_model.kept; formed = subst ModelFormed model_after (unfold step in formed_as _ refl) }

  -- and goes with a tally of the store
  module _ (pl : Plain) (ta : Tally) (h : Tallies (count_of m) ta) (e : pl.tree ≡ ta.tree) where
    count_tally : SameStep (step counting B c (count_of m)) (both_step B c pl ta)
    count_tally = step_tallies (count_of m) ta pl (tally_orderly m o.formed) h e B c (sets_after m o.formed c)

    pub tallies_step : Tallies (count_of (model_of (step real (blank_memory B) c r).store)) (both_step B c pl ta).tally
    tallies_step =
        subst (λ x. Tallies x (both_step B c pl ta).tally) (count_only _ _ model_count.counted ∙ ap count_of model_after) count_tally.tallies

    pub answer_tally : (step real (blank_memory B) c r).answer ≡ (both_step B c pl ta).answer
    answer_tally = sym (count_tally.answer ∙ model_count.answer ∙ real_model.answer)

module _ (B : ℕ) (r : Store real) (o : InOrder B r) where
  -- the bitmap has no one past the blocks
  pub no_bit : (b : ℕ) → B ≤ b → r.memory.bits b ≡ false
  no_bit b h = test? (r.memory.bits b)
      (λ e. let n = o.kept.blocks_ok.only b e in
      let u = o.kept.blocks_ok.used n.file n.set n.page b n.names in
      absurd (omega (arith, u.below, o.kept.blocks)))
      (λ e. e)

  -- the rules of well formed
  pub order_blocks : B ≤ 4096 → blocks_formed (tables_of r) ≡ true
  order_blocks most =
      let e = o.kept.blocks in
      and_both (header_formed (tables_of r)) (bits_formed (tables_of r)) (header_formed_law r o.kept.blocks_ok (omega (arith, e))) (bits_formed_law r o.kept.blocks_ok)

  pub order_state : StateOk (tables_of r)
  order_state = record {
    sets_ok = o.formed.sets_ok;
    files_ok = λ f. unmap_formed r.memory.pages (tree_in real r) (r.files f) (o.formed.files_ok f);
  }

  pub order_sets : sets_formed (tables_of r) ≡ true
  order_sets = state_formed (tables_of r) order_state
