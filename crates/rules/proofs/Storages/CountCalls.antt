-- The model and the counting store go together through every call. Assumes nothing.
use mathlib.Core.Bool.{Bool}
use mathlib.Core.Path.{ap, refl, ◌≡◌}
use Prim.Native.Nat.{ℕ}
use Rattle.rules.proofs.Storages.CountSim.{bytes_forgotten, no_demands, to_count}
use Rattle.rules.proofs.Storages.MapBlocks.{map_files}
use Rattle.rules.proofs.Storages.Model.{counting, model}
use Rattle.rules.proofs.Blocks.RealCalls.{Stands}
use Rattle.rules.proofs.Storages.StoreSim.{Standing, StoreSim, calls_same, view_same}
use Rattle.rules.specs.Calls.{Result, Store, step, tree_in, view_of}
use Rattle.rules.specs.Numbers.{Call, number_of}
use Rattle.rules.specs.Storage.{free_blocks, real}
use Rattle.rules.proofs.Steps.Handing.{ProperTree}

-- THE MODEL AND THE COUNT: the bytes are forgotten
abbrev pub Counted : Store model → Store counting → Type 0
Counted m k = Standing bytes_forgotten m k

count_store : (B : ℕ) → StoreSim bytes_forgotten B B (λ (m : Store model). Unit {0})
count_store B = record {
  demands = λ m f s. no_demands;
  sim = λ m f s. to_count (tree_in model m) s;
  free = λ m k. refl;
  fresh_same = refl;
  kid = λ m f s p c l. tt;
  good_begin = λ m f s k. tt;
  frame = λ m f s w g j x p b n e. refl;
  kept_finish = λ m f s w k l u g d. tt;
  kept_format = tt;
  kept_create = λ m s f k u a. tt;
  kept_make = λ m s c w k l u. tt;
  kept_unlink = λ m c k o. tt;
}

pub count_number : (m : Store model) (k : Store counting) → Counted m k → (formed formats : Bool) (c : Call) →
    number_of (view_of counting formed formats k) c ≡ number_of (view_of model formed formats m) c
count_number m k h formed formats c = ap (λ v. number_of v c) (view_same bytes_forgotten m k h refl formed formats)

-- EVERY CALL: the answers are the same, and the stores go together again
pub record CountedResult (o : Result model) (o' : Result counting) : Type 0 where
  pub answer : o'.answer ≡ o.answer
  pub counted : Counted o.store o'.store

pub step_counted : (B : ℕ) (m : Store model) (k : Store counting) → Counted m k → ProperTree (tree_in model m) → (c : Call) → CountedResult (step model B c m) (step counting B c k)
step_counted B m k h p c = let q = calls_same (count_store B) m k h tt p c in record { answer = q.answer; counted = q.stands }

-- a block is forgotten
abbrev pub forget : {K : Type 0} → K → Unit {0}
forget b = tt

-- the model and the count of a store
abbrev pub model_of : Store real → Store model
model_of r = record { memory = free_blocks r.memory; sets = r.sets; files = λ f. map_files r.memory.pages (r.files f) }

pub model_stands : (r : Store real) → Stands r (model_of r)
model_stands r = record { sets = refl; memory = refl; files = λ f. refl }

abbrev pub count_of : Store model → Store counting
count_of m = record { memory = m.memory; sets = m.sets; files = λ f. map_files forget (m.files f) }

pub count_counted : (m : Store model) → Counted m (count_of m)
count_counted m = record { sets = refl; memory = refl; files = λ f. refl }
