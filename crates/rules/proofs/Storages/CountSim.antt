-- The counting storage stands for the model: nothing is asked. Assumes nothing.
use mathlib.Core.Bool.{Bool, cond}
use mathlib.Core.List.{List, ◌∷◌, []}
use mathlib.Core.Path.{ap, refl, ◌∙◌, ◌≡◌}
use Prim.Native.Nat.{ℕ}
use Rattle.rules.proofs.Storages.MapBlocks.{map_entry, map_files}
use Rattle.rules.proofs.Storages.Model.{counting, model}
use Rattle.rules.proofs.Storages.Sim.{Demands, Sim, Translation}
use Rattle.rules.specs.Rules.{each, free_entry, free_map, free_sets, from}
use Rattle.rules.specs.State.{Entry, Files, Tree, hole, stored, unmapped}
use Rattle.rules.specs.Storage.{PageData}

-- a block's bytes are forgotten, the number of free blocks stays
abbrev pub bytes_forgotten : Translation model counting
bytes_forgotten = record { block = λ m b. tt; memory = λ m. m; page = λ x. tt }

abbrev pub no_demands : Demands model
no_demands = record { Good = λ w. Unit {0}; Kid = λ c. Unit {0}; Whole = λ v. Unit {0} }

free_kind : (e : Entry PageData) (m : ℕ) → free_entry model e m ≡ free_entry counting (map_entry (λ (b : PageData). tt) e) m
unfolding free_entry
free_kind unmapped m = refl
free_kind hole m = refl
free_kind (stored b) m = refl

each_kinds : {A : Type 0} (f g : A → ℕ → ℕ) → ((x : A) (n : ℕ) → f x n ≡ g x n) → (xs : List A) (n : ℕ) → each f xs n ≡ each g xs n
unfolding each
each_kinds f g h [] n = refl
each_kinds f g h (x ∷ xs) n = ap (each f xs) (h x n) ∙ each_kinds f g h xs (g x n)

free_sets_kind : (t : Tree) (passes : ℕ → Bool) (files : Files PageData) (m : ℕ) → free_sets model t passes files m ≡ free_sets counting t passes (map_files (λ (b : PageData). tt) files) m
unfolding free_sets free_map
free_sets_kind t passes files m =
    each_kinds _ _ (λ x n. ap (λ y. cond (passes x) y n) (each_kinds _ _ (λ p k. free_kind ((files x).map p) k) (from 0 64) n)) (from 0 8) m

pub to_count : (t : Tree) (s : ℕ) → Sim model counting bytes_forgotten no_demands t s
to_count t s = record {
  free = λ w g. refl;
  get = λ m b. refl;
  zeros = refl;
  over = λ off bs p x. refl;
  cut = λ n x. refl;
  whole_get = λ w g b. tt;
  whole_zeros = tt;
  whole_over = λ off bs p x o. tt;
  whole_cut = λ n x o. tt;
  good_settle = λ c w g. tt;
  good_mark = λ c p w g n k. tt;
  mark_mem = λ c p w g n k. free_sets_kind t _ w.files w.memory;
  mark_old = λ passes files m b. refl;
  good_hole = λ c p w g n. tt;
  good_resize = λ n w g. tt;
  good_reserve = λ p w g o f. tt;
  take_free = λ w g f. refl;
  take_mem = λ w g f. refl;
  take_old = λ w g b. refl;
  good_copy = λ b c p w g f n k e. tt;
  copy_mem = λ b w g f. refl;
  copy_new = λ b w g f. refl;
  copy_old = λ b w g f x q b' h. refl;
  good_hand = λ b c p w g n k e o. tt;
  good_enter = λ p b v w g l o h. tt;
  enter_mem = λ b b' v w g. refl;
  enter_new = λ b b' v w g. refl;
  enter_old = λ p b v w g h x q b' k n. refl;
  good_drop = λ p w g n. tt;
  drop_mem = λ p w g. free_kind ((w.files s).map p) w.memory;
  drop_old = λ e m b. refl;
  good_absent = λ w g n o. tt;
}
