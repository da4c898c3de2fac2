-- A number from 8 on is no set: it has no parent, and its files are absent. Assumes nothing.
use mathlib.Core.Bool.{◌&&◌, Bool, false}
use mathlib.Core.List.{List}
use mathlib.Core.Path.{ap, ◌≡◌}
use Prim.Native.Nat.{◌<◌, ℕ, ◌≤◌}
use native.Mathlib.Omega.{arith}
use lib.Dec.{ltb}
use borrow.Author.Tests.{le-ltb, ne_eqb}
use Rattle.base.specs.Logic.{and_false}
use Rattle.rules.specs.Reading.{dependent, depends_on, reaches}
use Rattle.rules.specs.State.{SetRecord, absent, file_count, page_count, set_count, tree_of, unmapped}
use Rattle.tables.proofs.ReadParts.{map_default, set_default, size_default, state_default}
use Rattle.tables.specs.Packed.{is_file, unpack}

module _ (t : List ℕ) (s : ℕ) (h : set_count ≤ s) where
  pub parent_out : ((unpack t).sets s).parent ≡ 0
  parent_out = ap (λ (r : SetRecord). r.parent) (set_default t s h)

  no_file : (f : ℕ) → is_file f s ≡ false
  no_file f = rw (le-ltb s set_count h) (and_false (ltb f file_count))

  pub state_out : (f : ℕ) → ((unpack t).files f s).state ≡ absent
  state_out f = state_default t f s (no_file f)

  pub size_out : (f : ℕ) → ((unpack t).files f s).size ≡ 0
  size_out f = size_default t f s (no_file f)

  pub map_out : (f p : ℕ) → ((unpack t).files f s).map p ≡ unmapped
  map_out f p = map_default t f s p (ap (λ (b : Bool). b && ltb p page_count) (no_file f))

  pub dependent_out : (f : ℕ) → dependent ((unpack t).files f s) ≡ false
  unfolding dependent
  dependent_out f = rw (state_out f)

  -- it is marked with no set's file
  pub reaches_out : (f c : ℕ) → c < set_count → reaches (tree_of (unpack t).sets) ((unpack t).files f) c s ≡ false
  unfolding reaches depends_on
  reaches_out f c l = rw (ap (λ (r : SetRecord). r.level) (set_default t s h)) (ne_eqb c s (omega arith))
