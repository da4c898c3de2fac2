-- The worked session of document 01, by computing the definitions: answers and states after its four calls. Assumes nothing.
use mathlib.Core.Bool.{Bool, false, true}
use mathlib.Core.List.{◌++◌, List, ◌∷◌, []}
use mathlib.Core.Path.{refl, ◌≡◌}
use Prim.Native.Nat.{◌-◌, ℕ}
use lib.ListN.{replicate}
use Rattle.base.specs.Count.{count}
use Rattle.base.specs.Search.{first_free, search_from}
use Rattle.base.specs.Tabulate.{tab}
use Rattle.base.specs.Update.{upd}
use Rattle.rules.specs.Calls.{Result, Store, accepted, blank_memory, created, formatted, made, result_of, step, worked}
use Rattle.rules.specs.Numbers.{Answer, conditions, create, lowest, make, narrow_write, number_of}
use Rattle.rules.specs.Reading.{dependent, depends_on, needs, reaches, resolve, size_by_reading, some_unmapped, walk}
use Rattle.rules.specs.Rules.{change, copy, count_in, each, enter, enter_as, extra_pages, free_sets, from, give, give_all, give_page, holes, mark, mark_down, own_need, page_of, put_entry, reserve, reserve_as, resize, settle, settle_as, settle_file, supply, take_own, touched, write_file}
use Rattle.rules.specs.Sets.{append_set, link_behind, link_last, root_alone}
use Rattle.rules.specs.State.{Entry, chain, children_of, hole, own, page_count, stored, unmapped, virgin}
use Rattle.rules.specs.Storage.{Memory, free_blocks, overlay, real, take_block}
use Rattle.rules.specs.Terms.{default_term}

-- the definitions that are computed
unfoldable computed : Unit {0}
unfolding step result_of accepted number_of lowest conditions formatted created made worked write_file change settle settle_file settle_as each reserve reserve_as take_own take_block first_free search_from free_blocks count count_in give_all give_page extra_pages give supply mark free_sets copy enter enter_as resize page_of own_need touched from resolve size_by_reading walk needs dependent some_unmapped depends_on reaches mark_down holes put_entry overlay upd append_set link_last link_behind root_alone children_of chain tab
computed = tt

-- "It formats 64 blocks": the four calls 1000000000000000 2000000004004100 5001000000000000 20000258000A4200
abbrev fresh : Memory
fresh = blank_memory 64

abbrev first : Result real
first = step real fresh (create 0 0) (formatted real fresh)

abbrev second : Result real
second = step real fresh (narrow_write 0 0 0 (replicate 1024 65)) first.store

abbrev third : Result real
third = step real fresh (make 0 1 false) second.store

abbrev fourth : Result real
fourth = step real fresh (narrow_write 0 0 600 (replicate 10 66)) third.store

abbrev answer : ℕ → ℕ → ℕ → Answer
answer a b c = record { number = 0; first = a; second = b; third = c }

abbrev map : Store real → ℕ → List (Entry ℕ)
map st s = tab page_count (st.files 0 s).map

abbrev maps : Entry ℕ → Entry ℕ → Entry ℕ → List (Entry ℕ)
maps a b rest = a ∷ b ∷ replicate 62 rest

abbrev used_blocks : ℕ → List Bool
used_blocks n = replicate n true ++ replicate (64 - n) false

pub record WorkedSession : Type 0 where
  -- create: an own file of size 0, all holes
  pub answer₁ : first.answer ≡ answer 0 0 0
  pub map₁ : map first.store 0 ≡ maps hole hole hole
  -- write of 1,024 bytes: two own blocks, 0 and 1
  pub answer₂ : second.answer ≡ answer 2 0 0
  pub size₂ : (second.store.files 0 0).size ≡ 1024
  pub map₂ : map second.store 0 ≡ maps (stored 0) (stored 1) hole
  pub bits₂ : tab 64 second.store.memory.bits ≡ used_blocks 2
  pub page₂ : tab 512 (second.store.memory.pages 1) ≡ replicate 512 65
  -- set 1 made read-only from set 0: level 1, its file virgin
  pub answer₃ : third.answer ≡ answer 0 0 0
  pub set₃ : third.store.sets 1 ≡ record { used = true; writeable = false; level = 1; parent = 0; first_child = 8; next_sibling = 8; term = default_term }
  pub child₃ : children_of third.store.sets 0 ≡ 1 ∷ []
  pub state₃ : (third.store.files 0 1).state ≡ virgin
  pub map₃ : map third.store 1 ≡ maps unmapped unmapped unmapped
  -- write of 10 bytes at 600: page 1 is copied to block 2 for set 1, then changed
  pub answer₄ : fourth.answer ≡ answer 0 1 0
  pub map₄ : map fourth.store 0 ≡ maps (stored 0) (stored 1) hole
  pub state₄ : (fourth.store.files 0 1).state ≡ own
  pub size₄ : (fourth.store.files 0 1).size ≡ 1024
  pub child_map₄ : map fourth.store 1 ≡ unmapped ∷ stored 2 ∷ replicate 62 unmapped
  pub bits₄ : tab 64 fourth.store.memory.bits ≡ used_blocks 3
  pub next₄ : fourth.store.memory.next ≡ 3
  pub copied₄ : tab 512 (fourth.store.memory.pages 2) ≡ replicate 512 65
  pub page₄ : tab 512 (fourth.store.memory.pages 1) ≡ replicate 88 65 ++ (replicate 10 66 ++ replicate 414 65)

pub worked_session : WorkedSession
unfolding computed
worked_session = record {
  answer₁ = refl;
  map₁ = refl;
  answer₂ = refl;
  size₂ = refl;
  map₂ = refl;
  bits₂ = refl;
  page₂ = refl;
  answer₃ = refl;
  set₃ = refl;
  child₃ = refl;
  state₃ = refl;
  map₃ = refl;
  answer₄ = refl;
  map₄ = refl;
  state₄ = refl;
  size₄ = refl;
  child_map₄ = refl;
  bits₄ = refl;
  next₄ = refl;
  copied₄ = refl;
  page₄ = refl;
}
