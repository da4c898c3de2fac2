-- Every accepted call: the store's rules over `counting` and the tally give the same answer and leave a store and its tally. Assumes nothing.
use mathlib.Core.Bool.{◌&&◌, Bool, cond, false, not, true, true≢false}
use mathlib.Core.List.{◌++◌, Memᴰ, append-nil, ◌∷◌, []}
use mathlib.Core.Logic.{⊎_elim}
use mathlib.Core.Path.{ap, fun_ext, refl, subst, sym, ◌∙◌, ◌≡◌}
use Prim.Native.Nat.{◌%◌, ◌+◌, ◌-◌, ◌/◌, ◌<◌, max, suc, zero, ℕ, ◌≤◌}
use native.Mathlib.Nat.{add-zero}
use native.Mathlib.Omega.{arith}
use lib.Dec.{eqb, ltb}
use lib.ListN.{length}
use borrow.Author.Tests.{eq-eqb, eqb-false, lt-ltb, ltb-false, not-true}
use Rattle.base.specs.Count.{count, sum}
use Rattle.base.specs.Logic.{and_left, and_right, pick, test?}
use Rattle.base.specs.Update.{upd, upd_self}
use Rattle.rules.proofs.Storages.Model.{counting}
use Rattle.rules.proofs.Tally.TallyChange.{change_leaves_law, change_leaves, new_kinds}
use Rattle.rules.proofs.Tally.TallyFreed.{free_map_law}
use Rattle.rules.proofs.Tally.TallyGroups.{extra_pages_law}
use Rattle.rules.proofs.Tally.TallyLoops.{PagesOf, all_pages, byte_pages, count_pages, cut_pages_law, dropped_pages_law, kept_pages_law, no_pages, page_inv, pages_once, pages_passed, put_pages, sum_loop, sum_pages}
use Rattle.rules.proofs.Tally.TallyNumbers.{Tallies, TallyOrderly, kept_need, same_numbers, tallies_is, tallies_of, tally_of, write_need_law}
use Rattle.rules.proofs.Tally.TallyReach.{NoVirginRoot, kind_resolve, looks_reading, no_virgin_root, size_reading}
use Rattle.rules.proofs.Tally.TallySteps.{extra_all, give_all_law, settle_all, with_turn}
use Rattle.rules.proofs.Tree.SetsOk.{root_alone_tree}
use Rattle.rules.proofs.Whole.Accepted.{passed_write}
use Rattle.rules.specs.Calls.{Result, Store, accepted, begin, created, formatted, made, read_count, read_looks, read_of, removed, result_of, step, tree_in, view_of, worked}
use Rattle.rules.specs.Numbers.{Call, create, delete, format, make, number_of, read, refusal, remove, tell_free, tell_size, truncate, write}
use Rattle.rules.specs.Plain.{Plain}
use Rattle.rules.specs.Reading.{looks, resolve, shown_size, size_by_reading, walk}
use Rattle.rules.specs.Rules.{Giving, Work, change, copied, count_in, cut_pages, delete_as, delete_file, dropped_pages, each, erase_file, extra, extra_pages, free_map, from, give_all, handed, holes, kept_pages, own_need, part_pages, touched, truncate_as, truncate_file, with_files, write_file}
use Rattle.rules.specs.Sets.{append_set, child_file, child_state, unlink_set}
use Rattle.rules.specs.State.{State, Tree, absent, absent_file, file_count, hole, is_stored, largest_size, live, marked, own, page_bytes, page_count, set_count, stored, tree_of, unmapped, virgin}
use Rattle.rules.specs.Tally.{Both, Kind, Tally, TallyFile, TallyFiles, TallyResult, both_as, both_step, cut_kinds, each_child, holds_byte, is_extra, kind_at, part_page, stored_pages, tally_call, tally_child, tally_cut, tally_delete, tally_extra, tally_format, tally_give, tally_grow, tally_leaves, tally_looks, tally_read, tally_settle, tally_size, tally_told, tally_truncate, tally_truncate_need, tally_turns, tally_write, truncate_touches, Turn}
use Rattle.rules.specs.Trees.{add_child, take_away}

-- a result of the store as one of the tally
abbrev pub result_of_tally : Result counting → TallyResult
result_of_tally r = record { answer = r.answer; tally = tally_of r.store }

module _ (k : Store counting) (f s : ℕ) where
  worked_leaves : (x : Turn) (n : ℕ) (y : TallyFile) (m : ℕ) (h : ℕ → Kind) →
      result_of_tally (worked counting k f (change_leaves (begin counting k f) s x n y m h)) ≡ tally_leaves (tally_of k) f s n x y m
  unfolding worked tally_leaves
  worked_leaves x n y m h = λ i. record {
    answer = record { number = 0; first = add-zero n i; second = x.copies; third = x.marks };
    tally = record { tree = tree_in counting k; files = upd k.files f (upd x.files s y); free = x.free + m };
  }

give_nothing : (how : Giving) (t : Tree) (s : ℕ) (w : Work counting) → give_all counting t how s [] w ≡ w
unfolding give_all each
give_nothing how t s w = refl

-- the part page and those dropped are the touched pages, in order
part_dropped : (n z : ℕ) → n < z → part_pages n ++ dropped_pages n z ≡ cut_pages n z
unfolding part_pages dropped_pages cut_pages from
part_dropped n z l = test? (eqb (n % page_bytes) 0) (λ e. rw e) (λ e. rw e)

part_not : (n p : ℕ) → Memᴰ p (part_pages n) → not (part_page n p) ≡ false
unfolding part_pages part_page
part_not n p m =
    test? (eqb (n % page_bytes) 0)
    (λ e. let q : Memᴰ p [] = rw e at m in elim q [ ])
    (λ e. let q : Memᴰ p (n / page_bytes ∷ []) = rw e at m in ⊎_elim (λ d. rw (e, eq-eqb p (n / page_bytes) d)) (λ i. elim i [ ]) (mathlib.Core.List.Memᴰ.cases_cons q))

-- the turns where none is touched
turns_none : (t : Tree) (s : ℕ) (x : Turn) → tally_give t s (λ p. false) (λ p. true) x ≡ x
unfolding tally_give
turns_none t s x = page_inv _ (λ y. y ≡ x) page_count (λ p y l i. i) x refl

-- the kinds after a truncate
module _ (n z : ℕ) (l : n < z) (h : z ≤ largest_size) (e : Kind) where
  cut_apart : (p : ℕ) → Memᴰ p (dropped_pages n z) → Memᴰ p (kept_pages n e) → ⊥
  cut_apart p a b =
      let d = not-true (part_page n p) (and_right (truncate_touches n z p) _ (pages_passed (dropped_pages_law n z l h) p a).1) in
      let c = and_right (truncate_touches n z p) (part_page n p) (and_left _ (is_stored e) (pages_passed (kept_pages_law n z l h e) p b).1) in
      true≢false (sym c ∙ d)

  cut_kinds_law : (m : ℕ → Kind) (p : ℕ) → new_kinds (kept_pages n e) (dropped_pages n z) m p ≡ cut_kinds n z e m p
  unfolding cut_kinds
  cut_kinds_law m p =
      put_pages hole (dropped_pages_law n z l h) _ p
      ∙ ap (λ v. cond (ltb p page_count && (truncate_touches n z p && not (part_page n p))) hole v) (put_pages (stored tt) (kept_pages_law n z l h e) m p)
      ∙ go (ltb p page_count) (truncate_touches n z p) (part_page n p) (is_stored e) (m p)
    where
      go : (a b c d : Bool) (v : Kind) → cond (a && (b && not c)) hole (cond (a && (b && c && d)) (stored tt) v) ≡ cond (a && b) (cond c (cond d (stored tt) v) hole) v
      go false b c d v = refl
      go true false c d v = refl
      go true true false d v = refl
      go true true true false v = refl
      go true true true true v = refl

-- no size by reading is over 32,768 where no size is
pick_small : (l : State) (m r : ℕ) → m ≤ largest_size → r ≤ largest_size → pick (shown_size l m) r ≤ largest_size
pick_small absent m r a b = a
pick_small own m r a b = a
pick_small virgin m r a b = b
pick_small marked m r a b = a

size_small : (t : Tree) (fs : TallyFiles) → ((s : ℕ) → (fs s).size ≤ largest_size) → (n s : ℕ) →
    walk t.parent (λ (x : TallyFile). shown_size x.state x.size) 0 n fs s ≤ largest_size
unfolding walk
size_small t fs h zero s = pick_small (fs s).state (fs s).size 0 (h s) (omega arith)
size_small t fs h (suc n) s = pick_small (fs s).state (fs s).size _ (h s) (size_small t fs h n (t.parent s))

module _ (k : Store counting) (o : TallyOrderly k) where
  abbrev sets : Tree
  sets = tree_in counting k

  levels : (x : ℕ) → sets.level x ≤ set_count
  levels x = omega (arith, o.shallow x)

  above : (f : ℕ) → NoVirginRoot sets (k.files f)
  above f = no_virgin_root sets (k.files f) o.proper.ok (o.files_ok f)

  size_is : (f s : ℕ) → tally_size sets (k.files f) s ≡ size_by_reading sets (k.files f) s
  size_is f s = size_reading sets (k.files f) o.proper.ok (above f) s

  -- WRITE
  write_same : (g s f off n : ℕ) → off + n ≤ largest_size → (lay : ℕ → Unit {0} → Unit {0}) →
      result_of_tally (worked counting k f (change counting sets s (touched off n) (touched off n) [] (extra_pages g off n) lay (λ m. max m (off + n)) (begin counting k f))) ≡ tally_write g s f off n (tally_of k)
  unfolding tally_write tally_turns count_in each
  write_same g s f off n l lay =
      let r : PagesOf (touched off n) (holds_byte off n) = byte_pages off n (λ z. l) in
      let need : ℕ = own_need counting s (touched off n) (k.files f) in
      let turns : ℕ → Turn = λ m. tally_extra sets s (is_extra g off n) (tally_turns (tally_of k) f s (s ∷ sets.children s) m (holds_byte off n) (λ p. false)) in
      let own_file : Turn → (ℕ → Kind) → TallyFile = λ x m. record { state = own; size = max (x.files s).size (off + n); map = m } in
      ap (λ (w : Work counting). result_of_tally (worked counting k f w))
      (change_leaves_law sets o.proper levels s (touched off n) (touched off n) [] (extra_pages g off n) (holds_byte off n) (λ p. false) (subst (λ l. PagesOf l (holds_byte off n)) (sym (append-nil (touched off n))) r) (λ p m. refl) (λ p m. elim m [ ]) tt (λ p m. elim m [ ]) lay (λ m. max m (off + n))
      (tally_extra sets s (is_extra g off n)) (extra_all sets o.proper levels s (extra_pages g off n) (is_extra g off n) (extra_pages_law g off n l)) (begin counting k f) (above f))
      ∙ worked_leaves k f s (turns need) need (own_file (turns need) (each (λ p g. upd g p (stored tt)) (touched off n) ((turns need).files s).map)) 0 _
      ∙ ap (λ m. tally_leaves (tally_of k) f s need (turns need) (own_file (turns need) m) 0) (fun_ext (put_pages (stored tt) r ((turns need).files s).map))
      ∙ ap (λ m. tally_leaves (tally_of k) f s m (turns m) (own_file (turns m) (λ p. cond (ltb p page_count && holds_byte off n p) (stored tt) (((turns m).files s).map p))) 0)
      (sym (write_need_law (k.files f) s off n l))

  -- TRUNCATE
  grow_same : (s f n : ℕ) → result_of_tally (worked counting k f (change counting sets s [] [] [] [] (λ p v. v) (λ m. n) (begin counting k f))) ≡ tally_grow s f n (tally_of k)
  unfolding tally_grow tally_turns count_in each own_need
  grow_same s f n =
      ap (λ (w : Work counting). result_of_tally (worked counting k f w))
      (change_leaves_law sets o.proper levels s [] [] [] [] (λ p. false) (λ p. false) no_pages (λ p m. elim m [ ]) (λ p m. elim m [ ]) tt (λ p m. elim m [ ]) (λ p v. v) (λ m. n) (λ x. x) (give_nothing extra sets s) (begin counting k f) (above f))
      ∙ worked_leaves k f s (tally_turns (tally_of k) f s (s ∷ sets.children s) 0 (λ p. false) (λ p. false)) 0 _ 0 _

  cut_same : (s f n z : ℕ) → tally_size sets (k.files f) s ≡ z → n < z → z ≤ largest_size → (lay : ℕ → Unit {0} → Unit {0}) →
      result_of_tally (worked counting k f (change counting sets s (part_pages n) (kept_pages n (resolve sets (k.files f) s (n / page_bytes))) (dropped_pages n z) [] lay (λ m. n) (begin counting k f)))
      ≡ tally_cut s f n z (tally_of k)
  unfolding tally_cut tally_turns
  cut_same s f n z e l h lay =
      let fs : TallyFiles = k.files f in
      let kind : Kind = resolve sets fs s (n / page_bytes) in
      let need : ℕ = own_need counting s (kept_pages n kind) fs in
      let turns : ℕ → Turn = λ m. tally_turns (tally_of k) f s (s ∷ sets.children s) m (truncate_touches n z) (λ p. not (part_page n p)) in
      let own_file : (ℕ → Kind) → TallyFile = λ m. record { state = own; size = n; map = m } in
      let q : tally_truncate_need sets fs s n ≡ need = kept_need sets fs s n (ap (ltb n) e ∙ lt-ltb n z l) in
      ap (λ (w : Work counting). result_of_tally (worked counting k f w))
      (change_leaves_law sets o.proper levels s (part_pages n) (kept_pages n kind) (dropped_pages n z) [] (truncate_touches n z) (λ p. not (part_page n p))
      (subst (λ l. PagesOf l (truncate_touches n z)) (sym (part_dropped n z l)) (cut_pages_law n z l h)) (part_not n)
      (λ p m. and_right (truncate_touches n z p) _ (pages_passed (dropped_pages_law n z l h) p m).1)
      (pages_once (dropped_pages_law n z l h)) (cut_apart n z l h kind) lay (λ m. n) (λ x. x) (give_nothing extra sets s) (begin counting k f) (above f))
      ∙ worked_leaves k f s (turns need) need (own_file (new_kinds (kept_pages n kind) (dropped_pages n z) ((turns need).files s).map)) (count_in (dropped_pages n z) (λ p. is_stored (((turns need).files s).map p))) _
      ∙ (λ i. tally_leaves (tally_of k) f s need (turns need)
      (own_file (λ p. (cut_kinds_law n z l h kind ((turns need).files s).map p ∙ ap (λ e. cut_kinds n z e ((turns need).files s).map p) (sym (kind_resolve sets fs s (n / page_bytes)))) i))
      (sym (count_pages (dropped_pages_law n z l h) (λ p. is_stored (((turns need).files s).map p))) i))
      ∙ ap (λ m. tally_leaves (tally_of k) f s m (turns m) (own_file (cut_kinds n z (kind_at sets fs s (n / page_bytes)) ((turns m).files s).map))
      (count page_count (λ p. truncate_touches n z p && not (part_page n p) && is_stored (((turns m).files s).map p)))) (sym q)

  reading_small : (f s : ℕ) → size_by_reading sets (k.files f) s ≤ largest_size
  unfolding size_by_reading
  reading_small f s = size_small sets (k.files f) (o.small f) (sets.level s) s

  truncate_same : (s f n : ℕ) → result_of_tally (worked counting k f (truncate_file counting sets s n (begin counting k f))) ≡ tally_truncate s f n (tally_of k)
  unfolding truncate_file truncate_as tally_truncate worked
  truncate_same s f n =
      go (eqb n z) (ltb z n) refl refl
      ∙ ap (λ z. cond (eqb n z) (record { answer = refusal 0; tally = tally_of k }) (cond (ltb z n) (tally_grow s f n (tally_of k)) (tally_cut s f n z (tally_of k)))) (sym (size_is f s))
    where
      z : ℕ
      z = size_by_reading sets (k.files f) s

      go : (a b : Bool) → eqb n z ≡ a → ltb z n ≡ b → result_of_tally (worked counting k f (truncate_as counting sets a b s n z (begin counting k f))) ≡
          cond a (record { answer = refusal 0; tally = tally_of k }) (cond b (tally_grow s f n (tally_of k)) (tally_cut s f n z (tally_of k)))
      go true b d e = λ i. record { answer = refusal 0; tally = record { tree = sets; files = upd_self k.files f i; free = k.memory } }
      go false true d e = grow_same s f n
      go false false d e =
          let l = ltb-false z n e in
          let m = eqb-false n z d in
          cut_same s f n z (size_is f s) (omega arith) (reading_small f s) (λ p. counting.cut (n % page_bytes))

  -- READ
  looks_same : (s f off n : ℕ) → ((n ≡ 0 → ⊥) → off + n ≤ largest_size) →
      read_looks sets (k.files f) s off n ≡ sum page_count (λ p. cond (holds_byte off n p) (tally_looks sets (k.files f) s p) 0)
  unfolding read_looks
  looks_same s f off n l =
      sym (sum_pages (byte_pages off n l) (looks sets (k.files f) s))
      ∙ ap (λ (g : ℕ → ℕ). sum page_count (λ p. cond (holds_byte off n p) (g p) 0)) (fun_ext (λ p. sym (looks_reading sets (k.files f) s p)))

  read_same : (s f off m : ℕ) →
      result_of_tally (read_of counting s f off (read_count m off (size_by_reading sets (k.files f) s)) k) ≡ tally_read s f off (read_count m off (tally_size sets (k.files f) s)) (tally_of k)
  unfolding tally_read
  read_same s f off m =
      let n : ℕ = read_count m off (size_by_reading sets (k.files f) s) in
      let h = reading_small f s in
      ap (λ x. record { answer = record { number = 0; first = n; second = x; third = 0 }; tally = tally_of k }) (looks_same s f off n (λ z. omega arith))
      ∙ ap (λ z. tally_read s f off (read_count m off z) (tally_of k)) (sym (size_is f s))

  -- DELETE
  erase_same : (s f : ℕ) (fs : TallyFiles) (x : Turn) →
      result_of_tally (worked counting k f (erase_file counting sets s (with_turn (with_files counting sets (begin counting k f) fs) x))) ≡
      tally_leaves (tally_of k) f s 0 x absent_file (stored_pages (x.files s))
  unfolding worked tally_leaves erase_file
  erase_same s f fs x =
      λ i. record {
        answer = record { number = 0; first = 0; second = x.copies; third = x.marks };
        tally = record { tree = sets; files = upd k.files f (upd x.files s absent_file); free = free_map_law (x.files s) x.free i };
      }

  delete_same : (s f : ℕ) → result_of_tally (worked counting k f (delete_file counting sets s (begin counting k f))) ≡ tally_delete s f (tally_of k)
  unfolding delete_file delete_as tally_delete tally_turns each_child
  delete_same s f = go (live (k.files f s).state)
    where
      start : TallyFiles → ℕ → Turn
      start fs n = record { files = fs; free = n; copies = 0; marks = 0 }

      none : k.memory - 0 ≡ k.memory
      none = omega arith

      settled : TallyFiles
      settled = each_child (tally_settle sets) (sets.children s) (k.files f)

      leaves : Turn → TallyResult
      leaves x = tally_leaves (tally_of k) f s 0 x absent_file (stored_pages (x.files s))

      go : (b : Bool) → result_of_tally (worked counting k f (delete_as counting sets b s (begin counting k f))) ≡ leaves (tally_turns (tally_of k) f s (cond b (sets.children s) []) 0 (λ p. b) (λ p. true))
      go true =
          ap (λ (w : Work counting). result_of_tally (worked counting k f (erase_file counting sets s w)))
          (ap (give_all counting sets handed s (from 0 page_count)) (settle_all sets o.proper.ok (sets.children s) (begin counting k f) (above f))
          ∙ none_first (with_files counting sets (begin counting k f) settled)
          ∙ give_all_law sets o.proper levels s [] (from 0 page_count) (λ p. true) (λ p. true) all_pages (λ p m. elim m [ ]) (λ p m. refl) (with_files counting sets (begin counting k f) settled))
          ∙ erase_same s f settled (tally_give sets s (λ p. true) (λ p. true) (start settled k.memory))
          ∙ ap (λ n. leaves (tally_give sets s (λ p. true) (λ p. true) (start settled n))) (sym none)
        where
          none_first : (w : Work counting) → give_all counting sets handed s (from 0 page_count) w ≡ give_all counting sets handed s (from 0 page_count) (give_all counting sets copied s [] w)
          none_first w = ap (give_all counting sets handed s (from 0 page_count)) (sym (give_nothing copied sets s w))
      go false =
          erase_same s f (k.files f) (start (k.files f) k.memory)
          ∙ ap (λ n. leaves (start (k.files f) n)) (sym none)
          ∙ ap leaves (sym (turns_none sets s (start (k.files f) (k.memory - 0))))

format_same : (k : Store counting) (blocks : ℕ) → result_of_tally (accepted counting blocks format k) ≡ tally_call blocks format (tally_of k)
unfolding accepted tally_call tally_told formatted tally_format
format_same k blocks = λ i. record { answer = refusal 0; tally = record { tree = root_alone_tree i; files = λ f s. absent_file; free = blocks } }

-- CREATE
create_same : (k : Store counting) (blocks s f : ℕ) → result_of_tally (accepted counting blocks (create s f) k) ≡ tally_call blocks (create s f) (tally_of k)
unfolding accepted tally_call tally_told created holes
create_same k blocks s f = refl

-- MAKE
child_file_law : (x : TallyFile) → child_file x ≡ tally_child x
unfolding tally_child
child_file_law x = λ i. record { state = go x.state i; size = 0; map = λ p. unmapped }
  where
    go : (l : State) → child_state l ≡ cond (live l) virgin l
    go absent = refl
    go own = refl
    go virgin = refl
    go marked = refl

make_same : (k : Store counting) (blocks s c : ℕ) (w : Bool) → tree_of (append_set s c w k.sets) ≡ add_child (tree_of k.sets) s c w →
    result_of_tally (accepted counting blocks (make s c w) k) ≡ tally_call blocks (make s c w) (tally_of k)
unfolding accepted tally_call tally_told made
make_same k blocks s c w e = λ i. record { answer = refusal 0; tally = record { tree = e i; files = λ f. upd (k.files f) c (child_file_law (k.files f s) i); free = k.memory } }

-- REMOVE
remove_same : (k : Store counting) (blocks s : ℕ) → tree_of (unlink_set s k.sets) ≡ take_away (tree_of k.sets) s →
    result_of_tally (accepted counting blocks (remove s) k) ≡ tally_call blocks (remove s) (tally_of k)
unfolding accepted tally_call tally_told removed
remove_same k blocks s e =
    let q : each (λ f. free_map counting (k.files f s).map) (from 0 file_count) k.memory ≡ k.memory + sum file_count (λ f. stored_pages (k.files f s)) =
    sum_loop (λ f. stored_pages (k.files f s)) (λ f. free_map counting (k.files f s).map) (λ f m. free_map_law (k.files f s) m) file_count k.memory in
    λ i. record { answer = refusal 0; tally = record { tree = e i; files = λ f. upd (k.files f) s absent_file; free = q i } }

-- what making and removing do to the sets: this is shown of the set records elsewhere
abbrev pub SetsAfter : Store counting → Call → Type 0
SetsAfter k format = Unit {0}
SetsAfter k (create s f) = Unit {0}
SetsAfter k (write g s f off bs) = Unit {0}
SetsAfter k (read s f off buffer) = Unit {0}
SetsAfter k (truncate s f n) = Unit {0}
SetsAfter k (delete s f) = Unit {0}
SetsAfter k (make s c w) = tree_of (append_set s c w k.sets) ≡ add_child (tree_of k.sets) s c w
SetsAfter k (remove s) = tree_of (unlink_set s k.sets) ≡ take_away (tree_of k.sets) s
SetsAfter k (tell_size s f) = Unit {0}
SetsAfter k tell_free = Unit {0}

-- AN ACCEPTED CALL on the tally of a store is the accepted call on the store
call_same : (k : Store counting) → TallyOrderly k → (blocks : ℕ) (c : Call) → number_of (view_of counting true true k) c ≡ 0 → SetsAfter k c →
    result_of_tally (accepted counting blocks c k) ≡ tally_call blocks c (tally_of k)
unfolding accepted tally_call tally_told write_file
call_same k o blocks format h e = format_same k blocks
call_same k o blocks (create s f) h e = create_same k blocks s f
call_same k o blocks (write g s f off []) h e = refl
call_same k o blocks (write g s f off (x ∷ bs)) h e = write_same k o g s f off (length (x ∷ bs)) (passed_write (view_of counting true true k) g s f off (x ∷ bs) h).end_in (counting.over off (x ∷ bs))
call_same k o blocks (read s f off buffer) h e = read_same k o s f off (length buffer)
call_same k o blocks (truncate s f n) h e = truncate_same k o s f n
call_same k o blocks (delete s f) h e = delete_same k o s f
call_same k o blocks (make s c w) h e = make_same k blocks s c w e
call_same k o blocks (remove s) h e = remove_same k blocks s e
call_same k o blocks (tell_size s f) h e = ap (λ z. tally_told z (tally_of k)) (sym (size_is k o f s))
call_same k o blocks tell_free h e = refl

-- the same answer, and a store with its tally
pub record SameResult (r : Result counting) (q : TallyResult) : Type 0 where
  pub answer : q.answer ≡ r.answer
  pub tallies : Tallies r.store q.tally

call_tallies : (k : Store counting) (ta : Tally) → TallyOrderly k → Tallies k ta → (blocks : ℕ) (c : Call) → number_of (view_of counting true true k) c ≡ 0 → SetsAfter k c →
    SameResult (accepted counting blocks c k) (tally_call blocks c ta)
call_tallies k ta o h blocks c z e =
    let q : tally_call blocks c ta ≡ result_of_tally (accepted counting blocks c k) = ap (tally_call blocks c) (tallies_is k ta h) ∙ sym (call_same k o blocks c z e) in
    record { answer = ap (λ (r : TallyResult). r.answer) q; tallies = tallies_of _ _ (ap (λ (r : TallyResult). r.tally) q) }

-- A CALL, accepted or refused, judged on each
pub record SameStep (r : Result counting) (q : Both) : Type 0 where
  pub answer : q.answer ≡ r.answer
  pub tallies : Tallies r.store q.tally

pub step_tallies : (k : Store counting) (ta : Tally) (pl : Plain) → TallyOrderly k → Tallies k ta → pl.tree ≡ ta.tree → (blocks : ℕ) (c : Call) →
    (number_of (view_of counting true true k) c ≡ 0 → SetsAfter k c) → SameStep (step counting blocks c k) (both_step blocks c pl ta)
unfolding step both_step result_of both_as
step_tallies k ta pl o h t blocks c e = rw (same_numbers k ta pl o h t c) (go (number_of (view_of counting true true k) c) refl)
  where
    go : (n : ℕ) → number_of (view_of counting true true k) c ≡ n → SameStep (result_of counting n blocks c k) (both_as n blocks c pl ta)
    go zero z = let q = call_tallies k ta o h blocks c z (e z) in record { answer = q.answer; tallies = q.tallies }
    go (suc n) z = record { answer = refl; tallies = h }
