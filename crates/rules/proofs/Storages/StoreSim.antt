-- Whole stores over two storages of which one stands for the other: the table of numbers gives the same, and every call keeps them together. Assumes nothing.
use mathlib.Core.Bool.{Bool, cond, false, not, true}
use mathlib.Core.List.{List, Memᴰ, ◌∷◌, []}
use mathlib.Core.Path.{ap, ap₂, fun_ext, refl, subst, sym, ◌∙◌, ◌≡◌}
use Prim.Native.Nat.{◌+◌, ◌/◌, ◌<◌, suc, zero, ℕ, ◌≤◌}
use native.Mathlib.Omega.{arith}
use lib.Dec.{ltb}
use lib.ListN.{length}
use lib.Pow.{low}
use Rattle.base.specs.Logic.{same?}
use Rattle.base.specs.Update.{upd, upd_map, upd_other, upd_same}
use Rattle.rules.proofs.Whole.Accepted.{passed_create, passed_delete, passed_make, passed_remove, passed_truncate, passed_write}
use Rattle.rules.proofs.Agreement.Agree.{from_high, from_mem}
use Rattle.rules.proofs.Steps.Erased.{all_erased, erased_in, erases_absent, removed_is, unlinked}
use Rattle.rules.proofs.Storages.MapBlocks.{looks_map, map_stored, map_entry, map_file, map_files, map_files_agree, resolve_map, size_map}
use Rattle.rules.proofs.Steps.Pending.{Finished, delete_finished, erase_finished, truncate_finished, write_finished}
use Rattle.rules.proofs.Storages.Sim.{Demands, Rel, Sim, Translation}
use Rattle.rules.proofs.Storages.SimRules.{kept_same, rel_delete, rel_erase, rel_truncate, rel_write}
use Rattle.rules.specs.Calls.{Result, Store, accepted, begin, created, finish, formatted, made, new_file, read_count, read_looks, read_of, removed, result_of, step, tree_in, view_of, worked}
use Rattle.rules.specs.Numbers.{Call, create, delete, format, make, number_of, read, remove, tell_free, tell_size, truncate, write}
use Rattle.rules.specs.Reading.{looks, resolve, size_by_reading}
use Rattle.rules.specs.Rules.{Work, count_in, delete_file, each, erase_file, from, holes, kept_pages, own_need, sum_in, touched, truncate_file, truncate_need, write_file}
use Rattle.rules.specs.Sets.{append_set, child_file, unlink_set}
use Rattle.rules.specs.State.{File, Files, Tree, absent_file, hole, is_absent, is_stored, own, stored, tree_of, unmapped}
use Rattle.rules.specs.Storage.{Storage}
use Rattle.rules.proofs.Steps.Handing.{ProperTree}

-- the two stores go together
pub record Standing {S S' : Storage} (T : Translation S S') (r : Store S) (m : Store S') : Type 0 where
  pub sets : m.sets ≡ r.sets
  pub memory : m.memory ≡ T.memory r.memory
  pub files : (f : ℕ) → m.files f ≡ map_files (T.block r.memory) (r.files f)

-- THE TABLE sees the same of both
module _ {S S' : Storage} (T : Translation S S') (r : Store S) (m : Store S') (h : Standing T r m) where
  need_same : (f s : ℕ) (ps : List ℕ) → own_need S' s ps (m.files f) ≡ own_need S s ps (r.files f)
  unfolding own_need
  need_same f s ps =
      ap (count_in ps) (fun_ext (λ p. ap not (ap (λ (y : Files S'.Block). is_stored ((y s).map p)) (h.files f) ∙ map_stored (T.block r.memory) ((r.files f s).map p))))

  size_stands : (f s : ℕ) → size_by_reading (tree_in S' m) (m.files f) s ≡ size_by_reading (tree_in S r) (r.files f) s
  size_stands f s = ap₂ (λ x y. size_by_reading (tree_of x) y s) h.sets (h.files f) ∙ size_map (T.block r.memory) (tree_in S r) (r.files f) s

  looks_stands : (f s off n : ℕ) → read_looks (tree_in S' m) (m.files f) s off n ≡ read_looks (tree_in S r) (r.files f) s off n
  unfolding read_looks
  looks_stands f s off n =
      ap (sum_in (touched off n)) (ap₂ (λ x y. looks (tree_of x) y s) h.sets (h.files f) ∙ fun_ext (looks_map (T.block r.memory) (tree_in S r) (r.files f) s))

  kept_stands : (f s n : ℕ) → kept_pages n (resolve (tree_in S' m) (m.files f) s (n / 512)) ≡ kept_pages n (resolve (tree_in S r) (r.files f) s (n / 512))
  kept_stands f s n =
      kept_same n _ _
      (ap is_stored (ap₂ (λ x y. resolve (tree_of x) y s (n / 512)) h.sets (h.files f) ∙ resolve_map (T.block r.memory) (tree_in S r) (r.files f) s (n / 512))
      ∙ map_stored (T.block r.memory) (resolve (tree_in S r) (r.files f) s (n / 512)))

  truncate_same : (s f n : ℕ) → truncate_need S' (tree_in S' m) s n (m.files f) ≡ truncate_need S (tree_in S r) s n (r.files f)
  unfolding truncate_need
  truncate_same s f n =
      ap₂ (λ x y. cond (ltb n x) y 0) (size_stands f s)
      (ap (λ ps. own_need S' s ps (m.files f)) (kept_stands f s n) ∙ need_same f s (kept_pages n (resolve (tree_in S r) (r.files f) s (n / 512))))

  pub view_same : S'.free (T.memory r.memory) ≡ S.free r.memory → (formed formats : Bool) → view_of S' formed formats m ≡ view_of S formed formats r
  view_same free formed formats = λ i. record {
    formed = formed;
    formats = formats;
    tree = tree_of (h.sets i);
    state = λ f s. (h.files f i s).state;
    free = (ap S'.free h.memory ∙ free) i;
    write_need = λ s f off n. need_same f s (touched off n) i;
    truncate_need = λ s f n. truncate_same s f n i;
  }

-- What must hold of the stores. Kept says what is kept of a store by every call.
pub record StoreSim {S S' : Storage} (T : Translation S S') (fresh : S.Memory) (fresh' : S'.Memory) (Kept : Store S → Type 0) : Type 1 where
  pub demands : Store S → ℕ → ℕ → Demands S
  pub sim : (r : Store S) (f s : ℕ) → Sim S S' T (demands r f s) (tree_in S r) s
  pub free : (r : Store S) → Kept r → S'.free (T.memory r.memory) ≡ S.free r.memory
  pub fresh_same : fresh' ≡ T.memory fresh
  pub kid : (r : Store S) (f s : ℕ) → ProperTree (tree_in S r) → (c : ℕ) → Memᴰ c ((tree_in S r).children s) → (demands r f s).Kid c
  -- a call on file f of set s begins and ends; the other files' blocks are seen as before
  pub good_begin : (r : Store S) (f s : ℕ) → Kept r → (demands r f s).Good (begin S r f)
  pub frame : (r : Store S) (f s : ℕ) (w : Work S) → (demands r f s).Good w → (g x p : ℕ) (b : S.Block) → (f ≡ g → ⊥) → (r.files g x).map p ≡ stored b → T.block w.memory b ≡ T.block r.memory b
  pub kept_finish : (r : Store S) (f s : ℕ) (w : Work S) → Kept r → f < 16 → (r.sets s).used ≡ true → (demands r f s).Good w → (Finished S s (begin S r f) → Finished S s w) → Kept (finish S r f w)
  -- the other calls
  pub kept_format : Kept (formatted S fresh)
  pub kept_create : (r : Store S) (s f : ℕ) → Kept r → (r.sets s).used ≡ true → is_absent (r.files f s).state ≡ true → Kept (created S s f r)
  pub kept_make : (r : Store S) (s c : ℕ) (w : Bool) → Kept r → c < 8 → (r.sets c).used ≡ false → Kept (made S s c w r)
  pub kept_unlink : (r : Store S) (c : ℕ) → Kept r → ((f p : ℕ) → f < 16 → is_stored ((r.files f c).map p) ≡ false) → Kept (unlinked S c r)

-- what a call gives, and the stores after it
pub record Same {S S' : Storage} (T : Translation S S') (Kept : Store S → Type 0) (o : Result S) (o' : Result S') : Type 0 where
  pub answer : o'.answer ≡ o.answer
  pub stands : Standing T o.store o'.store
  pub kept : Kept o.store

-- a new file has no blocks
new_map : {K L : Type 0} (f : K → L) → map_file f new_file ≡ new_file
unfolding holes
new_map f = λ i. record { state = own; size = 0; map = λ p. go (ltb p 64) i }
  where
    go : (b : Bool) → map_entry f (cond b hole unmapped) ≡ cond b hole unmapped
    go true = refl
    go false = refl

module _ {S S' : Storage} {T : Translation S S'} {fresh : S.Memory} {fresh' : S'.Memory} {Kept : Store S → Type 0} (M : StoreSim T fresh fresh' Kept) where
  -- CALLS ON ONE FILE
  module _ (r : Store S) (m : Store S') (h : Standing T r m) (k : Kept r) (f s : ℕ) where
    begin_rel : Rel T (M.demands r f s) (begin S r f) (begin S' m f)
    begin_rel = record { good = M.good_begin r f s k; memory = h.memory; files = h.files f; pending = λ p. refl; taken = refl; copies = refl; marks = refl }

    finish_stands : (w : Work S) (v : Work S') → Rel T (M.demands r f s) w v → Standing T (finish S r f w) (finish S' m f v)
    finish_stands w v q = record {
      sets = h.sets;
      memory = q.memory;
      files = λ g. same? f g
          (λ e. subst (λ y. upd m.files f v.files y ≡ map_files (T.block w.memory) (upd r.files f w.files y)) e
          (rw (upd_same m.files f v.files, upd_same r.files f w.files) q.files))
          (λ n. rw (upd_other m.files f v.files g n, upd_other r.files f w.files g n)
          (h.files g ∙ map_files_agree _ _ (r.files g) (λ x p b e. sym (M.frame r f s w q.good g x p b n e))));
    }

    worked_same : (w : Work S) (v : Work S') → f < 16 → (r.sets s).used ≡ true → (Finished S s (begin S r f) → Finished S s w) → Rel T (M.demands r f s) w v →
        Same T Kept (worked S r f w) (worked S' m f v)
    unfolding worked
    worked_same w v l u d q = record {
      answer = λ i. record { number = 0; first = q.taken i; second = q.copies i; third = q.marks i };
      stands = finish_stands w v q;
      kept = M.kept_finish r f s w k l u q.good d;
    }

    -- the other store has the same tree
    moved : (w : Work S) (v : Tree → Work S') → Rel T (M.demands r f s) w (v (tree_in S r)) → Rel T (M.demands r f s) w (v (tree_in S' m))
    moved w v q = subst (λ y. Rel T (M.demands r f s) w (v (tree_of y))) (sym h.sets) q

    erased_rel : Rel T (M.demands r f s) (erase_file S (tree_in S r) s (begin S r f)) (erase_file S' (tree_in S' m) s (begin S' m f))
    erased_rel = moved _ (λ t. erase_file S' t s (begin S' m f)) (rel_erase (M.sim r f s) (begin S r f) (begin S' m f) begin_rel (λ p. refl))

    module _ (proper : ProperTree (tree_in S r)) where
      write_rel : (g off : ℕ) (bs : List ℕ) → off + length bs ≤ 32768 → own_need S s (touched off (length bs)) (r.files f) ≤ S.free r.memory →
          Rel T (M.demands r f s) (write_file S (tree_in S r) g s off bs (begin S r f)) (write_file S' (tree_in S' m) g s off bs (begin S' m f))
      write_rel g off bs low l =
          moved _ (λ t. write_file S' t g s off bs (begin S' m f))
          (rel_write (M.sim r f s) proper.ok (proper.once s) (M.kid r f s proper) (begin S r f) (begin S' m f) begin_rel (λ p. refl) g off bs low l)

      truncate_rel : (n : ℕ) → n ≤ 32768 → truncate_need S (tree_in S r) s n (r.files f) ≤ S.free r.memory →
          Rel T (M.demands r f s) (truncate_file S (tree_in S r) s n (begin S r f)) (truncate_file S' (tree_in S' m) s n (begin S' m f))
      truncate_rel n low l =
          moved _ (λ t. truncate_file S' t s n (begin S' m f))
          (rel_truncate (M.sim r f s) proper.ok (proper.once s) (M.kid r f s proper) (begin S r f) (begin S' m f) begin_rel (λ p. refl) n low l)

      delete_rel : Rel T (M.demands r f s) (delete_file S (tree_in S r) s (begin S r f)) (delete_file S' (tree_in S' m) s (begin S' m f))
      delete_rel = moved _ (λ t. delete_file S' t s (begin S' m f)) (rel_delete (M.sim r f s) proper.ok (proper.once s) (M.kid r f s proper) (begin S r f) (begin S' m f) begin_rel (λ p. refl))

  -- REMOVE: the files of set c one by one
  erases_same : (c : ℕ) (fs : List ℕ) → ((f : ℕ) → Memᴰ f fs → f < 16) → (r : Store S) (m : Store S') → Standing T r m → Kept r → (r.sets c).used ≡ true →
      Standing T (each (erased_in S c) fs r) (each (erased_in S' c) fs m) × Kept (each (erased_in S c) fs r)
  unfolding each
  erases_same c [] low r m h k u = (h, k)
  erases_same c (f ∷ fs) low r m h k u =
      let q = erased_rel r m h k f c in
      erases_same c fs (λ g l. low g (Memᴰ.tail l)) (erased_in S c f r) (erased_in S' c f m)
      (finish_stands r m h k f c _ _ q)
      (M.kept_finish r f c _ k (low f (Memᴰ.head refl)) u q.good (λ _. erase_finished S (tree_in S r) c (begin S r f) (λ p. refl))) u

  unlinked_stands : (c : ℕ) (r : Store S) (m : Store S') → Standing T r m → Standing T (unlinked S c r) (unlinked S' c m)
  unfolding unlinked
  unlinked_stands c r m h = record {
    sets = ap (unlink_set c) h.sets;
    memory = h.memory;
    files = λ g. fun_ext (λ x. sym (upd_map (λ _. map_file (T.block r.memory)) (r.files g) c absent_file x ∙ ap (λ y. upd y c absent_file x) (sym (h.files g))));
  }

  remove_same : (c : ℕ) (r : Store S) (m : Store S') → Standing T r m → Kept r → (r.sets c).used ≡ true → Standing T (removed S c r) (removed S' c m) × Kept (removed S c r)
  remove_same c r m h k u =
      let q = erases_same c (from 0 16) (λ f l. from_high 0 16 f l) r m h k u in
      rw (removed_is S c r, removed_is S' c m) (
        unlinked_stands c (all_erased S c r) (all_erased S' c m) q.0,
        M.kept_unlink (all_erased S c r) c q.1 (λ f p l. ap (λ (x : File S.Block). is_stored (x.map p)) (erases_absent S c (from 0 16) r f (from_mem 0 16 f (omega arith) (omega arith)))),
      )

  module _ (r : Store S) (m : Store S') (h : Standing T r m) (k : Kept r) where
    create_stands : (s f : ℕ) → Standing T (created S s f r) (created S' s f m)
    unfolding created
    create_stands s f = record {
      sets = h.sets;
      memory = h.memory;
      files = λ g. sym (upd_map (λ _. map_files (T.block r.memory)) r.files f _ g
          ∙ ap₂ (λ x y. upd x f y g) (fun_ext (λ j. sym (h.files j)))
          (fun_ext (λ j. upd_map (λ _. map_file (T.block r.memory)) (r.files f) s new_file j ∙ ap₂ (λ x y. upd x s y j) (sym (h.files f)) (new_map (T.block r.memory)))));
    }

    make_stands : (s c : ℕ) (w : Bool) → Standing T (made S s c w r) (made S' s c w m)
    unfolding made
    make_stands s c w = record {
      sets = ap (append_set s c w) h.sets;
      memory = h.memory;
      files = λ g. fun_ext (λ j. sym (upd_map (λ _. map_file (T.block r.memory)) (r.files g) c _ j ∙ ap (λ x. upd x c (child_file (x s)) j) (sym (h.files g))));
    }

    -- EVERY CALL
    module _ (proper : ProperTree (tree_in S r)) where
      accepted_same : (c : Call) → number_of (view_of S true true r) c ≡ 0 → Same T Kept (accepted S fresh c r) (accepted S' fresh' c m)
      unfolding accepted
      accepted_same format z = record { answer = refl; stands = unfold formatted in record { sets = refl; memory = M.fresh_same; files = λ f. refl }; kept = M.kept_format }
      accepted_same (create s f) z =
          let a = passed_create (view_of S true true r) s f z in
          record { answer = refl; stands = create_stands s f; kept = M.kept_create r s f k a.set.used a.gone }
      accepted_same (write g s f off []) z = record { answer = refl; stands = h; kept = k }
      accepted_same (write g s f off (x ∷ bs)) z =
          let a = passed_write (view_of S true true r) g s f off (x ∷ bs) z in
          worked_same r m h k f s _ _ a.file a.set.used
          (λ _. write_finished S (tree_in S r) s (begin S r f) (λ p. refl) g off (x ∷ bs)) (write_rel r m h k f s proper g off (x ∷ bs) a.end_in a.room)
      accepted_same (read s f off buffer) z =
          let n : ℕ = read_count (length buffer) off (size_by_reading (tree_in S r) (r.files f) s) in
          record {
            answer = ap (λ z. (read_of S' s f off (read_count (length buffer) off z) m).answer) (size_stands T r m h f s)
                ∙ ap (λ x. record { number = 0; first = n; second = x; third = 0 }) (looks_stands T r m h f s off _);
            stands = h;
            kept = k;
          }
      accepted_same (truncate s f n) z =
          let a = passed_truncate (view_of S true true r) s f n z in
          worked_same r m h k f s _ _ a.file a.set.used
          (truncate_finished S (tree_in S r) s (begin S r f) (λ p. refl) n) (truncate_rel r m h k f s proper n a.end_in a.room)
      accepted_same (delete s f) z =
          let a = passed_delete (view_of S true true r) s f z in
          worked_same r m h k f s _ _ a.file a.set.used (λ _. delete_finished S (tree_in S r) s (begin S r f) (λ p. refl)) (delete_rel r m h k f s proper)
      accepted_same (make s c w) z =
          let a = passed_make (view_of S true true r) s c w z in
          record { answer = refl; stands = make_stands s c w; kept = M.kept_make r s c w k a.new a.unused }
      accepted_same (remove s) z =
          let q = remove_same s r m h k (passed_remove (view_of S true true r) s z).set.used in
          record { answer = refl; stands = q.0; kept = q.1 }
      accepted_same (tell_size s f) z = record { answer = ap (λ n. record { number = 0; first = n; second = 0; third = 0 }) (size_stands T r m h f s); stands = h; kept = k }
      accepted_same tell_free z = record { answer = ap (λ n. record { number = 0; first = n; second = 0; third = 0 }) (ap S'.free h.memory ∙ M.free r k); stands = h; kept = k }

      result_same : (n : ℕ) (c : Call) → number_of (view_of S true true r) c ≡ n → Same T Kept (result_of S n fresh c r) (result_of S' n fresh' c m)
      unfolding result_of
      result_same zero c z = accepted_same c z
      result_same (suc n) c z = record { answer = refl; stands = h; kept = k }

      pub calls_same : (c : Call) → Same T Kept (step S fresh c r) (step S' fresh' c m)
      unfolding step
      calls_same c =
          subst (λ n. Same T Kept (result_of S (number_of (view_of S true true r) c) fresh c r) (result_of S' n fresh' c m)) (sym (ap (λ v. number_of v c) (view_same T r m h (M.free r k) true true)))
          (result_same (number_of (view_of S true true r) c) c refl)
