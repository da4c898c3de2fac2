-- The model agrees with the plain store, call by call. Assumes nothing.
use mathlib.Core.Bool.{Bool, false, true, true≢false}
use mathlib.Core.List.{List, Memᴰ, ◌∷◌, []}
use mathlib.Core.Option.{Option, none, some}
use mathlib.Core.Path.{ap, refl, subst, sym, ◌∙◌, ◌≡◌}
use Prim.Native.Nat.{◌%◌, ◌+◌, ◌/◌, ◌<◌, ◌≤◌, max, ℕ}
use native.Mathlib.Omega.{arith}
use lib.Dec.{eqb, ltb}
use lib.ListN.{length}
use borrow.Author.Tests.{eqb-false, eqb-true, ltb-false, ltb-true}
use Rattle.base.specs.Logic.{same?}
use Rattle.base.specs.Update.{upd, upd_other, upd_same}
use Rattle.rules.proofs.Whole.Accepted.{MayMake, MayRemove, passed_create, passed_make, passed_remove, passed_truncate, passed_write}
use Rattle.rules.proofs.Agreement.Agree.{Agree, agree_write, touched_once}
use Rattle.rules.proofs.Agreement.Change.{Changed, changed}
use Rattle.rules.proofs.Agreement.Delete.{agree_gone, deleted}
use Rattle.rules.proofs.Storages.Model.{model}
use Rattle.rules.proofs.Steps.OneStep.{FilesOk}
use Rattle.rules.proofs.Steps.States.{live_present}
use Rattle.rules.proofs.Agreement.Remove.{remove_agree}
use Rattle.rules.proofs.Agreement.CreateMake.{create_agree, make_agree}
use Rattle.rules.proofs.Agreement.Truncate.{agree_cut, agree_more, agree_same, cut_off, filled_up}
use Rattle.rules.specs.Calls.{Store, accepted, begin, created, formatted, made, removed, tree_in, view_of, worked}
use Rattle.rules.specs.Numbers.{Call, View, create, delete, format, make, number_of, read, remove, tell_free, tell_size, truncate, write}
use Rattle.rules.specs.Plain.{Plain, cut_or_fill, is_none, overwrite, plain_call, plain_format, present, put_file}
use Rattle.rules.specs.Reading.{resolve, size_by_reading}
use Rattle.rules.specs.Rules.{change, delete_file, dropped_pages, extra_pages, kept_pages, part_pages, touched, truncate_as, truncate_file, write_file}
use Rattle.rules.specs.Sets.{append_set, root_alone, unlink_set}
use Rattle.rules.specs.State.{File, Files, Tree, absent_file, is_absent, live, tree_of}
use Rattle.rules.specs.Storage.{PageData, overlay, zero_from}
use Rattle.rules.specs.Trees.{add_child, root_tree, take_away}
use Rattle.rules.proofs.Steps.Handing.{ProperTree}

-- the sets and files are in order
pub record Orderly (st : Store model) : Type 0 where
  pub proper : ProperTree (tree_in model st)
  pub files_ok : (f : ℕ) → FilesOk (tree_in model st) (st.files f)
  pub small : (f s : ℕ) → size_by_reading (tree_in model st) (st.files f) s ≤ 32768
  pub unused : (f s : ℕ) → (st.sets s).used ≡ false → is_absent (st.files f s).state ≡ true

-- sets, presence, sizes and bytes are those of the plain store
pub record Plainly (st : Store model) (pl : Plain) : Type 0 where
  pub trees : pl.tree ≡ tree_in model st
  pub agree : (f : ℕ) → Agree (tree_in model st) (st.files f) (pl.files f)

pub has_list : (o : Option (List ℕ)) → is_none o ≡ false → (l : List ℕ) × (o ≡ some l)
has_list none h = absurd (true≢false h)
has_list (some l) h = (l, refl)

module _ (st : Store model) (pl : Plain) (g : Plainly st pl) where
  -- the files of one number are changed
  one_file : (f s : ℕ) (b : Files PageData) (o : Option (List ℕ)) (m : ℕ) → Agree (tree_in model st) b (upd (pl.files f) s o)
      → Plainly (record { memory = m; sets = st.sets; files = upd st.files f b }) (put_file s f o pl)
  unfolding put_file
  one_file f s b o m a = record {
    trees = g.trees;
    agree = λ f'. same? f f'
        (λ e. subst (λ y. Agree (tree_in model st) (upd st.files f b y) (upd pl.files f (upd (pl.files f) s o) y)) e
        (rw (upd_same st.files f b, upd_same pl.files f (upd (pl.files f) s o)) a))
        (λ n. rw (upd_other st.files f b f' n, upd_other pl.files f (upd (pl.files f) s o) f' n) (g.agree f'));
  }

  module _ (v : Orderly st) (B : ℕ) (seen : View) (is : seen ≡ view_of model true true st) where
    -- a live file has a list
    listed : (s f : ℕ) → live (st.files f s).state ≡ true → (l : List ℕ) × (pl.files f s ≡ some l)
    listed s f al = has_list (pl.files f s) ((g.agree f).there s ∙ live_present (st.files f s).state al)

    create_plain : (s f : ℕ) → is_absent (st.files f s).state ≡ true → Plainly (created model s f st) (plain_call (create s f) pl)
    unfolding created plain_call
    create_plain s f gone = one_file f s _ _ st.memory (create_agree (tree_in model st) (st.files f) (v.files_ok f) s gone (pl.files f) (g.agree f))

    write_plain : (k s f off x : ℕ) (bs : List ℕ) → live (st.files f s).state ≡ true
        → Plainly (worked model st f (write_file model (tree_in model st) k s off (x ∷ bs) (begin model st f))).store (plain_call (write k s f off (x ∷ bs)) pl)
    unfolding worked plain_call write_file
    write_plain k s f off x bs al =
        let t = tree_in model st in
        let ps : List ℕ = touched off (length (x ∷ bs)) in
        let q = listed s f al in
        let w = changed t v.proper s ps ps [] (extra_pages k off (length (x ∷ bs))) (λ p m. m) (λ p m k. elim m [ ]) (λ p m. elim m [ ]) (touched_once off (length (x ∷ bs))) (overlay off (x ∷ bs)) (λ n. max n (off + length (x ∷ bs))) (begin model st f) (v.files_ok f) al in
        one_file f s _ (present (pl.files f s) (λ l. overwrite l off (x ∷ bs))) _
        (rw q.1 (agree_write t s off (off + length (x ∷ bs)) (x ∷ bs) q.0 (st.files f) _ (pl.files f) q.1 al w refl (g.agree f)))

    -- a truncate, by the three cases
    cut_plain : (s f n : ℕ) (l : List ℕ) → pl.files f s ≡ some l → live (st.files f s).state ≡ true
        → Agree (tree_in model st) (truncate_file model (tree_in model st) s n (begin model st f)).files (upd (pl.files f) s (some (cut_or_fill l n)))
    unfolding truncate_file truncate_as
    cut_plain s f n l has al = go (eqb n z) (ltb z n) refl refl
      where
        t : Tree
        t = tree_in model st

        z : ℕ
        z = size_by_reading t (st.files f) s

        len : z ≡ length l
        len = (g.agree f).size s l has al

        go : (x y : Bool) → eqb n z ≡ x → ltb z n ≡ y
            → Agree (tree_in model st) (truncate_as model (tree_in model st) x y s n z (begin model st f)).files (upd (pl.files f) s (some (cut_or_fill l n)))
        go true y e d = agree_same t s n l (st.files f) (pl.files f) has al (g.agree f) (eqb-true n z e ∙ len)
        go false true e d =
            let r = filled_up t v.proper s n (begin model st f) (v.files_ok f) al in
            let h = ltb-true z n d in
            agree_more t s n l (st.files f) _ (pl.files f) has al (g.agree f) (omega (arith, len)) r
        go false false e d =
            let a = ltb-false z n d in let a' = eqb-false n z e in
            let less : n < z = omega arith in
            let most : z ≤ 32768 = v.small f s in
            let k = resolve t (st.files f) s (n / 512) in
            let r = cut_off t v.proper s n (begin model st f) (v.files_ok f) al z most less in
            agree_cut t s n l (st.files f) _ (pl.files f) has al (g.agree f) (omega (arith, len))
            (subst (λ y. Changed t s (kept_pages n k) (dropped_pages n y) (λ p. zero_from (n % 512)) (λ m. n) (st.files f)
            (change model t s (part_pages n) (kept_pages n k) (dropped_pages n z) [] (λ p. zero_from (n % 512)) (λ m. n) (begin model st f)).files) len r)

    truncate_plain : (s f n : ℕ) → live (st.files f s).state ≡ true
        → Plainly (worked model st f (truncate_file model (tree_in model st) s n (begin model st f))).store (plain_call (truncate s f n) pl)
    unfolding worked plain_call
    truncate_plain s f n al =
        let q = listed s f al in
        one_file f s _ (present (pl.files f s) (λ l. cut_or_fill l n)) _ (rw q.1 (cut_plain s f n q.0 q.1 al))

    delete_plain : (s f : ℕ) → Plainly (worked model st f (delete_file model (tree_in model st) s (begin model st f))).store (plain_call (delete s f) pl)
    unfolding worked plain_call
    delete_plain s f =
        one_file f s _ none _ (agree_gone (tree_in model st) s (st.files f) _ (pl.files f) (g.agree f) (deleted (tree_in model st) v.proper s (begin model st f) (v.files_ok f)))

    module _ (made-tree : (s c : ℕ) (w : Bool) → MayMake seen s c → tree_of (append_set s c w st.sets) ≡ add_child (tree_of st.sets) s c w)
        (removed-tree : (c : ℕ) → MayRemove seen c → tree_of (unlink_set c st.sets) ≡ take_away (tree_of st.sets) c)
        (root-tree : tree_of root_alone ≡ root_tree) where
      make_plain : (s c : ℕ) (w : Bool) → MayMake seen s c → Plainly (made model s c w st) (plain_call (make s c w) pl)
      unfolding made plain_call
      make_plain s c w m =
          let us : (st.sets s).used ≡ true = ap (λ (x : View). x.tree.used s) (sym is) ∙ m.set.used in
          let uc : (st.sets c).used ≡ false = ap (λ (x : View). x.tree.used c) (sym is) ∙ m.unused in
          let ne : s ≡ c → ⊥ = λ e. true≢false (sym us ∙ ap (λ x. (st.sets x).used) e ∙ uc) in
          record {
            trees = ap (λ t. add_child t s c w) g.trees ∙ sym (made-tree s c w m);
            agree = λ f. rw (made-tree s c w m) (make_agree (tree_in model st) s c w (st.files f) (v.files_ok f) ne (v.unused f c uc) (pl.files f) (g.agree f));
          }

      remove_plain : (c : ℕ) → MayRemove seen c → Plainly (removed model c st) (plain_call (remove c) pl)
      unfolding removed plain_call
      remove_plain c m =
          let none_in : (x : ℕ) → Memᴰ x ((tree_in model st).children c) → ⊥ = λ x k. elim (subst (λ l. Memᴰ x l) (ap (λ (y : View). y.tree.children c) (sym is) ∙ m.childless) k) [ ] in
          record {
            trees = ap (λ t. take_away t c) g.trees ∙ sym (removed-tree c m);
            agree = λ f. rw (removed-tree c m)
                (remove_agree (tree_in model st) v.proper.ok c none_in (st.files f) (upd (st.files f) c absent_file) (v.files_ok f)
                (ap (λ (y : File PageData). y.state) (upd_same (st.files f) c absent_file)) (λ x n. upd_other (st.files f) c absent_file x n) (pl.files f) (g.agree f));
          }

      format_plain : Plainly (formatted model B) (plain_call format pl)
      unfolding formatted plain_call plain_format
      format_plain = record {
        trees = sym root-tree;
        agree = λ f. record { there = λ s. refl; size = λ s l e a. absurd (true≢false (sym a)); byte = λ s l e a i h. absurd (true≢false (sym a)) };
      }

      -- AN ACCEPTED CALL
      pub accepted_plain : (c : Call) → number_of seen c ≡ 0 → Plainly (accepted model B c st).store (plain_call c pl)
      unfolding accepted plain_call
      accepted_plain format h = format_plain
      accepted_plain (create s f) h = create_plain s f (ap (λ (x : View). is_absent (x.state f s)) (sym is) ∙ (passed_create seen s f h).gone)
      accepted_plain (write k s f off []) h = g
      accepted_plain (write k s f off (x ∷ bs)) h = write_plain k s f off x bs (ap (λ (x : View). live (x.state f s)) (sym is) ∙ (passed_write seen k s f off (x ∷ bs) h).alive)
      accepted_plain (read s f off buffer) h = g
      accepted_plain (truncate s f n) h = truncate_plain s f n (ap (λ (x : View). live (x.state f s)) (sym is) ∙ (passed_truncate seen s f n h).alive)
      accepted_plain (delete s f) h = delete_plain s f
      accepted_plain (make s c w) h = make_plain s c w (passed_make seen s c w h)
      accepted_plain (remove s) h = remove_plain s (passed_remove seen s h)
      accepted_plain (tell_size s f) h = g
      accepted_plain tell_free h = g
