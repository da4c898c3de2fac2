-- Create, make, remove and format keep the rules on files: the file of one set comes or goes, and no other is read through it. Over any blocks. Assumes nothing.
use mathlib.Core.Bool.{Bool, false, true, true≢false}
use mathlib.Core.List.{Memᴰ, []}
use mathlib.Core.Path.{◌≡◌, ap, refl, subst, sym, ◌∙◌}
use Prim.Native.Nat.{◌*◌, ◌<◌, suc, ℕ, ◌≤◌}
use native.Mathlib.Omega.{arith}
use borrow.Author.Tests.{le-ltb, lt-ltb}
use Rattle.base.specs.Logic.{same?}
use Rattle.base.specs.Update.{upd, upd_other, upd_same}
use Rattle.rules.proofs.Tree.MakeSet.{make_same}
use Rattle.rules.proofs.Steps.OneStep.{Alive, TreeOk, resolve_up, size_up}
use Rattle.rules.proofs.Steps.States.{absent_is, live_present}
use Rattle.rules.proofs.Formed.Past.{past_one}
use Rattle.rules.proofs.Agreement.Remove.{remove_tree}
use Rattle.rules.proofs.Tree.RemoveSet.{remove_same}
use Rattle.rules.proofs.Agreement.CreateMake.{away_page, away_size, make_tree}
use Rattle.rules.proofs.Tree.SetsOk.{SetsOk}
use Rattle.rules.proofs.Formed.MarkedBare.{bare_whole}
use Rattle.rules.proofs.Formed.Shape.{FileFits, FilesFormed, fits_absent}
use Rattle.rules.proofs.Steps.WriterSteps.{resolve_here}
use Rattle.rules.specs.Calls.{new_file}
use Rattle.rules.specs.Reading.{resolve, size_by_reading}
use Rattle.rules.specs.Rules.{holes, marked_file}
use Rattle.rules.specs.Sets.{append_set, child_file, child_state, unlink_set}
use Rattle.rules.specs.State.{File, Files, SetRecord, State, Tree, absent, absent_file, children_of, hole, is_absent, is_stored, live, marked, own, tree_of, unmapped, virgin}
use Rattle.rules.specs.Trees.{add_child, take_away}

-- The file of set c becomes y, and perhaps the tree changes at c; no live file reads through c.
module _ {K : Type 0} (t t' : Tree) (ok : TreeOk t) (ok' : TreeOk t') (a : Files K) (k : FilesFormed t a) (c : ℕ) (y : File K)
    (links : (x : ℕ) → (c ≡ x → ⊥) → t'.parent x ≡ t.parent x) (levels : (x : ℕ) → (c ≡ x → ⊥) → t'.level x ≡ t.level x) (uses : (x : ℕ) → (c ≡ x → ⊥) → t'.used x ≡ t.used x)
    (leaf : (x p : ℕ) → p < 64 → Alive a x → (a x).map p ≡ unmapped → c ≡ t.parent x → ⊥) where
  abbrev b : Files K
  b = upd a c y

  was : (x : ℕ) → (c ≡ x → ⊥) → Alive b x → Alive a x
  was x n h = ap (λ (f : File K). live f.state) (sym (upd_other a c y x n)) ∙ h

  was_map : (x p : ℕ) → (c ≡ x → ⊥) → (b x).map p ≡ unmapped → (a x).map p ≡ unmapped
  was_map x p n u = ap (λ (f : File K). f.map p) (sym (upd_other a c y x n)) ∙ u

  here : b c ≡ y
  here = upd_same a c y

  other_page : (x p : ℕ) → p < 64 → (c ≡ x → ⊥) → Alive a x → resolve t' b x p ≡ resolve t a x p
  other_page x p l n h = away_page t t' a b k.ok c links levels (upd_other a c y) leaf x p l n h

  other_size : (x : ℕ) → (c ≡ x → ⊥) → Alive a x → size_by_reading t' b x ≡ size_by_reading t a x
  other_size x n h = away_size t t' a b k.ok c links levels (upd_other a c y) leaf x n h

  other_fits : (x : ℕ) → (c ≡ x → ⊥) → FileFits t' x (a x)
  other_fits x n = let f = k.shape x in record {
    empty = f.empty;
    unused = λ u. f.unused (sym (uses x n) ∙ u);
    out = f.out;
    beyond = f.beyond;
    most = f.most;
    bare_size = f.bare_size;
    root_own = f.root_own;
    root_full = f.root_full;
  }

  replaced : FileFits t' c y → ((p : ℕ) → p < 64 → live y.state ≡ true → y.map p ≡ unmapped → Alive b (t'.parent c) × Memᴰ c (t'.children (t'.parent c))) →
      ((p : ℕ) → p < 64 → y.state ≡ virgin → y.map p ≡ unmapped) → ((p : ℕ) → p < 64 → Alive b c → size_by_reading t' b c ≤ p * 512 → is_stored (resolve t' b c p) ≡ false) → (y.state ≡ marked → y ≡ marked_file) → FilesFormed t' b
  replaced fits up bare' past' marks = record {
    shape = λ x. same? c x (λ e. subst (λ z. FileFits t' z (b z)) e (rw here fits)) (λ n. rw (upd_other a c y x n) (other_fits x n));
    ok = record {
      closed = λ x p l h u. same? c x
          (λ e. subst (λ z. Alive b z → (b z).map p ≡ unmapped → Alive b (t'.parent z)) e (λ h u. (up_c p l h u).0) h u)
          (λ n. let q = was x n h in let v = was_map x p n u in
          rw (links x n) (ap (λ (f : File K). live f.state) (upd_other a c y (t.parent x) (leaf x p l q v)) ∙ k.ok.closed x p l q v));
      listed = λ x p l h u. same? c x
          (λ e. subst (λ z. Alive b z → (b z).map p ≡ unmapped → Memᴰ z (t'.children (t'.parent z))) e (λ h u. (up_c p l h u).1) h u)
          (λ n. ok'.child x (t.level (t.parent x)) (levels x n ∙ ok.kid_lvl (t.parent x) x (k.ok.listed x p l (was x n h) (was_map x p n u))));
      bare = λ x p l v. same? c x
          (λ e. subst (λ z. (b z).state ≡ virgin → (b z).map p ≡ unmapped) e (rw here (λ v. bare' p l v)) v)
          (λ n. ap (λ (f : File K). f.map p) (upd_other a c y x n) ∙ k.ok.bare x p l (ap (λ (f : File K). f.state) (sym (upd_other a c y x n)) ∙ v));
    };
    past = past_one t t' a b c k was (λ x p l n h. other_page x p l n (was x n h)) (λ x n h. other_size x n (was x n h)) past';
    bare_marked = bare_whole c a (λ x n. k.bare_marked x) y marks;
  }
    where
      up_c : (p : ℕ) → p < 64 → Alive b c → (b c).map p ≡ unmapped → Alive b (t'.parent c) × Memᴰ c (t'.children (t'.parent c))
      up_c p l h u = up p l (ap (λ (f : File K). live f.state) (sym here) ∙ h) (ap (λ (f : File K). f.map p) (sym here) ∙ u)

-- an absent file is read by nobody
absent_leaf : {K : Type 0} (t : Tree) (a : Files K) → FilesFormed t a → (c : ℕ) → is_absent (a c).state ≡ true →
    (x p : ℕ) → p < 64 → Alive a x → (a x).map p ≡ unmapped → c ≡ t.parent x → ⊥
absent_leaf t a k c out x p l h u e =
    true≢false (sym out ∙ ap (λ z. is_absent (a z).state) e ∙ live_present (a (t.parent x)).state (k.ok.closed x p l h u))

-- CREATE
module _ {K : Type 0} (t : Tree) (ok : TreeOk t) (a : Files K) (k : FilesFormed t a) (s : ℕ) (us : t.used s ≡ true) (s8 : s < 8) (out : is_absent (a s).state ≡ true) where
  new_hole : (p : ℕ) → p < 64 → (new_file {K = K}).map p ≡ hole
  unfolding holes
  new_hole p l = rw (lt-ltb p 64 l)

  new_full : (p : ℕ) → p < 64 → (new_file {K = K}).map p ≡ unmapped → ⊥
  new_full p l u = let e = new_hole p l in let z : ◌≡◌ {A = ℕ} 0 1 = cc in omega arith

  pub create_formed : FilesFormed t (upd a s new_file)
  unfolding holes
  create_formed =
      replaced t t ok ok a k s new_file (λ x n. refl) (λ x n. refl) (λ x n. refl) (absent_leaf t a k s out)
      (record {
        empty = λ e. absurd (true≢false (sym e));
        unused = λ u. absurd (true≢false (sym us ∙ u));
        out = λ l. absurd (omega arith);
        beyond = λ p l. rw (le-ltb p 64 l);
        most = omega arith;
        bare_size = λ v. refl;
        root_own = λ z h. refl;
        root_full = λ z h. new_full;
      })
      (λ p l h u. absurd (new_full p l u))
      (λ p l v. cc)
      (λ p l h z. ap is_stored (resolve_here t (upd a s new_file) s p hole (ap (λ (f : File K). f.map p) (upd_same a s new_file) ∙ new_hole p l) refl))
      (λ m. cc)

-- MAKE
child_live : (l : State) → live (child_state l) ≡ true → (live l ≡ true) × (child_state l ≡ virgin)
child_live absent h = absurd (true≢false (sym h))
child_live own h = (refl, refl)
child_live virgin h = (refl, refl)
child_live marked h = absurd (true≢false (sym h))

module _ {K : Type 0} (t : Tree) (ok : TreeOk t) (a : Files K) (k : FilesFormed t a) (s c : ℕ) (w : Bool) (us : t.used s ≡ true) (c8 : c < 8) (c0 : c ≡ 0 → ⊥) (uc : t.used c ≡ false) where
  abbrev more : Tree
  more = add_child t s c w

  apart : c ≡ s → ⊥
  apart e = true≢false (sym us ∙ ap t.used (sym e) ∙ uc)

  more_ok : TreeOk more
  more_ok = make_tree t s c w ok us uc

  more_parent : more.parent c ≡ s
  unfolding add_child
  more_parent = upd_same t.parent c s

  more_level : more.level c ≡ suc (t.level s)
  unfolding add_child
  more_level = upd_same t.level c _

  more_used : more.used c ≡ true
  unfolding add_child
  more_used = upd_same t.used c true

  more_links : (x : ℕ) → (c ≡ x → ⊥) → more.parent x ≡ t.parent x
  unfolding add_child
  more_links x n = upd_other t.parent c s x n

  more_levels : (x : ℕ) → (c ≡ x → ⊥) → more.level x ≡ t.level x
  unfolding add_child
  more_levels x n = upd_other t.level c _ x n

  more_uses : (x : ℕ) → (c ≡ x → ⊥) → more.used x ≡ t.used x
  unfolding add_child
  more_uses x n = upd_other t.used c true x n

  abbrev files' : Files K
  files' = upd a c (child_file (a s))

  no_reader : (x p : ℕ) → p < 64 → Alive a x → (a x).map p ≡ unmapped → c ≡ t.parent x → ⊥
  no_reader = absent_leaf t a k c ((k.shape c).unused uc)

  made_live : Alive files' c → (live (a s).state ≡ true) × (child_state (a s).state ≡ virgin)
  made_live h = child_live (a s).state (ap (λ (f : File K). live f.state) (sym (upd_same a c (child_file (a s)))) ∙ h)

  one_up : more.level c ≡ suc (more.level (more.parent c))
  one_up = more_level ∙ ap suc (sym (ap more.level more_parent ∙ more_levels s apart))

  made_page : (p : ℕ) → p < 64 → Alive files' c → resolve more files' c p ≡ resolve t a s p
  made_page p l h =
      resolve_up more files' c p one_up (ap (λ (f : File K). f.map p) (upd_same a c (child_file (a s)))) ∙ ap (λ x. resolve more files' x p) more_parent
      ∙ other_page t more ok more_ok a k c (child_file (a s)) more_links more_levels more_uses no_reader s p l apart (made_live h).0

  made_size : Alive files' c → size_by_reading more files' c ≡ size_by_reading t a s
  made_size h =
      size_up more files' c one_up (ap (λ (f : File K). f.state) (upd_same a c (child_file (a s))) ∙ (made_live h).1) ∙ ap (size_by_reading more files') more_parent
      ∙ other_size t more ok more_ok a k c (child_file (a s)) more_links more_levels more_uses no_reader s apart (made_live h).0

  make_formed : FilesFormed (add_child t s c w) (upd a c (child_file (a s)))
  make_formed =
      replaced t more ok more_ok a k c (child_file (a s)) more_links more_levels more_uses no_reader
      (record {
        empty = λ e. let q = absent_is (child_state (a s).state) e in λ i. record { state = q i; size = 0; map = λ p. unmapped };
        unused = λ u. absurd (true≢false (sym more_used ∙ u));
        out = λ l. absurd (omega arith);
        beyond = λ p l. refl;
        most = omega arith;
        bare_size = λ v. refl;
        root_own = λ z h. absurd (c0 z);
        root_full = λ z h. absurd (c0 z);
      })
      (λ p l h u.
      (rw (more_parent, upd_other a c (child_file (a s)) s apart) (child_live (a s).state h).0, more_ok.child c (t.level s) more_level))
      (λ p l v. refl)
      (λ p l h z. rw (made_page p l h) (k.past s p l (made_live h).0 (subst (λ n. n ≤ p * 512) (made_size h) z)))
      (λ m i. record { state = m i; size = 0; map = λ p. unmapped })

-- REMOVE
module _ {K : Type 0} (t : Tree) (ok : TreeOk t) (a : Files K) (k : FilesFormed t a) (c : ℕ) (leaf : (x : ℕ) → Memᴰ x (t.children c) → ⊥) where
  less_links : (x : ℕ) → (c ≡ x → ⊥) → (take_away t c).parent x ≡ t.parent x
  unfolding take_away
  less_links x n = upd_other t.parent c 0 x n

  less_levels : (x : ℕ) → (c ≡ x → ⊥) → (take_away t c).level x ≡ t.level x
  unfolding take_away
  less_levels x n = upd_other t.level c 0 x n

  less_uses : (x : ℕ) → (c ≡ x → ⊥) → (take_away t c).used x ≡ t.used x
  unfolding take_away
  less_uses x n = upd_other t.used c false x n

  remove_formed : FilesFormed (take_away t c) (upd a c absent_file)
  remove_formed =
      replaced t (take_away t c) ok (remove_tree t ok c leaf) a k c absent_file less_links less_levels less_uses
      (λ x p l h u e. leaf x (subst (λ z. Memᴰ x (t.children z)) (sym e) (k.ok.listed x p l h u)))
      (fits_absent (take_away t c) c)
      (λ p l h u. absurd (true≢false (sym h)))
      (λ p l v. refl)
      (λ p l h z. absurd (true≢false (sym h ∙ ap (λ (f : File K). live f.state) (upd_same a c absent_file))))
      (λ m. cc)

-- The same on set records.
module _ {K : Type 0} (sets : ℕ → SetRecord) (so : SetsOk sets) (a : Files K) (k : FilesFormed (tree_of sets) a) where
  pub make_records : (s c : ℕ) (w : Bool) → (sets s).used ≡ true → c < 8 → (sets c).used ≡ false → FilesFormed (tree_of (append_set s c w sets)) (upd a c (child_file (a s)))
  make_records s c w us c8 uc =
      rw (make_same sets so s c w us c8 uc)
      (make_formed (tree_of sets) so.tree a k s c w us c8 (λ e. true≢false (sym so.root_used ∙ ap (λ x. (sets x).used) (sym e) ∙ uc)) uc)

  pub remove_records : (c : ℕ) → (sets c).used ≡ true → (c ≡ 0 → ⊥) → children_of sets c ≡ [] → FilesFormed (tree_of (unlink_set c sets)) (upd a c absent_file)
  remove_records c uc c0 leaf =
      rw (remove_same sets so c uc c0 leaf) (remove_formed (tree_of sets) so.tree a k c (λ x m. elim (subst (λ l. Memᴰ x l) leaf m) [ ]))

-- FORMAT: no files
pub format_formed : {K : Type 0} (t : Tree) → FilesFormed {K = K} t (λ s. absent_file)
format_formed t = record {
  shape = λ s. fits_absent t s;
  ok = record { closed = λ s p l h u. absurd (true≢false (sym h)); listed = λ s p l h u. absurd (true≢false (sym h)); bare = λ s p l v. refl };
  past = λ s p l h z. absurd (true≢false (sym h));
  bare_marked = λ s m. cc;
}
