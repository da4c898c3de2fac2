-- Create and make over the model: one set's file comes, the others read what they read. Assumes nothing.
use mathlib.Core.Bool.{Bool, false, true, true≢false}
use mathlib.Core.List.Memᴰ
use mathlib.Core.List.{◌++◌, List, Memᴰ, ◌∷◌, []}
use mathlib.Core.Logic.{inl, inr, ◌⊎◌, ⊎_elim}
use mathlib.Core.Option.{Option, some}
use mathlib.Core.Path.{◌≡◌, ap, refl, subst, sym, ◌∙◌}
use Prim.Native.Nat.{◌%◌, ◌/◌, ◌<◌, suc, ℕ}
use native.Mathlib.Omega.{arith}
use lib.Dec.{lit<}
use lib.ListN.{get_or, length}
use borrow.Author.Tests.{lt-ltb}
use Rattle.base.specs.Logic.{same?}
use Rattle.base.specs.Update.{upd, upd_other, upd_same}
use Rattle.rules.proofs.Agreement.Agree.{Agree, agree_one}
use Rattle.rules.proofs.Steps.OneStep.{Alive, FilesOk, TreeOk, resolve_up, shown_none, shown_size_none, size_up}
use Rattle.rules.proofs.Steps.States.{live_present}
use Rattle.rules.proofs.Steps.Walk.{walk_move}
use Rattle.rules.proofs.Steps.WriterSteps.{bytes, resolve_here, size_here}
use Rattle.rules.specs.Calls.{new_file}
use Rattle.rules.specs.Reading.{resolve, shown_entry, shown_size, size_by_reading}
use Rattle.rules.specs.Rules.{holes}
use Rattle.rules.specs.Sets.{child_file, child_state}
use Rattle.rules.specs.State.{File, Files, State, Tree, absent, hole, is_absent, live, marked, own, unmapped, virgin}
use Rattle.rules.specs.Storage.{PageData}
use Rattle.rules.specs.Trees.{add_child}

module _ {K : Type 0} (t t' : Tree) (a b : Files K) (k : FilesOk t a) (c : ℕ)
    (links : (x : ℕ) → (c ≡ x → ⊥) → t'.parent x ≡ t.parent x) (levels : (x : ℕ) → (c ≡ x → ⊥) → t'.level x ≡ t.level x)
    (others : (x : ℕ) → (c ≡ x → ⊥) → b x ≡ a x) (leaf : (x p : ℕ) → p < 64 → Alive a x → (a x).map p ≡ unmapped → c ≡ t.parent x → ⊥) where
  abbrev Away : ℕ → Type 0
  Away x = (c ≡ x → ⊥) × Alive a x

  pub away_page : (x p : ℕ) → p < 64 → (c ≡ x → ⊥) → Alive a x → resolve t' b x p ≡ resolve t a x p
  unfolding resolve
  away_page x p l n al =
      rw (levels x n)
      (walk_move t.parent t'.parent (λ (y : File K). shown_entry (y.map p)) hole a b Away (λ x q. ap (λ (y : File K). shown_entry (y.map p)) (others x q.0)) (λ x q. links x q.0)
      (λ x q e. let u = shown_none _ e in (leaf x p l q.1 u, k.closed x p l q.1 u)) (t.level x) x (n, al))

  pub away_size : (x : ℕ) → (c ≡ x → ⊥) → Alive a x → size_by_reading t' b x ≡ size_by_reading t a x
  unfolding size_by_reading
  away_size x n al =
      rw (levels x n)
      (walk_move t.parent t'.parent (λ (y : File K). shown_size y.state y.size) 0 a b Away (λ x q. ap (λ (y : File K). shown_size y.state y.size) (others x q.0)) (λ x q. links x q.0)
      (λ x q e. let u = k.bare x 0 (lit< tt) (shown_size_none _ _ e) in (leaf x 0 (lit< tt) q.1 u, k.closed x 0 (lit< tt) q.1 u)) (t.level x) x (n, al))

-- CREATE
module _ (t : Tree) (a : Files PageData) (k : FilesOk t a) (s : ℕ) (out : is_absent (a s).state ≡ true) (pf : ℕ → Option (List ℕ)) (g : Agree t a pf) where
  abbrev after : Files PageData
  after = upd a s (new_file)

  dead : (x : ℕ) → s ≡ x → Alive a x → ⊥
  dead x e al = true≢false (sym out ∙ ap (λ y. is_absent (a y).state) e ∙ live_present (a x).state al)

  was : (x : ℕ) → (s ≡ x → ⊥) → Alive after x → Alive a x
  was x n al = ap (λ (y : File PageData). live y.state) (sym (upd_other a s _ x n)) ∙ al

  new_map : (p : ℕ) → p < 64 → (after s).map p ≡ hole
  unfolding holes
  new_map p l = ap (λ (y : File PageData). y.map p) (upd_same a s _) ∙ rw (lt-ltb p 64 l)

  leaf : (x p : ℕ) → p < 64 → Alive a x → (a x).map p ≡ unmapped → s ≡ t.parent x → ⊥
  leaf x p l al u e = dead (t.parent x) e (k.closed x p l al u)

  pub create_agree : Agree t after (upd pf s (some []))
  create_agree =
      agree_one t t a after pf g s (some []) (λ x n. ap (λ (y : File PageData). is_absent y.state) (upd_other a s _ x n)) was
      (λ x p l n al. away_page t t a after k s (λ _ _. refl) (λ _ _. refl) (upd_other a s _) leaf x p l n (was x n al))
      (λ x n al. away_size t t a after k s (λ _ _. refl) (λ _ _. refl) (upd_other a s _) leaf x n (was x n al))
      (sym (ap (λ (y : File PageData). is_absent y.state) (upd_same a s _)))
      (λ l e al. let q : [] ≡ l = cc in size_here t after s (ap (λ (y : File PageData). y.state) (upd_same a s _)) ∙ ap (λ (y : File PageData). y.size) (upd_same a s _) ∙ ap length q)
      (λ l e al i h. let q : [] ≡ l = cc in ap (λ r. bytes r (i % 512)) (resolve_here t after s (i / 512) hole (new_map (i / 512) (omega arith)) refl) ∙ ap (λ z. get_or z i 0) q)

-- MAKE
module _ (t : Tree) (s c : ℕ) (wr : Bool) where
  abbrev tree' : Tree
  tree' = add_child t s c wr

  make_links : (x : ℕ) → (c ≡ x → ⊥) → tree'.parent x ≡ t.parent x
  unfolding add_child
  make_links x n = upd_other t.parent c s x n

  make_levels : (x : ℕ) → (c ≡ x → ⊥) → tree'.level x ≡ t.level x
  unfolding add_child
  make_levels x n = upd_other t.level c _ x n

  make_par : tree'.parent c ≡ s
  unfolding add_child
  make_par = upd_same t.parent c s

  make_lvl : tree'.level c ≡ suc (t.level s)
  unfolding add_child
  make_lvl = upd_same t.level c _

  make_kids : (x : ℕ) → (s ≡ x → ⊥) → (c ≡ x → ⊥) → tree'.children x ≡ t.children x
  unfolding add_child
  make_kids x n m = upd_other _ s _ x n ∙ upd_other t.children c [] x m

  make_kids_s : tree'.children s ≡ t.children s ++ (c ∷ [])
  unfolding add_child
  make_kids_s = upd_same _ s _

  make_kids_c : (s ≡ c → ⊥) → tree'.children c ≡ []
  unfolding add_child
  make_kids_c n = upd_other _ s _ c n ∙ upd_same t.children c []

  make_used : (x : ℕ) → t.used x ≡ true → tree'.used x ≡ true
  unfolding add_child
  make_used x h = same? c x (λ e. subst (λ y. upd t.used c true y ≡ true) e (upd_same t.used c true)) (λ n. upd_other t.used c true x n ∙ h)

  make_used_c : tree'.used c ≡ true
  unfolding add_child
  make_used_c = upd_same t.used c true

  listed_more : (x y : ℕ) → (c ≡ y → ⊥) → Memᴰ x (t.children y) → Memᴰ x (tree'.children y)
  listed_more x y n m =
      same? s y (λ e. subst (λ z. Memᴰ x (t.children z) → Memᴰ x (tree'.children z)) e (λ m. rw make_kids_s (Memᴰ.append_left (c ∷ []) m)) m) (λ e. rw (make_kids y e n) m)

  module _ (ok : TreeOk t) (us : t.used s ≡ true) (uc : t.used c ≡ false) where
    other : (x : ℕ) → t.used x ≡ true → c ≡ x → ⊥
    other x h e = true≢false (sym h ∙ ap t.used (sym e) ∙ uc)

    -- a child afterwards was one, or is the new one
    kid : (x m : ℕ) → Memᴰ m (tree'.children x) → (Memᴰ m (t.children x)) ⊎ ((m ≡ c) × (x ≡ s))
    kid x m h =
        same? s x
        (λ e. ⊎_elim (λ k. inl (subst (λ y. Memᴰ m (t.children y)) e k)) (λ k. inr (⊎_elim (λ q. q) (λ n. elim n [ ]) (Memᴰ.cases_cons k), sym e))
        (Memᴰ.append_cases (t.children s) (subst (λ l. Memᴰ m l) make_kids_s (subst (λ y. Memᴰ m (tree'.children y)) (sym e) h))))
        (λ n. same? c x
        (λ e. elim (subst (λ l. Memᴰ m l) (make_kids_c (λ q. n (q ∙ e))) (subst (λ y. Memᴰ m (tree'.children y)) (sym e) h)) [ ])
        (λ d. inl (subst (λ l. Memᴰ m l) (make_kids x n d) h)))

    pub make_tree : TreeOk tree'
    make_tree = record {
      lower = λ x n e. same? c x
          (λ q. subst (λ y. tree'.level y ≡ suc n → tree'.level (tree'.parent y) ≡ n) q (λ e. let z = make_lvl in rw (make_par, make_levels s (other s us)) (omega arith)) e)
          (λ d. let e' = sym (make_levels x d) ∙ e in rw (make_links x d, make_levels (t.parent x) (other (t.parent x) (ok.above x n e'))) (ok.lower x n e'));
      kid_par = λ x m h. ⊎_elim (λ k. make_links m (other m (ok.kid_used x m k)) ∙ ok.kid_par x m k) (λ q. ap tree'.parent q.0 ∙ make_par ∙ sym q.1) (kid x m h);
      kid_lvl = λ x m h. ⊎_elim
          (λ k. make_levels m (other m (ok.kid_used x m k)) ∙ ok.kid_lvl x m k ∙
          ap suc (sym (make_levels x (other x (ap t.used (sym (ok.kid_par x m k)) ∙ ok.above m (t.level x) (ok.kid_lvl x m k))))))
          (λ q. ap tree'.level q.0 ∙ make_lvl ∙ ap suc (sym (ap tree'.level q.1 ∙ make_levels s (other s us)))) (kid x m h);
      kid_used = λ x m h. ⊎_elim (λ k. make_used m (ok.kid_used x m k)) (λ q. ap tree'.used q.0 ∙ make_used_c) (kid x m h);
      above = λ x n e. same? c x (λ q. subst (λ y. tree'.used (tree'.parent y) ≡ true) q (rw make_par (make_used s us)))
          (λ d. let e' = sym (make_levels x d) ∙ e in rw (make_links x d) (make_used (t.parent x) (ok.above x n e')));
      child = λ x n e. same? c x (λ q. subst (λ y. Memᴰ y (tree'.children (tree'.parent y))) q (rw (make_par, make_kids_s) (Memᴰ.append_right (t.children s) (Memᴰ.head refl))))
          (λ d. let e' = sym (make_levels x d) ∙ e in rw (make_links x d) (listed_more x (t.parent x) (other (t.parent x) (ok.above x n e')) (ok.child x n e')));
    }

  module _ (a : Files PageData) (k : FilesOk t a) (ne : s ≡ c → ⊥) (out : is_absent (a c).state ≡ true) (pf : ℕ → Option (List ℕ)) (g : Agree t a pf) where
    abbrev files' : Files PageData
    files' = upd a c (child_file (a s))

    c_dead : (x : ℕ) → c ≡ x → Alive a x → ⊥
    c_dead x e al = true≢false (sym out ∙ ap (λ y. is_absent (a y).state) e ∙ live_present (a x).state al)

    c_was : (x : ℕ) → (c ≡ x → ⊥) → Alive files' x → Alive a x
    c_was x n al = ap (λ (y : File PageData). live y.state) (sym (upd_other a c _ x n)) ∙ al

    c_leaf : (x p : ℕ) → p < 64 → Alive a x → (a x).map p ≡ unmapped → c ≡ t.parent x → ⊥
    c_leaf x p l al u e = c_dead (t.parent x) e (k.closed x p l al u)

    child_state_law : (l : State) → is_absent (child_state l) ≡ is_absent l
    child_state_law absent = refl
    child_state_law own = refl
    child_state_law virgin = refl
    child_state_law marked = refl

    child_alive : (l : State) → live (child_state l) ≡ true → live l ≡ true
    child_alive absent h = h
    child_alive own h = refl
    child_alive virgin h = refl
    child_alive marked h = h

    child_virgin : (l : State) → live l ≡ true → child_state l ≡ virgin
    child_virgin absent h = cc
    child_virgin own h = refl
    child_virgin virgin h = refl
    child_virgin marked h = cc

    here : files' c ≡ child_file (a s)
    here = upd_same a c _

    s_alive : Alive files' c → Alive a s
    s_alive al = child_alive (a s).state (sym (ap (λ (y : File PageData). live y.state) here) ∙ al)

    up_lvl : tree'.level c ≡ suc (tree'.level (tree'.parent c))
    up_lvl = make_lvl ∙ ap suc (sym (ap tree'.level make_par ∙ make_levels s (λ e. ne (sym e))))

    page' : (x p : ℕ) → p < 64 → (c ≡ x → ⊥) → Alive a x → resolve tree' files' x p ≡ resolve t a x p
    page' x p l n al = away_page t tree' a files' k c make_links make_levels (upd_other a c _) c_leaf x p l n al

    size' : (x : ℕ) → (c ≡ x → ⊥) → Alive a x → size_by_reading tree' files' x ≡ size_by_reading t a x
    size' x n al = away_size t tree' a files' k c make_links make_levels (upd_other a c _) c_leaf x n al

    new_page : (p : ℕ) → p < 64 → Alive files' c → resolve tree' files' c p ≡ resolve t a s p
    new_page p l al =
        resolve_up tree' files' c p up_lvl (ap (λ (y : File PageData). y.map p) here) ∙ ap (λ x. resolve tree' files' x p) make_par ∙ page' s p l (λ e. ne (sym e)) (s_alive al)

    new_size : Alive files' c → size_by_reading tree' files' c ≡ size_by_reading t a s
    new_size al =
        size_up tree' files' c up_lvl (ap (λ (y : File PageData). y.state) here ∙ child_virgin (a s).state (s_alive al)) ∙ ap (size_by_reading tree' files') make_par ∙ size' s (λ e. ne (sym e)) (s_alive al)

    pub make_agree : Agree tree' files' (upd pf c (pf s))
    make_agree =
        agree_one t tree' a files' pf g c (pf s) (λ x n. ap (λ (y : File PageData). is_absent y.state) (upd_other a c _ x n)) c_was
        (λ x p l n al. page' x p l n (c_was x n al)) (λ x n al. size' x n (c_was x n al))
        (g.there s ∙ sym (ap (λ (y : File PageData). is_absent y.state) here ∙ child_state_law (a s).state))
        (λ l e al. new_size al ∙ g.size s l e (s_alive al))
        (λ l e al i h. ap (λ r. bytes r (i % 512)) (new_page (i / 512) (omega arith) al) ∙ g.byte s l e (s_alive al) i h)
