-- Removing a set over the model. Assumes nothing.
use mathlib.Core.Bool.{Bool, cond, false, true}
use mathlib.Core.List.Memᴰ
use mathlib.Core.List.{List, Memᴰ, ◌∷◌, []}
use mathlib.Core.Logic.{inl, inr, ◌⊎◌, ⊎_elim}
use mathlib.Core.Option.{Option, none}
use mathlib.Core.Path.{ap, refl, subst, sym, ◌∙◌, ◌≡◌}
use Prim.Native.Nat.{◌<◌, suc, ℕ}
use native.Mathlib.Omega.{arith}
use lib.Dec.{eqb}
use borrow.Author.Tests.{eqb-false, eqb-true}
use Rattle.base.specs.Logic.{same?}
use Rattle.base.specs.Update.{upd, upd_other, upd_same}
use Rattle.rules.proofs.Agreement.Agree.{Agree, agree_one}
use Rattle.rules.proofs.Steps.OneStep.{Alive, FilesOk, TreeOk}
use Rattle.rules.proofs.Agreement.CreateMake.{away_page, away_size}
use Rattle.rules.specs.State.{File, Files, Tree, absent, is_absent, live, unmapped}
use Rattle.rules.specs.Storage.{PageData}
use Rattle.rules.specs.Trees.{take_away, without}

without_mem : (c m : ℕ) (xs : List ℕ) → Memᴰ m (without c xs) → (Memᴰ m xs) × (c ≡ m → ⊥)
unfolding without
without_mem c m [] h = elim h [ ]
without_mem c m (x ∷ xs) h = go (eqb c x) refl h (without_mem c m xs)
  where
    go : (b : Bool) → eqb c x ≡ b → Memᴰ m (cond b (without c xs) (x ∷ without c xs)) → (Memᴰ m (without c xs) → (Memᴰ m xs) × (c ≡ m → ⊥)) → (Memᴰ m (x ∷ xs)) × (c ≡ m → ⊥)
    go true e h r = (Memᴰ.tail (r h).0, (r h).1)
    go false e h r = ⊎_elim (λ q. (Memᴰ.head q, λ d. eqb-false c x e (d ∙ q))) (λ k. (Memᴰ.tail (r k).0, (r k).1)) (Memᴰ.cases_cons h)

without_keeps : (c m : ℕ) (xs : List ℕ) → Memᴰ m xs → (c ≡ m → ⊥) → Memᴰ m (without c xs)
unfolding without
without_keeps c m [] h n = elim h [ ]
without_keeps c m (x ∷ xs) h n = go (eqb c x) refl (λ k. without_keeps c m xs k n) (Memᴰ.cases_cons h)
  where
    go : (b : Bool) → eqb c x ≡ b → (Memᴰ m xs → Memᴰ m (without c xs)) → (m ≡ x) ⊎ Memᴰ m xs → Memᴰ m (cond b (without c xs) (x ∷ without c xs))
    go true e r (inl q) = absurd (n (eqb-true c x e ∙ sym q))
    go true e r (inr k) = r k
    go false e r (inl q) = Memᴰ.head q
    go false e r (inr k) = Memᴰ.tail (r k)

module _ (t : Tree) (ok : TreeOk t) (c : ℕ) (leaf : (x : ℕ) → Memᴰ x (t.children c) → ⊥) where
  abbrev t' : Tree
  t' = take_away t c

  r_links : (x : ℕ) → (c ≡ x → ⊥) → t'.parent x ≡ t.parent x
  unfolding take_away
  r_links x n = upd_other t.parent c 0 x n

  r_levels : (x : ℕ) → (c ≡ x → ⊥) → t'.level x ≡ t.level x
  unfolding take_away
  r_levels x n = upd_other t.level c 0 x n

  r_level_c : t'.level c ≡ 0
  unfolding take_away
  r_level_c = upd_same t.level c 0

  r_used : (x : ℕ) → (c ≡ x → ⊥) → t'.used x ≡ t.used x
  unfolding take_away
  r_used x n = upd_other t.used c false x n

  -- the children afterwards
  r_kid : (x m : ℕ) → Memᴰ m (t'.children x) → (Memᴰ m (t.children x)) × (c ≡ m → ⊥)
  unfolding take_away
  r_kid x m h =
      same? c x
      (λ e. elim (subst (λ l. Memᴰ m l) (upd_same _ c []) (subst (λ y. Memᴰ m (t'.children y)) (sym e) h)) [ ])
      (λ n. let h₁ = subst (λ l. Memᴰ m l) (upd_other _ c [] x n) h in
      same? (t.parent c) x
      (λ e. let q = without_mem c m _ (subst (λ l. Memᴰ m l) (upd_same t.children (t.parent c) _) (subst (λ y. Memᴰ m (upd t.children (t.parent c) (without c (t.children (t.parent c))) y)) (sym e) h₁)) in
      (subst (λ y. Memᴰ m (t.children y)) e q.0, q.1))
      (λ d. let h₂ = subst (λ l. Memᴰ m l) (upd_other t.children (t.parent c) _ x d) h₁ in
      (h₂, λ q. d (ap t.parent q ∙ ok.kid_par x m h₂))))

  r_kids : (x m : ℕ) → (c ≡ x → ⊥) → (c ≡ m → ⊥) → Memᴰ m (t.children x) → Memᴰ m (t'.children x)
  unfolding take_away
  r_kids x m n d h =
      rw (upd_other (upd t.children (t.parent c) (without c (t.children (t.parent c)))) c [] x n)
      (same? (t.parent c) x
      (λ e. subst (λ y. Memᴰ m (t.children y) → Memᴰ m (upd t.children (t.parent c) (without c (t.children (t.parent c))) y)) e (λ h. rw (upd_same t.children (t.parent c) (without c (t.children (t.parent c)))) (without_keeps c m _ h d)) h)
      (λ e. rw (upd_other t.children (t.parent c) (without c (t.children (t.parent c))) x e) h))

  -- whoever has a parent has another than c
  r_up : (x n : ℕ) → t.level x ≡ suc n → c ≡ t.parent x → ⊥
  r_up x n e q = leaf x (subst (λ y. Memᴰ x (t.children y)) (sym q) (ok.child x n e))

  r_lvl : (x n : ℕ) → t'.level x ≡ suc n → (c ≡ x → ⊥) × (t.level x ≡ suc n)
  r_lvl x n e = same? c x (λ q. let z : t'.level x ≡ 0 = ap t'.level (sym q) ∙ r_level_c in absurd (omega arith)) (λ d. (d, sym (r_levels x d) ∙ e))

  pub remove_tree : TreeOk t'
  remove_tree = record {
    lower = λ x n e. let q = r_lvl x n e in rw (r_links x q.0, r_levels (t.parent x) (r_up x n q.1)) (ok.lower x n q.1);
    kid_par = λ x m h. let q = r_kid x m h in r_links m q.1 ∙ ok.kid_par x m q.0;
    kid_lvl = λ x m h. let q = r_kid x m h in r_levels m q.1 ∙ ok.kid_lvl x m q.0 ∙ ap suc (sym (r_levels x (λ d. leaf m (subst (λ y. Memᴰ m (t.children y)) (sym d) q.0))));
    kid_used = λ x m h. let q = r_kid x m h in r_used m q.1 ∙ ok.kid_used x m q.0;
    above = λ x n e. let q = r_lvl x n e in rw (r_links x q.0) (r_used (t.parent x) (r_up x n q.1) ∙ ok.above x n q.1);
    child = λ x n e. let q = r_lvl x n e in rw (r_links x q.0) (r_kids (t.parent x) x (r_up x n q.1) q.0 (ok.child x n q.1));
  }

  module _ (a b : Files PageData) (k : FilesOk t a) (empty : (b c).state ≡ absent) (others : (x : ℕ) → (c ≡ x → ⊥) → b x ≡ a x) (pf : ℕ → Option (List ℕ)) (g : Agree t a pf) where
    r_was : (x : ℕ) → (c ≡ x → ⊥) → Alive b x → Alive a x
    r_was x n al = ap (λ (f : File PageData). live f.state) (sym (others x n)) ∙ al

    r_leaf : (x p : ℕ) → p < 64 → Alive a x → (a x).map p ≡ unmapped → c ≡ t.parent x → ⊥
    r_leaf x p l al u e = leaf x (subst (λ y. Memᴰ x (t.children y)) (sym e) (k.listed x p l al u))

    pub remove_agree : Agree t' b (upd pf c none)
    remove_agree =
        agree_one t t' a b pf g c none (λ x n. ap (λ (f : File PageData). is_absent f.state) (others x n)) r_was
        (λ x p l n al. away_page t t' a b k c r_links r_levels others r_leaf x p l n (r_was x n al))
        (λ x n al. away_size t t' a b k c r_links r_levels others r_leaf x n (r_was x n al))
        (sym (ap is_absent empty)) (λ l e h. cc) (λ l e h i j. cc)
