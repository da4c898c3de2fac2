-- A function with one value changed. Assumes nothing.
use Rattle.std.specs.Prelude.{◌≡◌, refl, cond, ℕ, eqb}
use Rattle.std.proofs.Math.Path.{sym, fun_ext}
use Rattle.std.proofs.Common.{◌∙◌, ap, subst}
use borrow.Author.Tests.{eq-eqb, ne_eqb}
use Rattle.base.specs.Logic.{same?}

unfoldable pub upd : {A : Type 0} → (ℕ → A) → ℕ → A → ℕ → A
upd f i v j = cond (eqb i j) v (f j)

module _ {A : Type 0} where
  pub upd_same : (f : ℕ → A) (i : ℕ) (v : A) → upd f i v i ≡ v
  unfolding upd
  upd_same f i v = rw (eq-eqb i i refl)

  pub upd_other : (f : ℕ → A) (i : ℕ) (v : A) (j : ℕ) → (i ≡ j → ⊥) → upd f i v j ≡ f j
  unfolding upd
  upd_other f i v j h = rw (ne_eqb i j h)

  -- a value put where it is
  pub upd_self : (f : ℕ → A) (i : ℕ) → upd f i (f i) ≡ f
  upd_self f i = fun_ext (λ j. same? i j (λ e. subst (λ x. upd f i (f i) x ≡ f x) e (upd_same f i (f i))) (λ n. upd_other f i (f i) j n))

  -- a second value at the same place
  pub upd_upd : (f : ℕ → A) (i : ℕ) (v w : A) → upd (upd f i v) i w ≡ upd f i w
  upd_upd f i v w =
      fun_ext (λ j. same? i j
      (λ e. subst (λ x. upd (upd f i v) i w x ≡ upd f i w x) e (upd_same (upd f i v) i w ∙ sym (upd_same f i w)))
      (λ n. upd_other (upd f i v) i w j n ∙ upd_other f i v j n ∙ sym (upd_other f i w j n)))

  -- values at two places: either may be put first
  pub upd_swap : (f : ℕ → A) (i j : ℕ) (v w : A) → (i ≡ j → ⊥) → upd (upd f i v) j w ≡ upd (upd f j w) i v
  unfolding upd
  upd_swap f i j v w apart =
      fun_ext (λ x. same? i x
      (λ a. rw (eq-eqb i x a, ne_eqb j x (λ b. apart (a ∙ sym b))))
      (λ a. rw (ne_eqb i x a)))

  -- what the new value and every old one have, every value has
  pub upd_all : (P : A → Type 0) (f : ℕ → A) (i : ℕ) (v : A) → P v → ((j : ℕ) → P (f j)) → (j : ℕ) → P (upd f i v j)
  upd_all P f i v a b j =
      same? i j
      (λ e. subst (λ x. P (upd f i v x)) e (subst P (sym (upd_same f i v)) a))
      (λ n. subst P (sym (upd_other f i v j n)) (b j))

  -- a function with one value changed is known by its values
  pub upd_is : (g g' : ℕ → A) (i : ℕ) (v : A) → g' i ≡ v → ((j : ℕ) → (i ≡ j → ⊥) → g' j ≡ g j) → g' ≡ upd g i v
  upd_is g g' i v here other = fun_ext (λ j. same? i j
      (λ e. subst (λ x. g' x ≡ upd g i v x) e (here ∙ sym (upd_same g i v)))
      (λ n. other j n ∙ sym (upd_other g i v j n)))

-- the same of two arguments
pub upd_in : {A : Type 0} (g g' : ℕ → ℕ → A) (i j : ℕ) (v : A) → g' i j ≡ v → ((x y : ℕ) → (i ≡ x → j ≡ y → ⊥) → g' x y ≡ g x y) → g' ≡ upd g i (upd (g i) j v)
upd_in g g' i j v here other =
    upd_is g g' i (upd (g i) j v) (upd_is (g i) (g' i) j v here (λ y n. other i y (λ _. n))) (λ x n. fun_ext (λ y. other x y (λ e _. n e)))

module _ {A B : Type 0} where
  -- what the changed value shares with the old one, every value shares
  pub upd_keeps : (g : A → B) (f : ℕ → A) (i : ℕ) (v : A) → g v ≡ g (f i) → (j : ℕ) → g (upd f i v j) ≡ g (f j)
  upd_keeps g f i v h j =
      same? i j (λ q. subst (λ x. g (upd f i v x) ≡ g (f x)) q (ap g (upd_same f i v) ∙ h)) (λ q. ap g (upd_other f i v j q))

  -- a changed value under a function of the place
  pub upd_map : (h : ℕ → A → B) (g : ℕ → A) (i : ℕ) (v : A) (j : ℕ) → h j (upd g i v j) ≡ upd (λ x. h x (g x)) i (h i v) j
  upd_map h g i v j =
      same? i j
      (λ e. subst (λ x. h x (upd g i v x) ≡ upd (λ y. h y (g y)) i (h i v) x) e (ap (h i) (upd_same g i v) ∙ sym (upd_same (λ x. h x (g x)) i (h i v))))
      (λ n. ap (h j) (upd_other g i v j n) ∙ sym (upd_other (λ x. h x (g x)) i (h i v) j n))
