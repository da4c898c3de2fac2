-- A function below a bound as a list, and back. Assumes nothing.
use Rattle.std.specs.Prelude.{◌≡◌, List, [], ◌∷◌, length, get_or}
use Rattle.std.proofs.Math.Path.{refl, ap}
use Rattle.std.proofs.Common.{sym, ◌∙◌, arith, ext_get_or}
use Prim.Native.Nat.{ℕ, zero, suc, ◌<◌}

module _ {A : Type 0} where
  -- f 0, .., f (n - 1)
  unfoldable pub tab : ℕ → (ℕ → A) → List A
  tab zero f = []
  tab (suc n) f = f zero ∷ tab n (λ i. f (suc i))

  pub length_tab : (n : ℕ) (f : ℕ → A) → length (tab n f) ≡ n
  unfolding tab
  length_tab zero f = refl
  length_tab (suc n) f = ap suc (length_tab n (λ i. f (suc i)))

  pub get_d_tab : (n : ℕ) (f : ℕ → A) (i : ℕ) (d : A) → i < n → get_or (tab n f) i d ≡ f i
  unfolding tab
  get_d_tab zero f i d h = absurd (omega arith)
  get_d_tab (suc n) f zero d h = refl
  get_d_tab (suc n) f (suc i) d h = get_d_tab n (λ i. f (suc i)) i d (omega arith)

  -- a list whose elements are f's is f tabulated
  pub tab_of : (d : A) (n : ℕ) (f : ℕ → A) (l : List A) → length l ≡ n → ((i : ℕ) → i < n → get_or l i d ≡ f i) → tab n f ≡ l
  tab_of d n f l len h =
      ext_get_or d (tab n f) l (length_tab n f ∙ sym len)
      (λ i k. let b : i < n = omega (arith, length_tab n f) in get_d_tab n f i d b ∙ sym (h i b))
