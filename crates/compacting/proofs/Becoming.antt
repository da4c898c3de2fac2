-- Owners that the code notes one after another. Assumes nothing.
use mathlib.Core.List.{List}
use mathlib.Core.Path.{refl, subst, sym, ◌∙◌, ◌≡◌}
use Prim.Native.Nat.{ℕ}
use Rattle.compacting.proofs.Tracking.{tracked_noted}
use Rattle.compacting.specs.Owners.{Become, OwnersOf, Tracked, noted}
use Rattle.compacting.specs.declared.owners.Owners.{Owners}

-- none
pub become_none : (o : Owners) (l : List ℕ) → o.places ≡ l → Become o o l
become_none o l e = record { first = refl; places = e }

-- more of them, as f notes them in a window
pub become_next : (o o' o'' : Owners) (l m : List ℕ) (f : List ℕ → ℕ → List ℕ) → Become o o' l → Become o' o'' (f o'.places o'.first) → f l o.first ≡ m → Become o o'' m
become_next o o' o'' l m f h k e = record { first = k.first ∙ h.first; places = k.places ∙ (λ i. f (h.places i) (h.first i)) ∙ e }

pub become_as : (o o' : Owners) (l m : List ℕ) → Become o o' l → l ≡ m → Become o o' m
become_as o o' l m h e = record { first = h.first; places = h.places ∙ e }

-- the owner of one block
pub tracked_become : (t : List ℕ) (o o' : Owners) (n b b' q : ℕ) → Become o o' (noted o.places o.first b' q) → b' ≡ b → Tracked t (noted o.places o.first b q) o.first n → OwnersOf t o' n
tracked_become t o o' n b b' q h e k = subst (λ x. Tracked t o'.places x n) (sym h.first) (tracked_noted t o.places o'.places o.first n b b' q h.places e k)
