-- Two numbers that change places, and entries under it. Assumes nothing.
use mathlib.Core.Bool.{true≢false}
use mathlib.Core.Path.{ap, refl, subst, sym, ◌∙◌, ◌≡◌}
use Prim.Native.Nat.{◌<◌, ℕ}
use borrow.Author.Tests.{eq-eqb, ne_eqb}
use Rattle.base.specs.Logic.{same?}
use Rattle.compaction.proofs.Places.{name_of}
use Rattle.compacting.specs.Exchange.{swapped}
use Rattle.rules.proofs.Blocks.RealStore.{none_stored}
use Rattle.rules.proofs.Storages.MapBlocks.{map_entry}
use Rattle.rules.specs.State.{Entry, hole, is_stored, stored, unmapped}

pub swap_left : (a b : ℕ) → swapped a b a ≡ b
unfolding swapped
swap_left a b = rw (eq-eqb a a refl)

pub swap_right : (a b : ℕ) → swapped a b b ≡ a
unfolding swapped
swap_right a b = same? a b (λ e. rw (eq-eqb a b e) (sym e)) (λ n. rw (ne_eqb a b n, eq-eqb b b refl))

pub swap_other : (a b x : ℕ) → (a ≡ x → ⊥) → (b ≡ x → ⊥) → swapped a b x ≡ x
unfolding swapped
swap_other a b x n m = rw (ne_eqb a x n, ne_eqb b x m)

-- a number by cases: the first, the second, another
pub swap_cases : (P : ℕ → ℕ → Type 0) (a b : ℕ) → P a b → P b a → ((x : ℕ) → (a ≡ x → ⊥) → (b ≡ x → ⊥) → P x x) → (x : ℕ) → P x (swapped a b x)
swap_cases P a b l r o x =
    same? a x
    (λ e. subst (λ y. P y (swapped a b y)) e (subst (P a) (sym (swap_left a b)) l))
    (λ n. same? b x
    (λ e. subst (λ y. P y (swapped a b y)) e (subst (P b) (sym (swap_right a b)) r))
    (λ m. subst (P x) (sym (swap_other a b x n m)) (o x n m)))

pub swap_twice : (a b x : ℕ) → swapped a b (swapped a b x) ≡ x
swap_twice a b x = swap_cases (λ x y. swapped a b y ≡ x) a b (swap_right a b) (swap_left a b) (λ x n m. swap_other a b x n m) x

pub swap_below : (B a b x : ℕ) → a < B → b < B → x < B → swapped a b x < B
swap_below B a b x h k = swap_cases (λ x y. x < B → y < B) a b (λ _. k) (λ _. h) (λ x n m l. l) x

pub swap_self : (a x : ℕ) → swapped a a x ≡ x
swap_self a x = swap_cases (λ x y. y ≡ x) a a refl refl (λ x n m. refl) x

-- an entry under it
pub map_same : (name : ℕ → ℕ) (e : Entry ℕ) → ((x : ℕ) → e ≡ stored x → name x ≡ x) → map_entry name e ≡ e
map_same name unmapped h = refl
map_same name hole h = refl
map_same name (stored x) h = ap stored (h x refl)

pub map_was : (a b x : ℕ) (e : Entry ℕ) → map_entry (swapped a b) e ≡ stored x → e ≡ stored (swapped a b x)
map_was a b x unmapped h = absurd (none_stored x h)
map_was a b x hole h = absurd (true≢false (sym (ap is_stored h)))
map_was a b x (stored y) h = ap stored (sym (swap_twice a b y) ∙ ap (swapped a b) (ap name_of h))
