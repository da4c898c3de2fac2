-- The steps of the recursions that the code takes: going up the parents for a page, for a size and for what is marked, and the tests of a file.
-- Assumes nothing.
use mathlib.Core.Bool.{false, true, true≢false}
use mathlib.Core.Path.{ap, refl, sym, ◌≡◌}
use Prim.Native.Nat.{◌+◌, ◌-◌, ◌<◌, suc, zero, ℕ, ◌≤◌}
use native.Mathlib.Numerals.{sub-one}
use native.Mathlib.Omega.{arith}
use lib.Dec.{eqb}
use borrow.Author.Tests.{eq-eqb, ne_eqb}
use Rattle.maps.specs.Upward.{looks_from, resolve_from, size_from}
use Rattle.rules.proofs.Steps.States.{virgin_is}
use Rattle.rules.proofs.Steps.Walk.{looks_up_most}
use Rattle.rules.specs.Reading.{dependent, depends_on, looks, looks_up, needs, reaches, resolve, shown_entry, shown_size, size_by_reading, walk}
use Rattle.rules.specs.State.{Entry, File, Files, State, Tables, absent, hole, is_unmapped, is_virgin, live, marked, own, stored, tree_of, unmapped, virgin}

-- ---- a page

-- from a set with its own level, it is what the page resolves to
pub resolve_level : (tb : Tables) (f p s n : ℕ) → n ≡ (tb.sets s).level → resolve_from tb f p s n ≡ resolve (tree_of tb.sets) (tb.files f) s p
unfolding resolve_from resolve
resolve_level tb f p s n e = ap (λ m. walk (λ x. (tb.sets x).parent) (λ (x : File ℕ). shown_entry (x.map p)) hole m (tb.files f) s) e

module _ (tb : Tables) (f p s : ℕ) where
  pub resolve_low : (n : ℕ) → n ≡ 0 → (tb.files f s).map p ≡ unmapped → resolve_from tb f p s n ≡ hole
  unfolding resolve_from walk
  resolve_low n e h = rw (e, h)

  pub resolve_above : (n : ℕ) → (n ≡ 0 → ⊥) → (tb.files f s).map p ≡ unmapped → resolve_from tb f p s n ≡ resolve_from tb f p (tb.sets s).parent (n - 1)
  unfolding resolve_from walk
  resolve_above zero e h = absurd (e refl)
  resolve_above (suc n) e h = rw (h, sub-one)

  resolve_hole : (n : ℕ) → (tb.files f s).map p ≡ hole → resolve_from tb f p s n ≡ hole
  unfolding resolve_from walk
  resolve_hole zero h = rw h
  resolve_hole (suc n) h = rw h

  resolve_stored : (n b : ℕ) → (tb.files f s).map p ≡ stored b → resolve_from tb f p s n ≡ stored b
  unfolding resolve_from walk
  resolve_stored zero b h = rw h
  resolve_stored (suc n) b h = rw h

  -- an entry that is not unmapped
  pub resolve_here : (n : ℕ) (e : Entry ℕ) → e ≡ (tb.files f s).map p → is_unmapped e ≡ false → e ≡ resolve_from tb f p s n
  resolve_here n unmapped h k = absurd (true≢false k)
  resolve_here n hole h k = sym (resolve_hole n (sym h))
  resolve_here n (stored b) h k = sym (resolve_stored n b (sym h))

-- ---- the maps looked at

-- from a set with its own level, they are those of the rules
pub looks_level : (tb : Tables) (f p s n : ℕ) → n ≡ (tb.sets s).level → looks_from tb f p s n ≡ looks (tree_of tb.sets) (tb.files f) s p
unfolding looks_from looks
looks_level tb f p s n e = ap (λ m. looks_up (λ x. (tb.sets x).parent) p m (tb.files f) s) e

-- LAW: at most one more than the parents
pub looks_most : (tb : Tables) (f p s n : ℕ) → looks_from tb f p s n ≤ n + 1
unfolding looks_from
looks_most tb f p s n = omega (arith, looks_up_most (λ x. (tb.sets x).parent) p n (tb.files f) s)

-- so at most 8
pub looks_in_8 : (tb : Tables) (f p s n x : ℕ) → x ≡ looks_from tb f p s n → n < 8 → x ≤ 8
looks_in_8 tb f p s n x e l = omega (arith, looks_most tb f p s n)

module _ (tb : Tables) (f p s : ℕ) where
  pub looks_low : (n : ℕ) → n ≡ 0 → looks_from tb f p s n ≡ 1
  unfolding looks_from looks_up
  looks_low n e = rw e

  pub looks_above : (n : ℕ) → (n ≡ 0 → ⊥) → (tb.files f s).map p ≡ unmapped → looks_from tb f p s n ≡ looks_from tb f p (tb.sets s).parent (n - 1) + 1
  unfolding looks_from looks_up
  looks_above zero e h = absurd (e refl)
  looks_above (suc n) e h = rw (h, sub-one) (omega arith)

  pub looks_here : (n : ℕ) → is_unmapped ((tb.files f s).map p) ≡ false → looks_from tb f p s n ≡ 1
  unfolding looks_from looks_up
  looks_here zero h = refl
  looks_here (suc n) h = rw h

-- ---- a size

pub size_level : (tb : Tables) (f s n : ℕ) → n ≡ (tb.sets s).level → size_from tb f s n ≡ size_by_reading (tree_of tb.sets) (tb.files f) s
unfolding size_from size_by_reading
size_level tb f s n e = ap (λ m. walk (λ x. (tb.sets x).parent) (λ (x : File ℕ). shown_size x.state x.size) 0 m (tb.files f) s) e

module _ (tb : Tables) (f s : ℕ) where
  size_shown : (l : State) (n : ℕ) → (tb.files f s).state ≡ l → is_virgin l ≡ false → size_from tb f s n ≡ (tb.files f s).size
  unfolding size_from walk
  size_shown absent zero e h = rw e
  size_shown absent (suc n) e h = rw e
  size_shown own zero e h = rw e
  size_shown own (suc n) e h = rw e
  size_shown virgin n e h = absurd (true≢false h)
  size_shown marked zero e h = rw e
  size_shown marked (suc n) e h = rw e

  pub size_here : (n : ℕ) → is_virgin (tb.files f s).state ≡ false → size_from tb f s n ≡ (tb.files f s).size
  size_here n h = size_shown (tb.files f s).state n refl h

  pub size_low : (n : ℕ) → n ≡ 0 → is_virgin (tb.files f s).state ≡ true → size_from tb f s n ≡ 0
  unfolding size_from walk
  size_low n e h = rw (e, virgin_is (tb.files f s).state h)

  pub size_above : (n : ℕ) → (n ≡ 0 → ⊥) → is_virgin (tb.files f s).state ≡ true → size_from tb f s n ≡ size_from tb f (tb.sets s).parent (n - 1)
  unfolding size_from walk
  size_above zero e h = absurd (e refl)
  size_above (suc n) e h = rw (virgin_is (tb.files f s).state h, sub-one)

-- ---- the tests of a file

pub needs_live : (files : Files ℕ) (s p : ℕ) → live (files s).state ≡ true → is_unmapped ((files s).map p) ≡ needs files s p
unfolding needs
needs_live files s p h = rw h

-- ---- who is marked

pub reaches_level : (tb : Tables) (f c s n : ℕ) → n ≡ (tb.sets s).level → depends_on (tree_of tb.sets) (tb.files f) c n s ≡ reaches (tree_of tb.sets) (tb.files f) c s
unfolding reaches
reaches_level tb f c s n e = ap (λ m. depends_on (tree_of tb.sets) (tb.files f) c m s) e

module _ (tb : Tables) (f c s : ℕ) where
  pub dep_here : (n : ℕ) → c ≡ s → depends_on (tree_of tb.sets) (tb.files f) c n s ≡ true
  unfolding depends_on
  dep_here zero e = eq-eqb c s e
  dep_here (suc n) e = rw (eq-eqb c s e)

  pub dep_stop : (n : ℕ) → (c ≡ s → ⊥) → dependent (tb.files f s) ≡ false → depends_on (tree_of tb.sets) (tb.files f) c n s ≡ false
  unfolding depends_on
  dep_stop zero e h = ne_eqb c s e
  dep_stop (suc n) e h = rw (ne_eqb c s e, h)

  pub dep_up : (n : ℕ) → (n ≡ 0 → ⊥) → (c ≡ s → ⊥) → dependent (tb.files f s) ≡ true
      → depends_on (tree_of tb.sets) (tb.files f) c n s ≡ depends_on (tree_of tb.sets) (tb.files f) c (n - 1) (tb.sets s).parent
  unfolding depends_on
  dep_up zero q e h = absurd (q refl)
  dep_up (suc n) q e h = rw (ne_eqb c s e, h, sub-one)

  pub dep_last : (n : ℕ) → n ≡ 0 → depends_on (tree_of tb.sets) (tb.files f) c n s ≡ eqb c s
  unfolding depends_on
  dep_last n q = rw q
