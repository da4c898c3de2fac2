-- Own need, a page at a time. Assumes nothing.
use mathlib.Core.Bool.{◌&&◌, false, not, true}
use mathlib.Core.Path.{ap, refl, ◌≡◌}
use Prim.Native.Nat.{◌%◌, ◌+◌, ◌-◌, ◌/◌, ◌<◌, suc, zero, ℕ, ◌≤◌}
use native.Mathlib.Numerals.{add-one}
use native.Mathlib.Omega.{arith}
use lib.Dec.{eqb, ltb}
use borrow.Author.Tests.{eq-eqb, le-ltb, lt-ltb, ne_eqb}
use Rattle.base.specs.Logic.{digit, test?}
use Rattle.rules.specs.Reading.{resolve, size_by_reading}
use Rattle.rules.specs.Rules.{count_in, from, kept_pages, own_need, touched, truncate_need}
use Rattle.rules.specs.State.{Files, Tree, is_stored}
use Rattle.rules.specs.Storage.{real}

module _ (files : Files ℕ) (s : ℕ) where
  -- no page is left
  own_none : (a m : ℕ) → m ≡ 0 → own_need real s (from a m) files ≡ 0
  unfolding own_need count_in from
  own_none a m e = rw e

  pub own_start : (a m end : ℕ) → end ≡ a + m → 0 + own_need real s (from a (end - a)) files ≡ own_need real s (from a m) files
  own_start a m end e = let d : end - a ≡ m = omega arith in omega (arith, ap (λ k. own_need real s (from a k) files) d)

  pub own_end : (n i end w : ℕ) → end ≤ i → n + own_need real s (from i (end - i)) files ≡ w → n ≡ w
  own_end n i end w l h = omega (arith, own_none i (end - i) (omega arith))

  own_more : (a m : ℕ) → own_need real s (from a (suc m)) files ≡ digit (not (is_stored ((files s).map a))) + own_need real s (from (suc a) m) files
  unfolding own_need count_in from
  own_more a m = refl

  -- one page is counted: n is the need so far, page i is the next, and w the whole need
  pub own_turn : (n i end x w : ℕ) → i < end → x ≡ digit (not (is_stored ((files s).map i))) → n + own_need real s (from i (end - i)) files ≡ w
      → n + x + own_need real s (from (i + 1) (end - (i + 1))) files ≡ w
  own_turn n i end x w l e h =
      let a : end - i ≡ suc (end - (i + 1)) = omega arith in
      let b = own_more i (end - (i + 1)) in
      let c : own_need real s (from i (end - i)) files ≡ own_need real s (from i (suc (end - (i + 1)))) files = ap (λ k. own_need real s (from i k) files) a in
      let d : own_need real s (from (i + 1) (end - (i + 1))) files ≡ own_need real s (from (suc i) (end - (i + 1))) files = ap (λ k. own_need real s (from k (end - (i + 1))) files) (add-one i) in
      omega arith

-- the pages that hold one byte or more
pub touched_from : (off n : ℕ) → (n ≡ 0 → ⊥) → from (off / 512) ((off + (n - 1)) / 512 - off / 512 + 1) ≡ touched off n
unfolding touched
touched_from off zero h = absurd (h refl)
touched_from off (suc n) h = let e : suc n - 1 ≡ n = omega arith in rw (e, add-one)

pub no_bytes : (files : Files ℕ) (s off n : ℕ) → n ≡ 0 → 0 ≡ own_need real s (touched off n) files
unfolding own_need count_in touched
no_bytes files s off n e = rw e

-- ---- truncate

module _ (t : Tree) (files : Files ℕ) (s n : ℕ) where
  -- the size is not above n
  pub need_above : size_by_reading t files s ≤ n → 0 ≡ truncate_need real t s n files
  unfolding truncate_need
  need_above l = rw (le-ltb n (size_by_reading t files s) l)

  -- no page is to get an own block
  need_none : (not (eqb (n % 512) 0) && is_stored (resolve t files s (n / 512))) ≡ false → 0 ≡ truncate_need real t s n files
  unfolding truncate_need kept_pages own_need count_in
  need_none h = test? (ltb n (size_by_reading t files s)) (λ e. rw (e, h)) (λ e. rw e)

  -- n is a multiple of 512
  pub need_multiple : n % 512 ≡ 0 → 0 ≡ truncate_need real t s n files
  need_multiple e = need_none (rw (eq-eqb (n % 512) 0 e))

  -- its page does not resolve to stored
  pub need_hole : (n % 512 ≡ 0 → ⊥) → is_stored (resolve t files s (n / 512)) ≡ false → 0 ≡ truncate_need real t s n files
  need_hole d h = need_none (rw (ne_eqb (n % 512) 0 d) h)

  -- its page resolves to stored: is it stored in this map?
  pub need_one : n < size_by_reading t files s → (n % 512 ≡ 0 → ⊥) → is_stored (resolve t files s (n / 512)) ≡ true
      → digit (not (is_stored ((files s).map (n / 512)))) ≡ truncate_need real t s n files
  unfolding truncate_need kept_pages own_need count_in
  need_one l d h = rw (lt-ltb n (size_by_reading t files s) l, ne_eqb (n % 512) 0 d, h) (omega arith)
