-- Aligned groups of pages, of any size: which pages are in one group; a size of more than 64 is as one of 64; the extra pages of a write are below 64, and a
-- narrow write has none. Assumes nothing.
use mathlib.Core.List.Memᴰ
use mathlib.Core.List.{List, Memᴰ, []}
use mathlib.Core.Logic.{⊎_elim}
use mathlib.Core.Path.{refl, ◌≡◌}
use Prim.Native.Nat.{◌*◌, ◌+◌, ◌-◌, ◌/◌, ◌<◌, max, suc, zero, ℕ, ◌≤◌}
use native.Mathlib.Nat.{div-lt_iff_lt-mul, div-mul-le_self, le-div_iff_mul-le, zero-mul}
use native.Mathlib.Omega.{arith}
use lib.ListN.{length}
use Rattle.rules.proofs.Agreement.Agree.{from_high, from_low}
use Rattle.rules.specs.Rules.{Work, change, extra_pages, from, group_end, group_first, group_size, touched, write_file}
use Rattle.rules.specs.State.{Tree, page_bytes}
use Rattle.rules.specs.Storage.{Storage}

pub group_some : (g : ℕ) → 0 < group_size g
group_some g = omega arith

module _ (G : ℕ) (some : 0 < G) where
  -- groups are in order
  pub group_order : (a q : ℕ) → a ≤ q → a / G ≤ q / G
  group_order a q l = let h = div-mul-le_self a G in (le-div_iff_mul-le some).1 (omega arith)

  -- a page before the first of a group, and one behind its last
  pub group_before : (a p : ℕ) → p < a / G * G → p / G < a / G
  group_before a p l = (div-lt_iff_lt-mul some).1 l

  next_group : (b : ℕ) → suc (b / G) * G ≡ b / G * G + G
  next_group b = omega arith

  pub group_behind : (b p : ℕ) → b / G * G + G ≤ p → b / G < p / G
  group_behind b p l =
      let e = next_group b in
      let h : suc (b / G) ≤ p / G = (le-div_iff_mul-le some).1 (omega arith) in
      omega arith

  -- pages of one group
  pub group_down : (a p : ℕ) → a / G * G ≤ p → p ≤ a → p / G ≡ a / G
  group_down a p l h =
      let x : a / G ≤ p / G = (le-div_iff_mul-le some).1 l in
      let y = group_order p a h in
      omega arith

  pub group_up : (b p : ℕ) → b ≤ p → p < b / G * G + G → p / G ≡ b / G
  group_up b p l h =
      let x = group_order b p l in
      let e = next_group b in
      let y : p / G < suc (b / G) = (div-lt_iff_lt-mul some).1 (omega arith) in
      omega arith

-- a page is in its group
pub group_low : (g p : ℕ) → group_first g p ≤ p
group_low g p = let h = div-mul-le_self p (group_size g) in omega arith

pub group_high : (g p : ℕ) → p < group_first g p + group_size g
group_high g p =
    let G : ℕ = group_size g in
    let h : p < suc (p / G) * G = (div-lt_iff_lt-mul (group_some g)).0 (omega arith) in
    let e = next_group G (group_some g) p in
    omega arith

-- a group size of more than 64 is as one of 64
wide_first : (g p : ℕ) → 64 ≤ g → p < 64 → group_first g p ≡ 0
wide_first g p l h =
    let q : p / group_size g < 1 = (div-lt_iff_lt-mul (group_some g)).1 (omega arith) in
    let e : p / group_size g ≡ 0 = omega arith in
    rw e (zero-mul (group_size g))

pub wide_same : (g off n : ℕ) → 64 ≤ g → off + n ≤ 32768 → extra_pages g off n ≡ extra_pages 64 off n
unfolding extra_pages
wide_same g off zero l h = refl
wide_same g off (suc n) l h =
    let x : group_first g (off / 512) ≡ group_first 64 (off / 512) = omega (arith, wide_first g (off / 512) l (omega arith)) in
    let y : group_end g ((off + n) / 512) ≡ group_end 64 ((off + n) / 512) = omega (arith, wide_first g ((off + n) / 512) l (omega arith)) in
    rw (x, y)

-- the extra pages are pages
pub extra_under : (g off n p : ℕ) → off + n ≤ 32768 → Memᴰ p (extra_pages g off n) → p < 64
unfolding extra_pages
extra_under g off zero p l m = elim m [ ]
extra_under g off (suc n) p l m =
    ⊎_elim
    (λ i. let a = from_low _ _ p i in let b = from_high _ _ p i in omega arith)
    (λ i. let a = from_low _ _ p i in let b = from_high _ _ p i in omega arith)
    (Memᴰ.append_cases (from (group_first g (off / 512)) (off / 512 - group_first g (off / 512))) m)

-- IN A NARROW WRITE the touched groups are the touched pages: there are no others
pub narrow_none : (off n : ℕ) → extra_pages 1 off n ≡ []
unfolding extra_pages from
narrow_none off zero = refl
narrow_none off (suc n) =
    let x : off / page_bytes - group_first 1 (off / page_bytes) ≡ 0 = omega arith in
    let y : group_end 1 ((off + n) / page_bytes) - suc ((off + n) / page_bytes) ≡ 0 = omega arith in
    rw (x, y)

-- so it is the write of document 01
pub narrow_write : (S : Storage) (t : Tree) (s off : ℕ) (bs : List ℕ) (w : Work S) → let ps = touched off (length bs) in
    write_file S t 1 s off bs w ≡ change S t s ps ps [] [] (S.over off bs) (λ n. max n (off + length bs)) w
unfolding write_file
narrow_write S t s off bs w = rw (narrow_none off (length bs))
